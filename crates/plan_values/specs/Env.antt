-- The variables that an `env` defines, and levels of them laid one over another. The inputs of an action, its
-- `with`, are evaluated in the same way.
use Rattle.std.specs.Prelude.{ℕ, Option, Some, None, Result, Ok, Err, List, [], ◌∷◌}
use Rattle.expr_value.specs.Context.{Contexts}
use Rattle.expr_value.specs.Functions.{text_of_value}
use Rattle.flow_model.specs.Mapping.{with_pair}
use Rattle.flow_model.specs.Plain.{Plain, null, truth, whole, text, list, map}
use Rattle.flow_model.specs.declared.reply.ValueFault.{ValueFault}
use Rattle.plan_values.specs.Texts.{text_text}
use Rattle.plan_values.specs.Values.{Env}

-- The text of one value: a text is evaluated, any other value is turned to text.
unfoldable pub env_text : Contexts → Plain → Result (List ℕ) ValueFault
env_text c null = Ok (text_of_value null)
env_text c (truth b) = Ok (text_of_value (truth b))
env_text c (whole z) = Ok (text_of_value (whole z))
env_text c (text bytes) = text_text c bytes
env_text c (list vs) = Ok (text_of_value (list vs))
env_text c (map ms) = Ok (text_of_value (map ms))

-- A variable before the others, or the first fault.
abbrev pub with_variable : List ℕ → Result (List ℕ) ValueFault → Result Env ValueFault → Result Env ValueFault
with_variable name (Ok bytes) (Ok env) = Ok ((name, bytes) ∷ env)
with_variable name (Ok bytes) (Err fault) = Err fault
with_variable name (Err fault) others = Err fault

-- Each name with the text of its value, or the first fault.
unfoldable pub env_value : Contexts → List (List ℕ × Plain) → Result Env ValueFault
env_value c [] = Ok []
env_value c (p ∷ ps) = with_variable p.0 (env_text c p.1) (env_value c ps)

-- The pairs of one level set over those below it.
unfoldable pub laid_over : {V : Type 0} → List (List ℕ × V) → List (List ℕ × V) → List (List ℕ × V)
laid_over [] below = below
laid_over (p ∷ ps) below = laid_over ps (with_pair p.0 p.1 below)

-- The variables of an `env` set over those below it, or the first fault.
abbrev pub set_over_below : Result Env ValueFault → Env → Result Env ValueFault
set_over_below (Ok env) below = Ok (laid_over env below)
set_over_below (Err fault) below = Err fault

-- What is there, or else what is below.
abbrev pub or_below : {V : Type 0} → Option V → Option V → Option V
or_below None below = below
or_below (Some v) below = Some v
