-- The outputs of a job.
use Rattle.std.specs.Prelude.{ℕ, Result, Ok, Err, List, [], ◌∷◌}
use Rattle.expr_value.specs.Context.{Contexts}
use Rattle.flow_model.specs.Mapping.{with_pair}
use Rattle.flow_model.specs.declared.reply.ValueFault.{ValueFault}
use Rattle.plan_values.specs.Texts.{text_text}
use Rattle.plan_values.specs.Values.{Env}

-- An output before the others; one that faults is left out.
abbrev pub with_output : List ℕ → Result (List ℕ) ValueFault → Env → Env
with_output name (Ok bytes) others = (name, bytes) ∷ others
with_output name (Err fault) others = others

-- Each name with the value of its text, turned to text.
unfoldable pub outputs_value : Contexts → Env → Env
outputs_value c [] = []
outputs_value c (p ∷ ps) = with_output p.0 (text_text c p.1) (outputs_value c ps)

-- An output set among others; one that faults is left out.
abbrev pub with_output_set : List ℕ → Result (List ℕ) ValueFault → Env → Env
with_output_set name (Ok bytes) made = with_pair name bytes made
with_output_set name (Err fault) made = made
