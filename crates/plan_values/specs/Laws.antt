-- Laws of the values, each the contract of a function that does nothing.
use Rattle.std.specs.Prelude.{◌≡◌, ℕ, Bool, true, false, if◌then◌else◌, Some, None, Ok, Err, List, [], ◌∷◌, ◌++◌}
use Rattle.expr_reader.specs.Accepts.{condition_read, stands_for_itself}
use Rattle.expr_reader.specs.Expr.{call, none}
use Rattle.expr_reader.specs.Template.{Piece, marked, names_status, SpellsCondition}
use Rattle.expr_reader.specs.declared.tree.Function.TheVariants.{Always}
use Rattle.expr_reader.specs.declared.tree.Context.{Context}
use Rattle.expr_value.specs.Context.{Contexts, context_value}
use Rattle.expr_value.specs.Functions.{is_success}
use Rattle.expr_value.specs.declared.status.Status.{Status}
use Rattle.flow_model.specs.Mapping.{value_at, keys_of, Ascends}
use Rattle.flow_model.specs.Plain.{Plain, text, map, no_members}
use Rattle.flow_model.specs.declared.plan.Flag.TheVariants.{Truth}
use Rattle.flow_model.specs.declared.reply.ValueFault.{ValueFault}
use Rattle.plan_values.specs.Env.{env_value, laid_over, or_below}
use Rattle.plan_values.specs.Outputs.{outputs_value}
use Rattle.plan_values.specs.Texts.{text_text, text_value, condition_value, flag_value}
use Rattle.plan_values.specs.Places.{sees}
use Rattle.plan_values.specs.Values.{Values, Env, contexts_at}
use Rattle.plan_values.specs.declared.place.TextPlace.{TextPlace}

-- A place gives a context its value where it sees it, and an empty map where it does not.
abbrev pub PlaceGivesWhatItSees : Type 0
PlaceGivesWhatItSees =
    (place : TextPlace) (values : Values) (x : Context)
    → context_value (contexts_at place values) x ≡ (if sees place x then values x else map no_members)

-- Of three levels the most specific one that has a name gives its value.
abbrev pub MostSpecificWins : Type 0
MostSpecificWins =
    (workflow job step : Env) (name : List ℕ) → Ascends job → Ascends step
    → value_at name (laid_over step (laid_over job workflow))
    ≡ or_below (value_at name step) (or_below (value_at name job) (value_at name workflow))

-- Levels that are laid over one another have their names in order, each once.
abbrev pub LevelsStayInOrder : Type 0
LevelsStayInOrder = (below above : Env) → Ascends below → Ascends (laid_over above below)

-- An `env` gives exactly the variables that it names, in the order of their names and each once.
abbrev pub EnvHasItsNames : Type 0
EnvHasItsNames =
    (c : Contexts) (pairs : List (List ℕ × Plain)) (env : Env) → Ascends pairs → env_value c pairs ≡ Ok env
    → (keys_of env ≡ keys_of pairs) × Ascends env

-- An output that faults takes out itself alone.
abbrev pub FaultTakesOutItsOutput : Type 0
FaultTakesOutItsOutput =
    (c : Contexts) (before after : Env) (name bytes : List ℕ) (fault : ValueFault)
    → text_text c bytes ≡ Err fault
    → outputs_value c (before ++ (name, bytes) ∷ after) ≡ outputs_value c (before ++ after)

-- An output with a value stands between those before it and those after it.
abbrev pub OutputStandsInItsPlace : Type 0
OutputStandsInItsPlace =
    (c : Contexts) (before after : Env) (name from bytes : List ℕ) → text_text c from ≡ Ok bytes
    → outputs_value c (before ++ (name, from) ∷ after)
    ≡ outputs_value c before ++ (name, bytes) ∷ outputs_value c after

-- A text that stands for itself is its own value.
abbrev pub TextIsItself : Type 0
TextIsItself =
    (c : Contexts) (bytes : List ℕ) → stands_for_itself bytes ≡ true → text_value c bytes ≡ Ok (text bytes)

-- The condition `always()` holds, whatever the status.
abbrev pub AlwaysHolds : Type 0
AlwaysHolds =
    (c : Contexts) (s : Status) (bytes : List ℕ) → SpellsCondition (marked (call Always none) ∷ []) bytes
    → condition_value c s (Some bytes) ≡ Ok true

-- A condition that names no status function does not hold
-- where the status is not success, and neither does none.
abbrev pub WaitsForSuccess : Type 0
WaitsForSuccess =
    (c : Contexts) (s : Status) → is_success s ≡ false
    → ((bytes : List ℕ) (ps : List Piece) → condition_read bytes ≡ Some ps → names_status ps ≡ false
    → condition_value c s (Some bytes) ≡ Ok false)
    × (condition_value c s None ≡ Ok false)

-- A flag that is a truth value is that.
abbrev pub TruthIsItself : Type 0
TruthIsItself = (c : Contexts) (b : Bool) → flag_value c (Truth b) ≡ b
