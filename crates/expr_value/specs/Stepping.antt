-- The steps `.name` and `[index]` of a chain, as the evaluator takes them.
use Rattle.std.specs.Prelude.{ℕ, Option, Result, Ok, List}
use Rattle.std.specs.List.{filter_map}
use Rattle.expr_value.specs.Dereference.{Found, property_of, index_of, index_each, property_found, index_found}
use Rattle.expr_value.specs.PlainKind.{PlainKind}
use Rattle.expr_value.specs.Seen.{kind_seen}
use Rattle.expr_value.specs.declared.dereference.Step as lent
use Rattle.expr_value.specs.declared.dereference.Step.TheVariants.{Property, Index}
use Rattle.flow_model.specs.Plain.{Plain}
use Rattle.flow_model.specs.declared.reply.ValueFault.{ValueFault}

-- A step.
pub data Step : Type 0 where
  at_name : List ℕ → Step
  at_index : PlainKind → Step

-- A step, its text as bytes.
abbrev pub step_seen : lent.Step → Step
step_seen (Property name) = at_name name.now
step_seen (Index index) = at_index (kind_seen index)

-- What stands at a step from a value.
abbrev pub place_in : Step → Plain → Result (Option Plain) ValueFault
place_in (at_name name) v = Ok (property_of name v)
place_in (at_index index) v = index_of index v

-- What stands at a step from each value that has it.
abbrev pub places_in : Step → List Plain → Result (List Plain) ValueFault
places_in (at_name name) vs = Ok (filter_map (property_of name) vs)
places_in (at_index index) vs = index_each index vs

-- A chain after a step.
abbrev pub step_found : Step → Found → Result Found ValueFault
step_found (at_name name) found = Ok (property_found name found)
step_found (at_index index) found = index_found index found
