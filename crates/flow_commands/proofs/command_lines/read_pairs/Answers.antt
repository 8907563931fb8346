-- Fields are read up to the last, or to the first that is no pair.
use Rattle.std.proofs.Common.{◌∷◌, [], Some, sym, ap, ◌∙◌, arith, rules}
use Rattle.flow_commands.specs.Splits.{fields_of}
use Rattle.flow_commands.specs.CommandTexts.{all_pairs}
use Rattle.flow_commands.proofs.Splitting.{split_first-shorter}
use Rattle.flow_commands.proofs.Commanding.{pairs_onto, field_more, field_refused, field_last, field_last_refused}
use Rattle.flow_commands.proofs.command_lines.read_pairs.Goals as goal

pub returns-in_default-2 : goal.returns-in_default-2
returns-in_default-2 c =
    sym (field_refused c.loop-field.pairs c.loop-field.rest.now c.in-Some.field.now c.in-Some.after.now (sym c.in-Some.ensures) (sym c.in_ok-pair.ensures ∙ c.in_default-2.is))
    ∙ c.loop-field.invariant.0

pub loop-field-smaller : goal.loop-field-smaller
loop-field-smaller c = split_first-shorter (44 ∷ []) c.loop-field.rest.now c.in-Some.field.now c.in-Some.after.now (omega arith) (sym c.in-Some.ensures)

pub loop-field-preserved : goal.loop-field-preserved
loop-field-preserved c = (
  ap (λ ps. pairs_onto ps (all_pairs (fields_of c.in-Some.after.now))) c.in_ok-push.ensures.ok
      ∙ field_more c.loop-field.pairs c.in-Some-2.pair c.loop-field.rest.now c.in-Some.field.now c.in-Some.after.now (sym c.in-Some.ensures) (sym c.in_ok-pair.ensures ∙ c.in-Some-2.is)
      ∙ c.loop-field.invariant.0,
  search rules,
)

pub returns-in_default-3 : goal.returns-in_default-3
returns-in_default-3 c =
    sym (field_last_refused c.loop-field.pairs c.loop-field.rest.now (sym c.in_default.ensures) (sym c.in_ok-pair-2.ensures ∙ c.in_default-3.is))
    ∙ c.loop-field.invariant.0

pub returns : goal.returns
returns c =
    ap Some c.in_ok-push-2.ensures.ok
    ∙ sym (field_last c.loop-field.pairs c.in-Some-3.pair c.loop-field.rest.now (sym c.in_default.ensures) (sym c.in_ok-pair-2.ensures ∙ c.in-Some-3.is))
    ∙ c.loop-field.invariant.0
