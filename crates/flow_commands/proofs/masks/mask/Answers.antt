-- With no mask the text stays as it is.
use Rattle.std.proofs.Common.{sym, ◌∙◌}
use Rattle.std.proofs.lemmas.Result.{IfOk-weaker}
use Rattle.flow_commands.proofs.LongestMasks.{nothing_masked}
use Rattle.flow_commands.proofs.masks.mask.Goals as goal

pub returns-then-is_empty : goal.returns-then-is_empty
returns-then-is_empty c =
    IfOk-weaker c.from_str.result _ _
    (λ shown h. h ∙ sym (nothing_masked c.args.masks.now c.args.text.now (sym c.is_empty.ensures ∙ c.if-is_empty.true))) c.from_str.ensures
