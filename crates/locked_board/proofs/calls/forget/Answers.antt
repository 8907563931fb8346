use Rattle.std.proofs.Common.{rules, ◌==◌}
use Rattle.std.specs.Prelude.{not}
use Rattle.std.proofs.lemmas.Fn.{filter_same}
use Rattle.status_table.specs.Words.{StepCall}
use Rattle.locked_board.proofs.calls.forget.Goals as goal

pub returns-clause-left : goal.returns-clause-left
returns-clause-left c =
    filter_same _ (λ (call : StepCall). not (call.leg == c.args.leg)) _ (λ b answer f t. search rules) _ _ c.retain.ensures.filtered
