use Rattle.board_settled.specs.Words.{IsKept, kept_one}
use Rattle.board_settled.proofs.Records.{tells_settled}
use Rattle.board_settled.proofs.record.replay_record.Goals as goal

pub returns-in-Ok-clause-tells : goal.returns-in-Ok-clause-tells
returns-in-Ok-clause-tells c =
    let kept = c.in_ok-host.host.script.answers.entries in
    tells_settled (IsKept kept) _ c.args.plan.now c.args.entries.now c.in_ok-host.ensures.replays.1 (kept_one kept) (λ call declines a admits. declines a admits)
    c.in_ok-host.table.board c.board.result.now c.in-Ok.yes c.in_ok-host.ensures.board c.board.ensures.board c.in-Ok.ensures
