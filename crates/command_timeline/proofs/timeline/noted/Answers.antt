use Rattle.std.proofs.Common.{subst, sym}
use Rattle.command_io.specs.Records.{IsStopped}
use Rattle.command_io.specs.declared.error.CommandError.{CommandError}
use Rattle.command_timeline.proofs.Noted.{stopped}
use Rattle.command_timeline.proofs.timeline.noted.Goals as goal

pub returns-in-Err : goal.returns-in-Err
returns-in-Err c =
    subst (λ (error : CommandError). IsStopped c.args.plan.now c.args.entries.now error) (sym c.stop_error.ensures)
    (stopped c.in_ok-board.board c.args.plan.now c.args.entries.now c.in-Err.place c.in-Err.fault c.in_ok-board.ensures c.in-Err.ensures.plays)
