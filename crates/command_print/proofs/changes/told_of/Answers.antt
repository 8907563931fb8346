use Rattle.std.proofs.Common.{subst, sym}
use Rattle.command_io.proofs.Stopped.{stopped}
use Rattle.command_io.specs.Records.{IsStopped}
use Rattle.command_io.specs.declared.error.CommandError.{CommandError}
use Rattle.command_print.proofs.changes.told_of.Goals as goal

pub returns : goal.returns
returns g c =
    let plan = g.T.Table.plan c.args.board in
    subst (λ (error : CommandError). IsStopped plan c.args.entries.now error) (sym c.stop_error.ensures)
    (stopped plan c.args.entries.now c.in-Err.place c.in-Err.fault (λ named. c.in-Err.ensures.tells))
