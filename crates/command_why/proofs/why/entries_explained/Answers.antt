use Rattle.std.proofs.Common.{List, subst, sym}
use Rattle.command_io.proofs.Stopped.{stopped}
use Rattle.command_io.specs.Records.{IsStopped}
use Rattle.command_io.specs.declared.error.CommandError.{CommandError}
use Rattle.status_table.specs.Words.{Entry}
use Rattle.command_why.specs.Why.{GivesWhy}
use Rattle.command_why.proofs.why.entries_explained.Goals as goal

pub returns-in-Ok : goal.returns-in-Ok
returns-in-Ok c =
    subst (λ (es : List Entry). GivesWhy c.args.wanted c.args.plan.now es c.play_told.result) c.as_slice.ensures
    (c.play_told.ensures c.as_slice.result.now c.in-Ok.ensures.accounts.0)

pub returns-in-Err : goal.returns-in-Err
returns-in-Err c =
    subst (λ (es : List Entry). IsStopped c.args.plan.now es c.stop_error.result) c.as_slice.ensures
    (subst (λ (error : CommandError). IsStopped c.args.plan.now c.as_slice.result.now error) (sym c.stop_error.ensures)
    (stopped c.args.plan.now c.as_slice.result.now c.in-Err.place c.in-Err.fault c.in-Err.ensures.accounts))
