use Rattle.std.proofs.Common.{List, sym, subst}
use Rattle.status_table.specs.Words.{Roots, Workflow}
use Rattle.plan_assembler.specs.Refusals.{Answered, Refuses}
use Rattle.command_print.specs.Planning.{IsUnplanned}
use Rattle.command_io.specs.CommandError.{UnlessMemory}
use Rattle.command_io.specs.declared.error.CommandError.{CommandError}
use Rattle.command_print.proofs.Unplanned.{unplanned}
use Rattle.command_print.proofs.planning.planned.Goals as goal

pub returns : goal.returns
returns c =
    let choice = c.args.choice.now in
    let made = c.new-planner.ensures in
    subst (λ (t : CommandError). UnlessMemory t (IsUnplanned c.args.flows c.args.roots choice t)) (sym c.plan_error.ensures)
    (unplanned c.args.flows c.args.roots choice c.in-Err.fault
    (subst (λ (ws : List Workflow). Answered (Refuses ws c.args.roots choice) c.in-Err.fault) made.flows
    (subst (λ (roots : Roots). Answered (Refuses c.new-planner.result.flows roots choice) c.in-Err.fault) made.roots c.in-Err.ensures)))
