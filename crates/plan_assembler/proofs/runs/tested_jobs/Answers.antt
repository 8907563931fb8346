use Rattle.std.proofs.Common.{◌≡◌, true, false, refl, inl, inr, rules}
use Rattle.plan_assembler.specs.Layout.{are_few, at_places}
use Rattle.plan_assembler.specs.Refusals.{TakenFail, TextFails}
use Rattle.plan_assembler.specs.Texts.{of_workflow}
use Rattle.plan_assembler.specs.declared.fault.FaultPlace.TheVariants as place
use Rattle.plan_assembler.specs.declared.fault.PlanFault.TheVariants as fault
use Rattle.plan_assembler.proofs.Answering.{answered_weaker, fault_answered}
use Rattle.plan_assembler.proofs.RunSteps.{makes_taken}
use Rattle.plan_assembler.proofs.runs.tested_jobs.Goals as goal

pub returns-then-not-are_few : goal.returns-then-not-are_few
returns-then-not-are_few c =
    let w = c.args.workflow.now in
    let no : are_few (at_places w.jobs c.args.numbering.now.order.now) ≡ false = search rules in
    fault_answered (TakenFail w c.args.run c.args.numbering.now.first (at_places w.jobs c.args.numbering.now.order.now)) fault.TooMany (inl (no, refl))

pub returns-in-Ok : goal.returns-in-Ok
returns-in-Ok c =
    let w = c.args.workflow.now in
    let yes : are_few (at_places w.jobs c.args.numbering.now.order.now) ≡ true = search rules in
    makes_taken w c.args.numbering.now.order.now c.args.run c.args.numbering.now.first c.jobs_of.result yes c.in-Ok.ensures c.jobs_of.ensures

pub returns-in-Err : goal.returns-in-Err
returns-in-Err c =
    let w = c.args.workflow.now in
    let yes : are_few (at_places w.jobs c.args.numbering.now.order.now) ≡ true = search rules in
    answered_weaker (TextFails (place.Run c.args.run) (of_workflow w)) (TakenFail w c.args.run c.args.numbering.now.first (at_places w.jobs c.args.numbering.now.order.now)) c.at_place.result
    (λ g x. inr (yes, inl x)) (c.at_place.ensures (of_workflow w) c.in-Err.ensures)
