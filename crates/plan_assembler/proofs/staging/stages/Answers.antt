use Rattle.std.proofs.Common.{◌≡◌, IfOk, List, ℕ, subst}
use Rattle.std.proofs.lemmas.Result.{IfOk-weaker}
use Rattle.plan_assembler.specs.Stages.{AreStages, stage_after}
use Rattle.plan_assembler.specs.Staging.{plan_graph, run_jobs, stage_lists, AreStageLists}
use Rattle.plan_assembler.proofs.PlanBack.{plan_staged}
use Rattle.plan_assembler.proofs.staging.stages.Goals as goal

pub returns : goal.returns
returns c =
    let q = c.plan-plan.result.now in
    let ss : List ℕ = c.in_ok-found.found.items in
    let staged : AreStages (plan_graph q) ss = rw c.in_ok-found.ensures.found (plan_staged q c.plan-plan.ensures.sound) in
    let made : IfOk c.lists.result (λ ls. ls ≡ stage_lists (stage_after ss) 0 ss (run_jobs 0 q.runs)) =
    rw (c.count_stages-count.ensures, c.as_slice.ensures.value, c.as_slice-2.ensures.value, c.as_slice-3.ensures.value, c.in_ok-jobs.ensures) at c.lists.ensures in
    IfOk-weaker c.lists.result _ (AreStageLists c.args.plan.now) (λ ls h. subst (λ p. AreStageLists p ls) c.plan-plan.ensures.same (ss, (staged, h))) made
