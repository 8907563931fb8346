-- The jobs of a run stand by their stage and then by their id.
use Rattle.std.proofs.Common.{◌≡◌, ◌∙◌, ◌<◌, inl, inr, ℕ, zero, suc, List, [], ◌∷◌, get_or, Some, Less, nat_cmp, slice_get, ap, sym, subst, arith}
use Rattle.std.proofs.lemmas.Option.{slice_get_within, get_or_from_slice_get}
use Rattle.std.specs.Cmp.Lexicographic.{slice_cmp}
use Rattle.std.specs.List.Sorted.{IsStrictlySortedBy}
use Rattle.flow_model.specs.Flow.{IsWorkflow}
use Rattle.flow_model.specs.declared.flow.FlowJob.{FlowJob}
use Rattle.flow_model.specs.declared.flow.Workflow.{Workflow}
use Rattle.flow_model.specs.declared.plan.JobPlan.{JobPlan}
use Rattle.flow_model.specs.declared.plan.Roots.{Roots}
use Rattle.flow_model.specs.declared.plan.RunPlan.{RunPlan}
use Rattle.flow_model.proofs.Places.{same_Some}
use Rattle.plan_assembler.specs.Laws.{stage_of, StandsBefore}
use Rattle.plan_assembler.specs.Layout.{ids_of, graph_of}
use Rattle.plan_assembler.specs.Plans.{AssemblesRun}
use Rattle.plan_assembler.specs.Stages.{AreStages}
use Rattle.plan_assembler.specs.declared.choice.Choice.{Choice}
use Rattle.plan_assembler.proofs.Cycles.{one_staging}
use Rattle.plan_assembler.proofs.LegsAlone.{all_at}
use Rattle.plan_assembler.proofs.Named.{place_is}
use Rattle.plan_assembler.proofs.RunJobs.{planned}
use Rattle.plan_assembler.proofs.Whole.{PlacesAscend, order_ascends}

-- of jobs that stand by their ids a lower place has a lower id
ids_below : (jobs : List FlowJob) → IsStrictlySortedBy (slice_cmp nat_cmp) (ids_of jobs) → (p k : ℕ) (a b : FlowJob) → p < k → slice_get jobs p ≡ Some a → slice_get jobs k ≡ Some b → slice_cmp nat_cmp a.id b.id ≡ Less
unfolding IsStrictlySortedBy
ids_below [] s p k a b l e f = absurd (cc)
ids_below (j ∷ jobs) s p zero a b l e f = absurd (omega (arith, l))
ids_below (j ∷ jobs) s zero (suc k) a b l e f =
    subst (λ (x : FlowJob). slice_cmp nat_cmp x.id b.id ≡ Less) (same_Some e) (all_at (λ id. slice_cmp nat_cmp j.id id ≡ Less) jobs s.0 k b f)
ids_below (j ∷ jobs) s (suc p) (suc k) a b l e f = ids_below jobs s.1 p k a b (omega (arith, l)) e f

before : (jobs : List FlowJob) (ss : List ℕ) (p k : ℕ) (a b : FlowJob) → IsStrictlySortedBy (slice_cmp nat_cmp) (ids_of jobs) → slice_get jobs p ≡ Some a → slice_get jobs k ≡ Some b → PlacesAscend ss p k → StandsBefore jobs ss a.id b.id
before jobs ss p k a b s e f h =
    let from : get_or ss p 0 ≡ stage_of jobs ss a.id = ap (λ (i : ℕ). get_or ss i 0) (sym (place_is jobs s p a e)) in
    let to : get_or ss k 0 ≡ stage_of jobs ss b.id = ap (λ (i : ℕ). get_or ss i 0) (sym (place_is jobs s k b f)) in
    elim h [
      | inl low ↦ inl (omega (arith, low, from, to))
      | inr same ↦ inr (sym from ∙ same.0 ∙ to, ids_below jobs s p k a b same.1 e f)
    ]

pub jobs_ascend : (roots : Roots) (choice : Choice) (w : Workflow) (first : ℕ) (run : RunPlan) → IsWorkflow w → AssemblesRun roots choice w first run → (stages : List ℕ) → AreStages (graph_of w.jobs) stages
    → (i k : ℕ) (job later : JobPlan) → i < k → slice_get run.jobs i ≡ Some job → slice_get run.jobs k ≡ Some later → StandsBefore w.jobs stages job.id later.id
jobs_ascend roots choice w first run flow a stages st i k job later less e f =
    let p = planned roots choice w first run a i job e in
    let q = planned roots choice w first run a k later f in
    let ss : stages ≡ a.is_order.stages = one_staging (graph_of w.jobs) stages a.is_order.stages st a.is_order.are_stages in
    let from : get_or a.order i 0 ≡ p.place = get_or_from_slice_get a.order i p.place 0 p.ordered in
    let to : get_or a.order k 0 ≡ q.place = get_or_from_slice_get a.order k q.place 0 q.ordered in
    let placed : PlacesAscend a.is_order.stages (get_or a.order i 0) (get_or a.order k 0) = order_ascends choice w.jobs a.order a.is_order i k less (slice_get_within a.order k q.place q.ordered) in
    let places : PlacesAscend stages p.place q.place =
    subst (λ (l : List ℕ). PlacesAscend l p.place q.place) (sym ss)
    (subst (λ (n : ℕ). PlacesAscend a.is_order.stages n q.place) from (subst (λ (n : ℕ). PlacesAscend a.is_order.stages (get_or a.order i 0) n) to placed)) in
    let there : StandsBefore w.jobs stages p.job.id q.job.id = before w.jobs stages p.place q.place p.job q.job flow.ids_ascend p.at q.at places in
    subst (λ (x : List ℕ). StandsBefore w.jobs stages x later.id) (ap (λ (x : JobPlan). x.id) (sym p.is))
    (subst (λ (x : List ℕ). StandsBefore w.jobs stages p.job.id x) (ap (λ (x : JobPlan). x.id) (sym q.is)) there)
