-- The jobs of a run, and those of the workflow that they come from.
use Rattle.std.proofs.Common.{◌≡◌, ◌∙◌, ◌<◌, ◌+◌, ℕ, zero, suc, List, [], ◌∷◌, length, Option, Some, slice_get, refl, ap, sym, subst, arith}
use Rattle.std.proofs.lemmas.List.{length-map}
use Rattle.std.proofs.lemmas.Option.{slice_get_within, get_or_from_slice_get}
use Rattle.std.specs.List.{AllByRecursion, Contains}
use Rattle.flow_model.specs.declared.flow.FlowJob.{FlowJob}
use Rattle.flow_model.specs.declared.flow.Workflow.{Workflow}
use Rattle.flow_model.specs.declared.plan.JobPlan.{JobPlan}
use Rattle.flow_model.specs.declared.plan.Roots.{Roots}
use Rattle.flow_model.specs.declared.plan.RunPlan.{RunPlan}
use Rattle.flow_model.proofs.Places.{same_Some, slice_get_there}
use Rattle.plan_assembler.specs.Layout.{ids_of, graph_of, with_item, at_places, IsOrder}
use Rattle.plan_assembler.specs.Order.{order_of}
use Rattle.plan_assembler.specs.Plans.{job_plan, job_plans, AssemblesRun}
use Rattle.plan_assembler.specs.declared.choice.Choice.{Choice}
use Rattle.plan_assembler.proofs.Standing.{Later, all_weaker, order_stands}

-- ---- the jobs of a run

-- a place of an order, and the job that stands there
record Placed (jobs : List FlowJob) (order : List ℕ) (i : ℕ) (x : FlowJob) : Type 0 where
  pub place : ℕ
  pub in_order : slice_get order i ≡ Some place
  pub at : slice_get jobs place ≡ Some x

placed_case : (jobs : List FlowJob) (q : ℕ) (order : List ℕ) (y x : FlowJob) (i : ℕ) → slice_get jobs q ≡ Some y → slice_get (y ∷ at_places jobs order) i ≡ Some x
    → ((k : ℕ) → slice_get (at_places jobs order) k ≡ Some x → Placed jobs order k x) → Placed jobs (q ∷ order) i x
placed_case jobs q order y x zero at e more = record { place = q; in_order = refl; at = at ∙ e }
placed_case jobs q order y x (suc i) at e more = let later = more i e in record { place = later.place; in_order = later.in_order; at = later.at }

placed_item : (jobs : List FlowJob) (order : List ℕ) (i : ℕ) (x : FlowJob) → AllByRecursion (λ p. p < length jobs) order → slice_get (at_places jobs order) i ≡ Some x → Placed jobs order i x
placed_item jobs [] i x h e = absurd (cc)
placed_item jobs (q ∷ order) i x h e =
    let there = slice_get_there jobs q h.0 in
    placed_case jobs q order there.0 x i there.1 (subst (λ (o : Option FlowJob). slice_get (with_item o (at_places jobs order)) i ≡ Some x) there.1 e) (λ k f. placed_item jobs order k x h.1 f)

-- the job at a place of an order, where all of them are there
pub item_there : (jobs : List FlowJob) (order : List ℕ) (i q : ℕ) → AllByRecursion (λ p. p < length jobs) order → slice_get order i ≡ Some q → (x : FlowJob) × (slice_get (at_places jobs order) i ≡ Some x)
item_there jobs [] i q h e = absurd (cc)
item_there jobs (p ∷ order) zero q h e =
    let there = slice_get_there jobs p h.0 in
    (there.0, ap (λ (o : Option FlowJob). slice_get (with_item o (at_places jobs order)) 0) there.1)
item_there jobs (p ∷ order) (suc i) q h e =
    let there = slice_get_there jobs p h.0 in
    let later = item_there jobs order i q h.1 e in
    (later.0, ap (λ (o : Option FlowJob). slice_get (with_item o (at_places jobs order)) (suc i)) there.1 ∙ later.1)

planned_item : (ids : List (List ℕ)) (order : List ℕ) (first number : ℕ) (xs : List FlowJob) (i : ℕ) (j : JobPlan) → slice_get (job_plans ids order first number xs) i ≡ Some j
    → (x : FlowJob) × (slice_get xs i ≡ Some x) × (j ≡ job_plan ids order first (number + i) x)
planned_item ids order first number [] i j e = absurd (cc)
planned_item ids order first number (x ∷ xs) zero j e =
    let at : number ≡ number + 0 = omega arith in
    (x, refl, sym (same_Some e) ∙ ap (λ (n : ℕ). job_plan ids order first n x) at)
planned_item ids order first number (x ∷ xs) (suc i) j e =
    let later = planned_item ids order first (suc number) xs i j e in
    let next : suc number + i ≡ number + suc i = omega arith in
    (later.0, later.1, later.2 ∙ ap (λ (n : ℕ). job_plan ids order first n later.0) next)

-- a job of an order is planned
pub planned_there : (ids : List (List ℕ)) (order : List ℕ) (first number : ℕ) (xs : List FlowJob) (i : ℕ) (x : FlowJob) → slice_get xs i ≡ Some x
    → slice_get (job_plans ids order first number xs) i ≡ Some (job_plan ids order first (number + i) x)
planned_there ids order first number [] i x e = absurd (cc)
planned_there ids order first number (y ∷ xs) zero x e =
    let at : number ≡ number + 0 = omega arith in
    ap (λ (z : FlowJob). Some (job_plan ids order first number z)) (same_Some e) ∙ ap (λ (n : ℕ). Some (job_plan ids order first n x)) at
planned_there ids order first number (y ∷ xs) (suc i) x e =
    let next : suc number + i ≡ number + suc i = omega arith in
    planned_there ids order first (suc number) xs i x e ∙ ap (λ (n : ℕ). Some (job_plan ids order first n x)) next

-- the places of an order are those of jobs
pub order_within : (choice : Choice) (jobs : List FlowJob) (order : List ℕ) → IsOrder choice jobs order → AllByRecursion (λ p. p < length jobs) order
order_within choice jobs order o =
    let ss : List ℕ = o.stages in
    let count : length ss ≡ length jobs = ap length o.are_stages ∙ length-map (graph_of jobs) _ ∙ length-map jobs _ in
    subst (λ (l : List ℕ). AllByRecursion (λ p. p < length jobs) l) (sym o.in_order)
    (all_weaker (Later ss 0) (λ p. p < length jobs) (λ k t. omega (arith, t.within, count)) (order_of ss o.marks) (order_stands ss o.marks).0)

-- what stands at a place of an order is in it
pub in_order : (order : List ℕ) (i q : ℕ) → slice_get order i ≡ Some q → Contains order q
in_order order i q e = (i, slice_get_within order i q e, get_or_from_slice_get order i q q e)

-- the job of a workflow that a planned job of its run comes from
pub record Planned (w : Workflow) (order : List ℕ) (first i : ℕ) (j : JobPlan) : Type 0 where
  pub place : ℕ
  pub job : FlowJob
  pub ordered : slice_get order i ≡ Some place
  pub at : slice_get w.jobs place ≡ Some job
  pub is : j ≡ job_plan (ids_of w.jobs) order first (first + i) job

pub planned : (roots : Roots) (choice : Choice) (w : Workflow) (first : ℕ) (run : RunPlan) (a : AssemblesRun roots choice w first run) (i : ℕ) (j : JobPlan) → slice_get run.jobs i ≡ Some j → Planned w a.order first i j
planned roots choice w first run a i j e =
    let found : slice_get (job_plans (ids_of w.jobs) a.order first first (at_places w.jobs a.order)) i ≡ Some j = ap (λ (r : RunPlan). slice_get r.jobs i) (sym a.is_run) ∙ e in
    let job = planned_item (ids_of w.jobs) a.order first first (at_places w.jobs a.order) i j found in
    let p = placed_item w.jobs a.order i job.0 (order_within choice w.jobs a.order a.is_order) job.1 in
    record { place = p.place; job = job.0; ordered = p.in_order; at = p.at; is = job.2 }
