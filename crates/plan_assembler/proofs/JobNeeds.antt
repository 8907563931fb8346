-- The jobs of a run, by their ids.
use Rattle.std.proofs.Common.{◌≡◌, ◌∙◌, ◌<◌, ◌↔◌, ℕ, zero, suc, Bool, true, false, List, [], ◌∷◌, length, get_or, Option, Some, None, slice_get, refl, ap, sym, subst, arith}
use Rattle.std.proofs.lemmas.Grind.{common_steps}
use Rattle.std.specs.List.{Contains}
use Rattle.std.specs.Str.{bytes_eq}
use Rattle.flow_model.specs.Flow.{IsWorkflow}
use Rattle.flow_model.specs.Rules.{job_ids}
use Rattle.flow_model.specs.declared.flow.FlowJob.{FlowJob}
use Rattle.flow_model.specs.declared.flow.Workflow.{Workflow}
use Rattle.flow_model.specs.declared.plan.Roots.{Roots}
use Rattle.flow_model.specs.declared.plan.RunPlan.{RunPlan}
use Rattle.plan_assembler.specs.Layout.{ids_of, is_one_of, is_taken, place_of, with_item, at_places}
use Rattle.plan_assembler.specs.Needed.{IsNeeded}
use Rattle.plan_assembler.specs.Plans.{AssemblesRun}
use Rattle.plan_assembler.specs.declared.choice.Choice.{Choice}
use Rattle.plan_assembler.specs.declared.choice.Choice.TheVariants.{Job}
use Rattle.plan_assembler.proofs.LegsAlone.{ids_planned}
use Rattle.plan_assembler.proofs.Named.{same_text, same_bytes, or_later, job_at, needed_from_chosen, chosen_from_needed, needed_known}
use Rattle.plan_assembler.proofs.Whole.{order_is_whole}

-- ---- what stands at the places of an order

item_later : (o : Option FlowJob) (rest : List FlowJob) (id : List ℕ) → is_one_of (ids_of rest) id ≡ true → is_one_of (ids_of (with_item o rest)) id ≡ true
item_later None rest id h = h
item_later (Some x) rest id h = or_later (bytes_eq id x.id) (is_one_of (ids_of rest) id) h

item_first : (job : FlowJob) (rest : List FlowJob) (o : Option FlowJob) → o ≡ Some job → is_one_of (ids_of (with_item o rest)) job.id ≡ true
item_first job rest o e = let same : bytes_eq job.id job.id ≡ true = same_text job.id job.id refl in rw (e, same) refl

placed_at : (jobs : List FlowJob) (order : List ℕ) (j : ℕ) (job : FlowJob) (i : ℕ) → i < length order → get_or order i j ≡ j → slice_get jobs j ≡ Some job
    → is_one_of (ids_of (at_places jobs order)) job.id ≡ true
placed_at jobs [] j job i w e at = absurd (omega (arith, w))
placed_at jobs (q ∷ order) j job zero w e at = item_first job (at_places jobs order) (slice_get jobs q) (ap (slice_get jobs) e ∙ at)
placed_at jobs (q ∷ order) j job (suc i) w e at =
    item_later (slice_get jobs q) (at_places jobs order) job.id (placed_at jobs order j job i (omega (arith, w)) e at)

-- the job of a place that is in the order is one of them
pub placed : (jobs : List FlowJob) (order : List ℕ) (j : ℕ) (job : FlowJob) → Contains order j → slice_get jobs j ≡ Some job → is_one_of (ids_of (at_places jobs order)) job.id ≡ true
placed jobs order j job c at = placed_at jobs order j job c.0 c.1 c.2 at

-- an id that one of them has
record PlacedAs (jobs : List FlowJob) (order : List ℕ) (id : List ℕ) : Type 0 where
  pub place : ℕ
  pub job : FlowJob
  pub among : Contains order place
  pub at : slice_get jobs place ≡ Some job
  pub is : job.id ≡ id

later_placed : (jobs : List FlowJob) (q : ℕ) (order : List ℕ) (id : List ℕ) → PlacedAs jobs order id → PlacedAs jobs (q ∷ order) id
later_placed jobs q order id p = record { place = p.place; job = p.job; among = (suc p.among.0, omega (arith, p.among.1), p.among.2); at = p.at; is = p.is }

placed_case : (jobs : List FlowJob) (q : ℕ) (order : List ℕ) (id : List ℕ) (x : FlowJob) (b : Bool) → bytes_eq id x.id ≡ b → slice_get jobs q ≡ Some x → is_one_of (ids_of (x ∷ at_places jobs order)) id ≡ true
    → (is_one_of (ids_of (at_places jobs order)) id ≡ true → PlacedAs jobs order id) → PlacedAs jobs (q ∷ order) id
placed_case jobs q order id x true t e h more = record { place = q; job = x; among = (0, omega arith, refl); at = e; is = sym (same_bytes id x.id t) }
placed_case jobs q order id x false t e h more = later_placed jobs q order id (more (grind (arith, common_steps)))

item_case : (jobs : List FlowJob) (q : ℕ) (order : List ℕ) (id : List ℕ) (o : Option FlowJob) → slice_get jobs q ≡ o → is_one_of (ids_of (with_item o (at_places jobs order))) id ≡ true
    → (is_one_of (ids_of (at_places jobs order)) id ≡ true → PlacedAs jobs order id) → PlacedAs jobs (q ∷ order) id
item_case jobs q order id None e h more = later_placed jobs q order id (more h)
item_case jobs q order id (Some x) e h more = placed_case jobs q order id x (bytes_eq id x.id) refl e h more

placed_as : (jobs : List FlowJob) (order : List ℕ) (id : List ℕ) → is_one_of (ids_of (at_places jobs order)) id ≡ true → PlacedAs jobs order id
placed_as jobs [] id h = absurd (cc)
placed_as jobs (q ∷ order) id h = item_case jobs q order id (slice_get jobs q) refl h (placed_as jobs order id)

-- ---- a run

pub run_ids : (roots : Roots) (choice : Choice) (w : Workflow) (first : ℕ) (run : RunPlan) (a : AssemblesRun roots choice w first run) → job_ids run.jobs ≡ ids_of (at_places w.jobs a.order)
run_ids roots choice w first run a =
    ap (λ (r : RunPlan). job_ids r.jobs) a.is_run ∙ ids_planned (ids_of w.jobs) a.order first first (at_places w.jobs a.order)

pub job_with_needs : (roots : Roots) (w : Workflow) (id : List ℕ) (first : ℕ) (run : RunPlan) → IsWorkflow w → is_taken (Job id) w ≡ true → AssemblesRun roots (Job id) w first run
    → (other : List ℕ) → (is_one_of (job_ids run.jobs) other ≡ true) ↔ IsNeeded w.jobs id other
job_with_needs roots w id first run flow t a other =
    let target : ℕ = place_of (ids_of w.jobs) id in
    let same : job_ids run.jobs ≡ ids_of (at_places w.jobs a.order) = run_ids roots (Job id) w first run a in
    let start = job_at w.jobs id t in (
      λ h.
          let p = placed_as w.jobs a.order other (subst (λ (l : List (List ℕ)). is_one_of l other ≡ true) same h) in
          let chosen = (order_is_whole (Job id) w.jobs a.order a.known a.is_order p.place).0 p.among in
          let needed = needed_from_chosen w.jobs target p.place start.0 p.job a.known start.1 p.at chosen in
          subst (λ (x : List ℕ). IsNeeded w.jobs id x) p.is (subst (λ (x : List ℕ). IsNeeded w.jobs x p.job.id) start.2 needed),
      λ n.
          let there = job_at w.jobs other (needed_known w.jobs id other a.known t n) in
          let chosen = chosen_from_needed w.jobs id other flow.ids_ascend n in
          let among : Contains a.order (place_of (ids_of w.jobs) other) = (order_is_whole (Job id) w.jobs a.order a.known a.is_order (place_of (ids_of w.jobs) other)).1 chosen in
          subst (λ (l : List (List ℕ)). is_one_of l other ≡ true) (sym same)
          (subst (λ (x : List ℕ). is_one_of (ids_of (at_places w.jobs a.order)) x ≡ true) there.2 (placed w.jobs a.order (place_of (ids_of w.jobs) other) there.0 among there.1)),
    )
