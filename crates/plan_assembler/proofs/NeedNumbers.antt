-- The numbers that a planned job needs, by the ids that its workflow's job names.
use Rattle.std.proofs.Common.{◌≡◌, ◌∙◌, ◌<◌, ◌+◌, ◌↔◌, ℕ, zero, suc, Bool, true, false, cond, nat_eq, nat_cmp, List, [], ◌∷◌, map, length, get_or, Some, slice_get, refl, ap, sym, subst, arith}
use Rattle.std.proofs.lemmas.Bool.Decides.{nat_tests}
use Rattle.std.specs.Cmp.Lexicographic.{slice_cmp}
use Rattle.std.specs.List.{Contains, list_any}
use Rattle.std.specs.List.Sorted.{IsStrictlySortedBy}
use Rattle.flow_model.specs.Flow.{IsWorkflow}
use Rattle.flow_model.specs.declared.flow.FlowJob.{FlowJob}
use Rattle.flow_model.specs.declared.flow.Workflow.{Workflow}
use Rattle.flow_model.specs.declared.plan.JobPlan.{JobPlan}
use Rattle.flow_model.specs.declared.plan.Roots.{Roots}
use Rattle.flow_model.specs.declared.plan.RunPlan.{RunPlan}
use Rattle.flow_model.proofs.Places.{same_Some}
use Rattle.plan_assembler.specs.Graph.{Needs}
use Rattle.plan_assembler.specs.Layout.{ids_of, is_one_of, place_of, are_needs_known, graph_of, at_places, IsOrder}
use Rattle.plan_assembler.specs.Needed.{NeedsAsNamed}
use Rattle.plan_assembler.specs.Order.{numbers_of}
use Rattle.plan_assembler.specs.Plans.{job_plan, AssemblesRun}
use Rattle.plan_assembler.specs.declared.choice.Choice.{Choice}
use Rattle.plan_assembler.proofs.JobNeeds.{placed, run_ids}
use Rattle.plan_assembler.proofs.LegsAlone.{needs_at}
use Rattle.plan_assembler.proofs.Named.{or_later, job_at, place_is, known_need, mapped, unmapped}
use Rattle.plan_assembler.proofs.RunJobs.{Planned, planned, planned_there, item_there, order_within, in_order}
use Rattle.plan_assembler.proofs.Standing.{any_contains}
use Rattle.plan_assembler.proofs.Whole.{need_in_order}

-- ---- numbers

one_needed : (q : ℕ) (ns : List ℕ) (i : ℕ) → i < length ns → get_or ns i q ≡ q → list_any (nat_eq q) ns ≡ true
one_needed q [] i w e = absurd (omega (arith, w))
one_needed q (n ∷ ns) zero w e = let same : nat_eq q n ≡ true = grind (arith, nat_tests) in rw same refl
one_needed q (n ∷ ns) (suc i) w e = or_later (nat_eq q n) (list_any (nat_eq q) ns) (one_needed q ns i (omega (arith, w)) e)

after_number : (b : Bool) (x : ℕ) (xs : List ℕ) (y : ℕ) → Contains xs y → Contains (cond b (x ∷ xs) xs) y
after_number true x xs y c = (suc c.0, omega (arith, c.1), c.2)
after_number false x xs y c = c

-- a job that is needed has its number among them
number_there : (number : ℕ) (js ns : List ℕ) (k q : ℕ) → slice_get js k ≡ Some q → list_any (nat_eq q) ns ≡ true → Contains (numbers_of number js ns) (number + k)
number_there number [] ns k q e h = absurd (cc)
number_there number (j ∷ js) ns zero q e h =
    let needed : list_any (nat_eq j) ns ≡ true = ap (λ (i : ℕ). list_any (nat_eq i) ns) (same_Some e) ∙ h in
    let at : number ≡ number + 0 = omega arith in
    rw needed (0, omega arith, at)
number_there number (j ∷ js) ns (suc k) q e h =
    let next : suc number + k ≡ number + suc k = omega arith in
    after_number (list_any (nat_eq j) ns) number (numbers_of (suc number) js ns) (number + suc k)
    (subst (λ (n : ℕ). Contains (numbers_of (suc number) js ns) n) next (number_there (suc number) js ns k q e h))

-- a number of a job that is needed
record NumberOf (number : ℕ) (js ns : List ℕ) (n : ℕ) : Type 0 where
  pub at : ℕ
  pub place : ℕ
  pub is : n ≡ number + at
  pub there : slice_get js at ≡ Some place
  pub needed : list_any (nat_eq place) ns ≡ true

later_number : (number j : ℕ) (js ns : List ℕ) (n : ℕ) → NumberOf (suc number) js ns n → NumberOf number (j ∷ js) ns n
later_number number j js ns n a =
    let next : suc number + a.at ≡ number + suc a.at = omega arith in
    record { at = suc a.at; place = a.place; is = a.is ∙ next; there = a.there; needed = a.needed }

number_case : (number j : ℕ) (js ns : List ℕ) (n i : ℕ) (b : Bool) → list_any (nat_eq j) ns ≡ b → i < length (cond b (number ∷ numbers_of (suc number) js ns) (numbers_of (suc number) js ns))
    → get_or (cond b (number ∷ numbers_of (suc number) js ns) (numbers_of (suc number) js ns)) i n ≡ n → (Contains (numbers_of (suc number) js ns) n → NumberOf (suc number) js ns n) → NumberOf number (j ∷ js) ns n
number_case number j js ns n zero true h w e more =
    let at : n ≡ number + 0 = omega (arith, e) in
    record { at = 0; place = j; is = at; there = refl; needed = h }
number_case number j js ns n (suc i) true h w e more = later_number number j js ns n (more (i, omega (arith, w), e))
number_case number j js ns n i false h w e more = later_number number j js ns n (more (i, w, e))

number_of : (number : ℕ) (js ns : List ℕ) (n : ℕ) → Contains (numbers_of number js ns) n → NumberOf number js ns n
number_of number [] ns n c = absurd (omega (arith, c.1))
number_of number (j ∷ js) ns n c = number_case number j js ns n c.0 (list_any (nat_eq j) ns) refl c.1 c.2 (number_of (suc number) js ns n)

-- ---- a job's needs

-- the needs of the job at a place, by their places
abbrev places : List FlowJob → FlowJob → List ℕ
places jobs x = map (place_of (ids_of jobs)) x.needs

named_from_number : (jobs : List FlowJob) (order : List ℕ) (first k r q : ℕ) (x y : FlowJob) → are_needs_known jobs ≡ true → slice_get jobs q ≡ Some x → slice_get order k ≡ Some r → slice_get jobs r ≡ Some y
    → Contains (numbers_of first order (places jobs x)) (first + k) → is_one_of x.needs y.id ≡ true
named_from_number jobs order first k r q x y known at ordered there c =
    let n = number_of first order (places jobs x) (first + k) c in
    let same : n.at ≡ k = omega (arith, n.is) in
    let place : n.place ≡ r = same_Some (sym n.there ∙ ap (slice_get order) same ∙ ordered) in
    let u = unmapped (place_of (ids_of jobs)) x.needs n.place (any_contains n.place (places jobs x) n.needed) in
    let z = job_at jobs u.need (known_need jobs q x u.need known at u.among) in
    let job : z.0 ≡ y = same_Some (sym z.1 ∙ ap (slice_get jobs) (u.is ∙ place) ∙ there) in
    ap (is_one_of x.needs) (ap (λ (v : FlowJob). v.id) (sym job) ∙ z.2) ∙ u.among

number_from_named : (jobs : List FlowJob) (order : List ℕ) (first k r : ℕ) (x y : FlowJob) → IsStrictlySortedBy (slice_cmp nat_cmp) (ids_of jobs) → slice_get order k ≡ Some r → slice_get jobs r ≡ Some y
    → is_one_of x.needs y.id ≡ true → Contains (numbers_of first order (places jobs x)) (first + k)
number_from_named jobs order first k r x y s ordered there h =
    let place : place_of (ids_of jobs) y.id ≡ r = place_is jobs s r y there in
    let c : Contains (places jobs x) r = subst (λ (n : ℕ). Contains (places jobs x) n) place (mapped (place_of (ids_of jobs)) x.needs y.id h) in
    number_there first order (places jobs x) k r ordered (one_needed r (places jobs x) c.0 c.1 c.2)

-- an id that a job of the order names is that of a job of the order
need_placed : (choice : Choice) (jobs : List FlowJob) (order : List ℕ) (q : ℕ) (x : FlowJob) (id : List ℕ) → are_needs_known jobs ≡ true → IsOrder choice jobs order → Contains order q → slice_get jobs q ≡ Some x
    → is_one_of x.needs id ≡ true → is_one_of (ids_of (at_places jobs order)) id ≡ true
need_placed choice jobs order q x id known o c at h =
    let ids : List (List ℕ) = ids_of jobs in
    let needs : Needs (graph_of jobs) q (place_of ids id) = subst (λ (l : List ℕ). Contains l (place_of ids id)) (sym (needs_at ids jobs q x at)) (mapped (place_of ids) x.needs id h) in
    let among : Contains order (place_of ids id) = need_in_order choice jobs order known o q (place_of ids id) needs c in
    let job = job_at jobs id (known_need jobs q x id known at h) in
    subst (λ (i : List ℕ). is_one_of (ids_of (at_places jobs order)) i ≡ true) job.2 (placed jobs order (place_of ids id) job.0 among job.1)

-- ---- a run

-- each number that a job needs is that of a job of the run
numbered : (roots : Roots) (choice : Choice) (w : Workflow) (first : ℕ) (run : RunPlan) (a : AssemblesRun roots choice w first run) (x : FlowJob) (n : ℕ) → Contains (numbers_of first a.order (places w.jobs x)) n
    → (k : ℕ) × (other : JobPlan) × (slice_get run.jobs k ≡ Some other) × (other.number ≡ n)
numbered roots choice w first run a x n c =
    let m = number_of first a.order (places w.jobs x) n c in
    let job = item_there w.jobs a.order m.at m.place (order_within choice w.jobs a.order a.is_order) m.there in
    let there = planned_there (ids_of w.jobs) a.order first first (at_places w.jobs a.order) m.at job.0 job.1 in
    (m.at, job_plan (ids_of w.jobs) a.order first (first + m.at) job.0, ap (λ (r : RunPlan). slice_get r.jobs m.at) a.is_run ∙ there, sym m.is)

as_named : (roots : Roots) (choice : Choice) (w : Workflow) (first : ℕ) (run : RunPlan) → IsWorkflow w → (a : AssemblesRun roots choice w first run) (i : ℕ) (j : JobPlan) (p : Planned w a.order first i j)
    → NeedsAsNamed run p.job (job_plan (ids_of w.jobs) a.order first (first + i) p.job)
as_named roots choice w first run flow a i j p = record {
  named = λ k other e.
      let q = planned roots choice w first run a k other e in
      subst (λ (o : JobPlan). Contains (numbers_of first a.order (places w.jobs p.job)) o.number ↔ (is_one_of p.job.needs o.id ≡ true)) (sym q.is)
      (named_from_number w.jobs a.order first k q.place p.place p.job q.job a.known p.at q.ordered q.at, number_from_named w.jobs a.order first k q.place p.job q.job flow.ids_ascend q.ordered q.at);
  there = λ id h.
      subst (λ (l : List (List ℕ)). is_one_of l id ≡ true) (sym (run_ids roots choice w first run a))
      (need_placed choice w.jobs a.order p.place p.job id a.known a.is_order (in_order a.order i p.place p.ordered) p.at h);
  no_other = λ n c. numbered roots choice w first run a p.job n c;
}

pub needs_are_named : (roots : Roots) (choice : Choice) (w : Workflow) (first : ℕ) (run : RunPlan) → IsWorkflow w → AssemblesRun roots choice w first run → (i : ℕ) (planned : JobPlan) → slice_get run.jobs i ≡ Some planned
    → (place : ℕ) × (job : FlowJob) × (slice_get w.jobs place ≡ Some job) × (job.id ≡ planned.id) × NeedsAsNamed run job planned
needs_are_named roots choice w first run flow a i j e =
    let p = planned roots choice w first run a i j e in
    (p.place, p.job, p.at, ap (λ (x : JobPlan). x.id) (sym p.is), subst (λ (x : JobPlan). NeedsAsNamed run p.job x) (sym p.is) (as_named roots choice w first run flow a i j p))
