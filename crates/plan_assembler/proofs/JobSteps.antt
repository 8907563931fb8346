-- Going over the places of a run's jobs.
use Rattle.std.proofs.Common.{◌≡◌, ◌∙◌, ◌<◌, ◌≤◌, ◌+◌, ◌&&◌, ℕ, suc, Bool, true, false, List, [], ◌∷◌, ◌++◌, Option, Some, None, length, drop, get_or, refl, ap, sym, subst, inl, inr, arith, append-nil, append_assoc, length-append, slice_get}
use Rattle.std.proofs.lemmas.List.{drop_more, drop_all}
use Rattle.std.specs.List.{AllByRecursion, list_all}
use Rattle.flow_model.specs.declared.flow.FlowJob.{FlowJob}
use Rattle.flow_model.specs.declared.plan.JobPlan.{JobPlan}
use Rattle.plan_assembler.specs.Layout.{ids_of, with_item, at_places, has_few_steps}
use Rattle.plan_assembler.specs.Plans.{job_plan, job_plans}
use Rattle.plan_assembler.specs.Refusals.{JobPasses, JobFails, JobsFail, Answered}
use Rattle.plan_assembler.specs.declared.fault.PlanFault.{PlanFault}
use Rattle.plan_assembler.proofs.Answering.{answered_weaker}

-- the jobs at the places before this one were made
pub record GoingJobs (jobs : List FlowJob) (order : List ℕ) (first i : ℕ) (plans : List JobPlan) : Type 0 where
  pub made : plans ++ job_plans (ids_of jobs) order first (first + length plans) (at_places jobs (drop i order)) ≡ job_plans (ids_of jobs) order first first (at_places jobs order)
  pub pass : AllByRecursion JobPasses (at_places jobs (drop i order)) → AllByRecursion JobPasses (at_places jobs order)
  pub fail : (f : PlanFault) → JobsFail (first + length plans) (at_places jobs (drop i order)) f → JobsFail first (at_places jobs order) f
  pub few : length plans ≤ i

pub begin_jobs : (jobs : List FlowJob) (order : List ℕ) (first : ℕ) (plans : List JobPlan) → plans ≡ [] → GoingJobs jobs order first 0 plans
begin_jobs jobs order first plans e =
    let none : first + 0 ≡ first = omega arith in
    subst (λ (ps : List JobPlan). GoingJobs jobs order first 0 ps) (sym e) (record {
      made = ap (λ (k : ℕ). job_plans (ids_of jobs) order first k (at_places jobs order)) none;
      pass = λ p. p;
      fail = λ f x. subst (λ (k : ℕ). JobsFail k (at_places jobs order) f) none x;
      few = omega arith;
    })

-- ---- one place

one_made : (ids : List (List ℕ)) (order : List ℕ) (first : ℕ) (o : Option FlowJob) (rest : List FlowJob) (old new all : List JobPlan)
    → new ≡ old ++ job_plans ids order first (first + length old) (with_item o [])
    → old ++ job_plans ids order first (first + length old) (with_item o rest) ≡ all
    → new ++ job_plans ids order first (first + length new) rest ≡ all
one_made ids order first None rest old new all e h = let same : new ≡ old = e ∙ append-nil old in rw same h
one_made ids order first (Some job) rest old new all e h =
    let number : first + length new ≡ suc (first + length old) = omega (arith, ap length e ∙ length-append old (job_plan ids order first (first + length old) job ∷ [])) in
    ap (λ (k : ℕ). new ++ job_plans ids order first k rest) number ∙ ap (λ (l : List JobPlan). l ++ job_plans ids order first (suc (first + length old)) rest) e
    ∙ append_assoc old (job_plan ids order first (first + length old) job ∷ []) _ ∙ h

one_few : (ids : List (List ℕ)) (order : List ℕ) (first n : ℕ) (o : Option FlowJob) (old new : List JobPlan) → new ≡ old ++ job_plans ids order first n (with_item o []) → length new ≤ length old + 1
one_few ids order first n None old new e = omega (arith, ap length e ∙ length-append old [])
one_few ids order first n (Some job) old new e = omega (arith, ap length e ∙ length-append old (job_plan ids order first n job ∷ []))

one_passes : (o : Option FlowJob) (rest : List FlowJob) → AllByRecursion JobPasses (with_item o []) → AllByRecursion JobPasses rest → AllByRecursion JobPasses (with_item o rest)
one_passes None rest p q = q
one_passes (Some job) rest p q = (p.0, q)

one_fails : (o : Option FlowJob) (rest : List FlowJob) (number : ℕ) (f : PlanFault) → JobsFail number (with_item o []) f → JobsFail number (with_item o rest) f
one_fails None rest number f x = absurd x
one_fails (Some job) rest number f x = elim x [ inl here ↦ inl here | inr later ↦ absurd later.1 ]

later_fails : (ids : List (List ℕ)) (order : List ℕ) (first : ℕ) (o : Option FlowJob) (rest : List FlowJob) (old new : List JobPlan) (f : PlanFault)
    → new ≡ old ++ job_plans ids order first (first + length old) (with_item o []) → AllByRecursion JobPasses (with_item o [])
    → JobsFail (first + length new) rest f → JobsFail (first + length old) (with_item o rest) f
later_fails ids order first None rest old new f e p x = let same : new ≡ old = e ∙ append-nil old in subst (λ (l : List JobPlan). JobsFail (first + length l) rest f) same x
later_fails ids order first (Some job) rest old new f e p x =
    let number : first + length new ≡ suc (first + length old) = omega (arith, ap length e ∙ length-append old (job_plan ids order first (first + length old) job ∷ [])) in
    inr (p.0, subst (λ (k : ℕ). JobsFail k rest f) number x)

-- ---- what stands at a place

pub push_some : (jobs : List FlowJob) (order : List ℕ) (first place : ℕ) (old new : List JobPlan) (job : FlowJob) (plan : JobPlan) (number : ℕ) → slice_get jobs place ≡ Some job → number ≡ first + length old
    → JobPasses job × (plan ≡ job_plan (ids_of jobs) order first number job) → new ≡ old ++ plan ∷ []
    → AllByRecursion JobPasses (at_places jobs (place ∷ [])) × (new ≡ old ++ job_plans (ids_of jobs) order first (first + length old) (at_places jobs (place ∷ [])))
push_some jobs order first place old new job plan number at n p e =
    rw (at, ← n) ((p.0, tt), e ∙ ap (λ (x : JobPlan). old ++ x ∷ []) p.1)

pub push_fails : (jobs : List FlowJob) (first place : ℕ) (old : List JobPlan) (job : FlowJob) (number : ℕ) (f : PlanFault) → slice_get jobs place ≡ Some job → number ≡ first + length old
    → Answered (JobFails number job) f → Answered (JobsFail (first + length old) (at_places jobs (place ∷ []))) f
push_fails jobs first place old job number f at n a =
    let here : at_places jobs (place ∷ []) ≡ job ∷ [] = ap (λ (o : Option FlowJob). with_item o []) at in
    answered_weaker (JobFails number job) _ f (λ g x. subst (λ (l : List FlowJob). JobsFail (first + length old) l g) (sym here) (inl (subst (λ (k : ℕ). JobFails k job g) n x))) a

pub push_none : (jobs : List FlowJob) (order : List ℕ) (first place : ℕ) (old : List JobPlan) → slice_get jobs place ≡ None
    → AllByRecursion JobPasses (at_places jobs (place ∷ [])) × (old ≡ old ++ job_plans (ids_of jobs) order first (first + length old) (at_places jobs (place ∷ [])))
push_none jobs order first place old at = rw at (tt, sym (append-nil old))

-- ---- a place of all

left_at : (order : List ℕ) (i place : ℕ) → i < length order → place ≡ get_or order i place → drop i order ≡ place ∷ drop (i + 1) order
left_at order i place h e = drop_more order i place h ∙ ap (λ (p : ℕ). p ∷ drop (i + 1) order) (sym e)

item_before : (o : Option FlowJob) (rest : List FlowJob) → with_item o rest ≡ with_item o [] ++ rest
item_before None rest = refl
item_before (Some job) rest = refl

one_place : (jobs : List FlowJob) (order : List ℕ) (i place : ℕ) → i < length order → place ≡ get_or order i place
    → at_places jobs (drop i order) ≡ at_places jobs (place ∷ []) ++ at_places jobs (drop (i + 1) order)
one_place jobs order i place h e = ap (at_places jobs) (left_at order i place h e) ∙ item_before (slice_get jobs place) (at_places jobs (drop (i + 1) order))

pub count_next : (jobs : List FlowJob) (order : List ℕ) (i place n : ℕ) → i < length order → place ≡ get_or order i place → n ≡ length (at_places jobs (place ∷ []))
    → length (at_places jobs (drop i order)) ≡ n + length (at_places jobs (drop (i + 1) order))
count_next jobs order i place n h e is =
    ap length (one_place jobs order i place h e) ∙ length-append (at_places jobs (place ∷ [])) (at_places jobs (drop (i + 1) order)) ∙ ap (λ (k : ℕ). k + length (at_places jobs (drop (i + 1) order))) (sym is)

steps_case : (a b : Bool) → (a && b) ≡ ((a && true) && b)
steps_case true b = refl
steps_case false b = refl

steps_before : (o : Option FlowJob) (rest : List FlowJob) (b : Bool) → b ≡ list_all has_few_steps (with_item o []) → list_all has_few_steps (with_item o rest) ≡ (b && list_all has_few_steps rest)
steps_before None rest b is = rw is refl
steps_before (Some job) rest b is = rw is (steps_case (has_few_steps job) (list_all has_few_steps rest))

pub steps_next : (jobs : List FlowJob) (order : List ℕ) (i place : ℕ) (b : Bool) → i < length order → place ≡ get_or order i place → b ≡ list_all has_few_steps (at_places jobs (place ∷ []))
    → list_all has_few_steps (at_places jobs (drop i order)) ≡ (b && list_all has_few_steps (at_places jobs (drop (i + 1) order)))
steps_next jobs order i place b h e is =
    ap (λ (l : List ℕ). list_all has_few_steps (at_places jobs l)) (left_at order i place h e) ∙ steps_before (slice_get jobs place) (at_places jobs (drop (i + 1) order)) b is

pub next_job : (jobs : List FlowJob) (order : List ℕ) (first i place : ℕ) (old new : List JobPlan) → i < length order → place ≡ get_or order i place → GoingJobs jobs order first i old
    → AllByRecursion JobPasses (at_places jobs (place ∷ [])) × (new ≡ old ++ job_plans (ids_of jobs) order first (first + length old) (at_places jobs (place ∷ [])))
    → GoingJobs jobs order first (i + 1) new
next_job jobs order first i place old new h e going step =
    let here : at_places jobs (drop i order) ≡ with_item (slice_get jobs place) (at_places jobs (drop (i + 1) order)) = ap (at_places jobs) (left_at order i place h e) in
    record {
      made = one_made (ids_of jobs) order first (slice_get jobs place) (at_places jobs (drop (i + 1) order)) old new _ step.1
          (ap (λ (l : List FlowJob). old ++ job_plans (ids_of jobs) order first (first + length old) l) (sym here) ∙ going.made);
      pass = λ p. going.pass (subst (λ (l : List FlowJob). AllByRecursion JobPasses l) (sym here) (one_passes (slice_get jobs place) (at_places jobs (drop (i + 1) order)) step.0 p));
      fail = λ f x. going.fail f (subst (λ (l : List FlowJob). JobsFail (first + length old) l f) (sym here)
          (later_fails (ids_of jobs) order first (slice_get jobs place) (at_places jobs (drop (i + 1) order)) old new f step.1 step.0 x));
      few = omega (arith, one_few (ids_of jobs) order first (first + length old) (slice_get jobs place) old new step.1, going.few);
    }

pub job_fails : (jobs : List FlowJob) (order : List ℕ) (first i place : ℕ) (old : List JobPlan) (f : PlanFault) → i < length order → place ≡ get_or order i place → GoingJobs jobs order first i old
    → Answered (JobsFail (first + length old) (at_places jobs (place ∷ []))) f → Answered (JobsFail first (at_places jobs order)) f
job_fails jobs order first i place old f h e going a =
    let here : at_places jobs (drop i order) ≡ with_item (slice_get jobs place) (at_places jobs (drop (i + 1) order)) = ap (at_places jobs) (left_at order i place h e) in
    answered_weaker _ (JobsFail first (at_places jobs order)) f (λ g x. going.fail g (subst (λ (l : List FlowJob). JobsFail (first + length old) l g) (sym here)
    (one_fails (slice_get jobs place) (at_places jobs (drop (i + 1) order)) (first + length old) g x))) a

pub all_jobs : (jobs : List FlowJob) (order : List ℕ) (first i : ℕ) (plans : List JobPlan) → length order ≤ i → GoingJobs jobs order first i plans
    → AllByRecursion JobPasses (at_places jobs order) × (plans ≡ job_plans (ids_of jobs) order first first (at_places jobs order))
all_jobs jobs order first i plans h going =
    let none : at_places jobs (drop i order) ≡ [] = ap (at_places jobs) (drop_all i order h) in (
      going.pass (subst (λ (l : List FlowJob). AllByRecursion JobPasses l) (sym none) tt),
      sym (append-nil plans) ∙ ap (λ (l : List FlowJob). plans ++ job_plans (ids_of jobs) order first (first + length plans) l) (sym none) ∙ going.made,
    )
