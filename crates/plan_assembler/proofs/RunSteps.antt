-- Going over workflows.
use Rattle.std.proofs.Common.{◌≡◌, ◌∙◌, ◌<◌, ◌≤◌, ◌+◌, ◌*◌, ℕ, suc, Bool, true, false, nat_le, List, [], ◌∷◌, ◌++◌, None, Result, Ok, Err, length, drop, get_or, refl, ap, sym, subst, inl, inr, arith, append-nil, append_assoc, length-append}
use Rattle.std.proofs.lemmas.Grind.{common_steps}
use Rattle.std.proofs.lemmas.Bool.Decides.{nat_tests}
use Rattle.std.proofs.lemmas.List.{drop_more, drop_all}
use Rattle.std.specs.List.{AllByRecursion}
use Rattle.flow_model.specs.declared.flow.FlowJob.{FlowJob}
use Rattle.flow_model.specs.declared.flow.Workflow.{Workflow}
use Rattle.flow_model.specs.declared.plan.JobPlan.{JobPlan}
use Rattle.flow_model.specs.declared.plan.Roots.{Roots}
use Rattle.flow_model.specs.declared.plan.RunPlan.{RunPlan}
use Rattle.plan_assembler.specs.Layout.{ids_of, is_taken, taken, at_places, are_few}
use Rattle.plan_assembler.specs.Plans.{HasLegs, job_plans, run_plan, AssemblesRun, AssemblesRuns}
use Rattle.plan_assembler.specs.Refusals.{JobPasses, JobsFail, TakenFail, RunFails, RunPasses, RunsFail, RunsPass, Answered, MakesJobs, MakesTaken, Pushed}
use Rattle.plan_assembler.specs.Texts.{of_workflow}
use Rattle.plan_assembler.specs.declared.choice.Choice.{Choice}
use Rattle.plan_assembler.specs.declared.fault.PlanFault.{PlanFault}
use Rattle.plan_assembler.proofs.Answering.{answered_weaker}

pub makes_taken : (w : Workflow) (order : List ℕ) (run first : ℕ) (r : Result (List JobPlan) PlanFault) → are_few (at_places w.jobs order) ≡ true → of_workflow w ≡ None
    → MakesJobs w.jobs order first r → MakesTaken w order run first r
makes_taken w order run first (Ok plans) few texts m = (record { few = few; texts = texts; jobs_pass = m.0 }, m.1)
makes_taken w order run first (Err f) few texts m =
    answered_weaker (JobsFail first (at_places w.jobs order)) (TakenFail w run first (at_places w.jobs order)) f (λ g x. inr (few, inr (texts, x))) m

pub length-job_plans : (ids : List (List ℕ)) (order : List ℕ) (first number : ℕ) (jobs : List FlowJob) → length (job_plans ids order first number jobs) ≡ length jobs
length-job_plans ids order first number [] = refl
length-job_plans ids order first number (job ∷ jobs) = omega (arith, length-job_plans ids order first (suc number) jobs)

legs_pass : (jobs : List FlowJob) → AllByRecursion JobPasses jobs → AllByRecursion (λ job. HasLegs job.matrix) jobs
legs_pass [] p = tt
legs_pass (job ∷ jobs) p = (p.0.0, legs_pass jobs p.1)

-- a run that passes its tests is assembled
pub run_assembled : (roots : Roots) (choice : Choice) (w : Workflow) (order : List ℕ) (first : ℕ) → RunPasses choice w order → AssemblesRun roots choice w first (run_plan roots choice w order first)
run_assembled roots choice w order first p = record {
  known = p.0.known;
  no_cycle = p.0.no_cycle;
  order = order;
  is_order = p.0.is_order;
  legs = legs_pass (at_places w.jobs order) p.1.jobs_pass;
  is_run = refl;
}

few_jobs : (jobs : List FlowJob) → are_few jobs ≡ true → length jobs ≤ 256
few_jobs jobs e = let test : nat_le (length jobs) 256 ≡ true = grind (arith, common_steps) in grind (arith, nat_tests)

-- after others the run that was made
pub pushed_run : (roots : Roots) (choice : Choice) (w : Workflow) (order : List ℕ) (first n : ℕ) (old new : List RunPlan) (plan : RunPlan) → RunPasses choice w order → plan ≡ run_plan roots choice w order first
    → new ≡ old ++ plan ∷ [] → n ≡ length plan.jobs → Pushed true roots choice w first old new (first + n)
pushed_run roots choice w order first n old new plan p is e c = (
  order,
  (
    p,
    (
      e ∙ ap (λ (x : RunPlan). old ++ x ∷ []) is,
      ap (λ (k : ℕ). first + k) (c ∙ ap (λ (x : RunPlan). length x.jobs) is ∙ length-job_plans (ids_of w.jobs) order first first (at_places w.jobs order)),
    ),
  ),
)

-- the workflows before this one have made their runs
pub record GoingRuns (roots : Roots) (choice : Choice) (ws : List Workflow) (i first : ℕ) (runs : List RunPlan) : Type 0 where
  pub made : (more : List RunPlan) → AssemblesRuns roots choice (taken choice (drop i ws)) first more → AssemblesRuns roots choice (taken choice ws) 0 (runs ++ more)
  pub pass : RunsPass choice (taken choice (drop i ws)) → RunsPass choice (taken choice ws)
  pub fail : (f : PlanFault) → RunsFail choice (length runs) first (taken choice (drop i ws)) f → RunsFail choice 0 0 (taken choice ws) f
  pub few : length runs + length (taken choice (drop i ws)) ≤ 64
  pub room : first ≤ 256 * length runs

left_at : (ws : List Workflow) (i : ℕ) (w : Workflow) → i < length ws → w ≡ get_or ws i w → drop i ws ≡ w ∷ drop (i + 1) ws
left_at ws i w h e = drop_more ws i w h ∙ ap (λ (x : Workflow). x ∷ drop (i + 1) ws) (sym e)

taken_there : (choice : Choice) (ws : List Workflow) (i : ℕ) (w : Workflow) → i < length ws → w ≡ get_or ws i w → is_taken choice w ≡ true → taken choice (drop i ws) ≡ w ∷ taken choice (drop (i + 1) ws)
taken_there choice ws i w h e t = ap (taken choice) (left_at ws i w h e) ∙ (rw t refl)

passed_over : (choice : Choice) (ws : List Workflow) (i : ℕ) (w : Workflow) → i < length ws → w ≡ get_or ws i w → is_taken choice w ≡ false → taken choice (drop i ws) ≡ taken choice (drop (i + 1) ws)
passed_over choice ws i w h e t = ap (taken choice) (left_at ws i w h e) ∙ (rw t refl)

taken_run : (roots : Roots) (choice : Choice) (ws left : List Workflow) (i first next : ℕ) (old new : List RunPlan) (w : Workflow) (order : List ℕ) → taken choice (drop i ws) ≡ w ∷ left
    → GoingRuns roots choice ws i first old → RunPasses choice w order → new ≡ old ++ run_plan roots choice w order first ∷ [] → next ≡ first + length (at_places w.jobs order) → left ≡ taken choice (drop (i + 1) ws)
    → GoingRuns roots choice ws (i + 1) next new
taken_run roots choice ws left i first next old new w order at g p is n rest =
    let run : RunPlan = run_plan roots choice w order first in
    let long : length new ≡ length old + 1 = ap length is ∙ length-append old (run ∷ []) in
    let more : suc (length old) ≡ length new = omega arith in
    let count : length run.jobs ≡ length (at_places w.jobs order) = length-job_plans (ids_of w.jobs) order first first (at_places w.jobs order) in
    let few : length (at_places w.jobs order) ≤ 256 = few_jobs (at_places w.jobs order) p.1.few in
    let left_over : length (taken choice (drop i ws)) ≡ suc (length (taken choice (drop (i + 1) ws))) = ap length at ∙ ap (λ (l : List Workflow). suc (length l)) rest in
    record {
      made = λ rs m. subst (λ (l : List RunPlan). AssemblesRuns roots choice (taken choice ws) 0 l) (sym (append_assoc old (run ∷ []) rs) ∙ ap (λ (l : List RunPlan). l ++ rs) (sym is))
          (g.made (run ∷ rs) (subst (λ (l : List Workflow). AssemblesRuns roots choice l first (run ∷ rs)) (sym at) (
            run_assembled roots choice w order first p,
            subst (λ (l : List Workflow). AssemblesRuns roots choice l (first + length run.jobs) rs) (sym rest)
                (subst (λ (k : ℕ). AssemblesRuns roots choice (taken choice (drop (i + 1) ws)) k rs) (n ∙ ap (λ (k : ℕ). first + k) (sym count)) m),
          )));
      pass = λ q. g.pass (subst (λ (l : List Workflow). RunsPass choice l) (sym at) ((order, p), subst (λ (l : List Workflow). RunsPass choice l) (sym rest) q));
      fail = λ f x. g.fail f (subst (λ (l : List Workflow). RunsFail choice (length old) first l f) (sym at) (inr (
        order,
        (
          p,
          subst (λ (l : List Workflow). RunsFail choice (suc (length old)) (first + length (at_places w.jobs order)) l f) (sym rest)
              (subst (λ (k : ℕ). RunsFail choice k (first + length (at_places w.jobs order)) (taken choice (drop (i + 1) ws)) f) (sym more)
              (subst (λ (k : ℕ). RunsFail choice (length new) k (taken choice (drop (i + 1) ws)) f) n x)),
        ),
      )));
      few = omega (arith, g.few);
      room = omega (arith, g.room);
    }

other_run : (roots : Roots) (choice : Choice) (ws : List Workflow) (i first next : ℕ) (old new : List RunPlan) → taken choice (drop i ws) ≡ taken choice (drop (i + 1) ws)
    → GoingRuns roots choice ws i first old → new ≡ old → next ≡ first → GoingRuns roots choice ws (i + 1) next new
other_run roots choice ws i first next old new at g is n =
    subst (λ (rs : List RunPlan). GoingRuns roots choice ws (i + 1) next rs) (sym is) (subst (λ (k : ℕ). GoingRuns roots choice ws (i + 1) k old) (sym n) (record {
      made = λ more m. g.made more (subst (λ (l : List Workflow). AssemblesRuns roots choice l first more) (sym at) m);
      pass = λ q. g.pass (subst (λ (l : List Workflow). RunsPass choice l) (sym at) q);
      fail = λ f x. g.fail f (subst (λ (l : List Workflow). RunsFail choice (length old) first l f) (sym at) x);
      few = omega (arith, g.few, ap length at);
      room = g.room;
    }))

pub next_run : (roots : Roots) (choice : Choice) (ws : List Workflow) (i first next : ℕ) (old new : List RunPlan) (w : Workflow) (b : Bool) → i < length ws → w ≡ get_or ws i w → is_taken choice w ≡ b
    → GoingRuns roots choice ws i first old → Pushed b roots choice w first old new next → GoingRuns roots choice ws (i + 1) next new
next_run roots choice ws i first next old new w true h e t g p =
    taken_run roots choice ws (taken choice (drop (i + 1) ws)) i first next old new w p.0 (taken_there choice ws i w h e t) g p.1.0 p.1.1.0 p.1.1.1 refl
next_run roots choice ws i first next old new w false h e t g p =
    other_run roots choice ws i first next old new (passed_over choice ws i w h e t) g p.0 p.1

pub run_fails : (roots : Roots) (choice : Choice) (ws : List Workflow) (i first : ℕ) (runs : List RunPlan) (w : Workflow) (f : PlanFault) → i < length ws → w ≡ get_or ws i w
    → GoingRuns roots choice ws i first runs → (is_taken choice w ≡ true) × Answered (RunFails choice w (length runs) first) f → Answered (RunsFail choice 0 0 (taken choice ws)) f
run_fails roots choice ws i first runs w f h e g a =
    answered_weaker (RunFails choice w (length runs) first) (RunsFail choice 0 0 (taken choice ws)) f
    (λ y x. g.fail y (subst (λ (l : List Workflow). RunsFail choice (length runs) first l y) (sym (taken_there choice ws i w h e a.0)) (inl x))) a.1

pub all_runs : (roots : Roots) (choice : Choice) (ws : List Workflow) (i first : ℕ) (runs : List RunPlan) → length ws ≤ i → GoingRuns roots choice ws i first runs
    → RunsPass choice (taken choice ws) × AssemblesRuns roots choice (taken choice ws) 0 runs
all_runs roots choice ws i first runs h g =
    let none : taken choice (drop i ws) ≡ [] = ap (taken choice) (drop_all i ws h) in (
      g.pass (subst (λ (l : List Workflow). RunsPass choice l) (sym none) tt),
      subst (λ (l : List RunPlan). AssemblesRuns roots choice (taken choice ws) 0 l) (append-nil runs) (g.made [] (subst (λ (l : List Workflow). AssemblesRuns roots choice l first []) (sym none) tt)),
    )
