-- Workflows that come to a plan which breaks no rule pass their tests, and so fail none.
use Rattle.std.proofs.Common.{◌≡◌, ◌∙◌, ◌≤◌, ◌+◌, ◌&&◌, ℕ, suc, Bool, true, false, IsTrue, nat_le, codes, decimal, List, [], ◌∷◌, length, Option, Some, None, Ok, refl, ap, sym, subst, inl, inr, arith}
use Rattle.std.specs.List.{AllByRecursion, list_all}
use Rattle.flow_model.specs.Found.{rule, under, each_pair, if_there}
use Rattle.flow_model.specs.Rules.{is_variable, group_rules, job_rules, jobs_rules, job_ids, are_distinct, roots_rules, run_rules, runs_rules, legs_of_runs, IsPlan}
use Rattle.flow_model.specs.declared.flow.FlowJob.{FlowJob}
use Rattle.flow_model.specs.declared.flow.Workflow.{Workflow}
use Rattle.flow_model.specs.declared.plan.JobPlan.{JobPlan}
use Rattle.flow_model.specs.declared.plan.Matrix.{Matrix}
use Rattle.flow_model.specs.declared.plan.Plan.{Plan}
use Rattle.flow_model.specs.declared.plan.Roots.{Roots}
use Rattle.flow_model.specs.declared.plan.RunPlan.{RunPlan}
use Rattle.flow_model.proofs.FoundNothing.{or_else_none, under_none, rule_none}
use Rattle.flow_model.proofs.Tests.{both, pair, from_le}
use Rattle.matrix_expand.specs.Combos.{combos}
use Rattle.matrix_expand.specs.Expands.{Expands}
use Rattle.matrix_expand.specs.declared.fault.MatrixFault.{MatrixFault}
use Rattle.matrix_expand.specs.declared.fault.MatrixFault.TheVariants.{EmptyVariable, NoCombination, TooMany, Memory}
use Rattle.plan_assembler.specs.Layout.{ids_of, taken, at_places, has_few_steps}
use Rattle.plan_assembler.specs.Plans.{HasLegs, job_plan, job_plans, run_plan, AssemblesRun, AssemblesRuns, Assembles}
use Rattle.plan_assembler.specs.Refusals.{HasNoLegs, MatrixFails, TextFails, JobPasses, JobFails, JobsFail, NeedsFail, NeedsPass, TakenPass, TakenFail, RunPasses, RunFails, RunsPass, RunsFail, Refuses}
use Rattle.plan_assembler.specs.Texts.{Evaluated, StandsInFound, if_there as of_there, of_env, of_group, of_job, of_workflow}
use Rattle.plan_assembler.specs.declared.choice.Choice.{Choice}
use Rattle.plan_assembler.specs.declared.fault.PlanFault.{PlanFault}
use Rattle.plan_assembler.specs.declared.fault.FaultPlace.{FaultPlace}
use Rattle.plan_assembler.specs.declared.fault.FaultPlace.TheVariants as place
use Rattle.plan_assembler.proofs.OnePlan.{one_order, one_plan}
use Rattle.plan_assembler.proofs.PlannedTexts.{neither, env_read, in_group_read, job_read}
use Rattle.plan_assembler.proofs.RunSteps.{length-job_plans}

-- ---- what a plan that breaks no rule says of its workflows

-- the texts of the jobs can be read, and their steps are few
abbrev AreRead : List FlowJob → Type 0
AreRead jobs = AllByRecursion (λ job. of_job job ≡ None) jobs × IsTrue (list_all has_few_steps jobs)

jobs_read : (ids : List (List ℕ)) (order : List ℕ) (first k number : ℕ) (jobs : List FlowJob) → jobs_rules first k (job_plans ids order first number jobs) ≡ None → AreRead jobs
jobs_read ids order first k number [] e = (tt, refl)
jobs_read ids order first k number (job ∷ jobs) e =
    let plan : JobPlan = job_plan ids order first number job in
    let a = or_else_none (under (decimal k) (job_rules first (first + k) plan)) (jobs_rules first (suc k) (job_plans ids order first (suc number) jobs)) e in
    let own = job_read first (first + k) plan (under_none (decimal k) (job_rules first (first + k) plan) a.0) in
    let rest = jobs_read ids order first (suc k) (suc number) jobs a.1 in
    ((own.0, rest.0), pair (has_few_steps job) (list_all has_few_steps jobs) own.1 rest.1)

pass_both : (jobs : List FlowJob) → AllByRecursion (λ job. HasLegs job.matrix) jobs → AllByRecursion (λ job. of_job job ≡ None) jobs → AllByRecursion JobPasses jobs
pass_both [] legs texts = tt
pass_both (job ∷ jobs) legs texts = ((legs.0, texts.0), pass_both jobs legs.1 texts.1)

-- of a run whose rules are kept: the workflow's own texts, the count of its jobs, and its jobs
taken_read : (roots : Roots) (choice : Choice) (w : Workflow) (order : List ℕ) (first : ℕ) → run_rules first (run_plan roots choice w order first) ≡ None
    → (of_workflow w ≡ None) × IsTrue (nat_le (length (at_places w.jobs order)) 256) × AreRead (at_places w.jobs order)
taken_read roots choice w order first e =
    let jobs : List JobPlan = job_plans (ids_of w.jobs) order first first (at_places w.jobs order) in
    let env = or_else_none (under (codes "env") (each_pair is_variable w.env)) _ e in
    let group = or_else_none (under (codes "group") (if_there group_rules w.group)) _ env.1 in
    let count = or_else_none (rule (codes "jobs") (nat_le 1 (length jobs) && nat_le (length jobs) 256)) _ group.1 in
    let distinct = or_else_none (rule (codes "jobs") (are_distinct (job_ids jobs))) _ count.1 in
    let each = or_else_none (under (codes "jobs") (jobs_rules first 0 jobs)) (under (codes "roots") (roots_rules roots)) distinct.1 in
    let few = both (nat_le 1 (length jobs)) (nat_le (length jobs) 256) (rule_none (codes "jobs") (nat_le 1 (length jobs) && nat_le (length jobs) 256) count.0) in
    let long : length jobs ≡ length (at_places w.jobs order) = length-job_plans (ids_of w.jobs) order first first (at_places w.jobs order) in (
      neither (of_env w.env) (of_there of_group w.group) (env_read w.env env.0) (in_group_read w.group group.0),
      subst (λ (n : ℕ). IsTrue (nat_le n 256)) long few.1,
      jobs_read (ids_of w.jobs) order first 0 first (at_places w.jobs order) (under_none (codes "jobs") (jobs_rules first 0 jobs) each.0),
    )

run_passes : (roots : Roots) (choice : Choice) (w : Workflow) (first : ℕ) (run : RunPlan) → (a : AssemblesRun roots choice w first run) → run_rules first run ≡ None → RunPasses choice w a.order
run_passes roots choice w first run a e =
    let read = taken_read roots choice w a.order first (ap (run_rules first) (sym a.is_run) ∙ e) in
    let jobs : List FlowJob = at_places w.jobs a.order in (
      record { known = a.known; no_cycle = a.no_cycle; is_order = a.is_order },
      record {
        few = pair (nat_le (length jobs) 256) (list_all has_few_steps jobs) read.1 read.2.1;
        texts = read.0;
        jobs_pass = pass_both jobs a.legs read.2.0;
      },
    )

-- there are as many runs as workflows, and each workflow passes its tests
runs_pass : (roots : Roots) (choice : Choice) (ws : List Workflow) (first k : ℕ) (rs : List RunPlan) → AssemblesRuns roots choice ws first rs → runs_rules first k rs ≡ None
    → RunsPass choice ws × (length rs ≡ length ws)
runs_pass roots choice [] first k [] a e = (tt, refl)
runs_pass roots choice [] first k (r ∷ rs) a e = absurd a
runs_pass roots choice (w ∷ ws) first k [] a e = absurd a
runs_pass roots choice (w ∷ ws) first k (r ∷ rs) a e =
    let split = or_else_none (under (decimal k) (run_rules first r)) (runs_rules (first + length r.jobs) (suc k) rs) e in
    let own = run_passes roots choice w first r a.0 (under_none (decimal k) (run_rules first r) split.0) in
    let rest = runs_pass roots choice ws (first + length r.jobs) (suc k) rs a.1 split.1 in
    (((a.0.order, own), rest.0), ap suc rest.1)

-- ---- what passes its tests fails none

clash : {b : Bool} → b ≡ true → b ≡ false → ⊥
clash e f = absurd (cc)

no_text : (at : FaultPlace) (found : Option Evaluated) (f : PlanFault) → found ≡ None → TextFails at found f → ⊥
no_text at found f e t = subst (λ (o : Option Evaluated). StandsInFound o t.0) e t.1.1

-- a matrix that has combinations is at no fault
matrix_stands : (m : Matrix) (e : MatrixFault) → Expands m (Ok (combos m)) → HasNoLegs m e → ⊥
matrix_stands m EmptyVariable h n = clash h.0 n
matrix_stands m NoCombination h n = omega (arith, h.3, ap length n.2)
matrix_stands m TooMany h n = elim n.1 [ inl many ↦ omega (arith, h.1, many) | inr more ↦ omega (arith, h.4, more.1) ]
matrix_stands m Memory h n = n

legs_stand : (number : ℕ) (o : Option Matrix) (f : PlanFault) → HasLegs o → MatrixFails number o f → ⊥
legs_stand number None f h x = x
legs_stand number (Some m) f h x = matrix_stands m x.0 h x.1.1

job_stands : (number : ℕ) (job : FlowJob) (f : PlanFault) → JobPasses job → JobFails number job f → ⊥
job_stands number job f p x =
    elim x [ inl legs ↦ legs_stand number job.matrix f p.0 legs | inr text ↦ no_text (place.Job number) (of_job job) f p.1 text.1 ]

jobs_stand : (number : ℕ) (jobs : List FlowJob) (f : PlanFault) → AllByRecursion JobPasses jobs → JobsFail number jobs f → ⊥
jobs_stand number [] f p x = x
jobs_stand number (job ∷ jobs) f p x = elim x [ inl here ↦ job_stands number job f p.0 here | inr later ↦ jobs_stand (suc number) jobs f p.1 later.1 ]

taken_stands : (w : Workflow) (run first : ℕ) (jobs : List FlowJob) (f : PlanFault) → TakenPass w jobs → TakenFail w run first jobs f → ⊥
taken_stands w run first jobs f p x =
    elim x [
      | inl many ↦ clash p.few many.0
      | inr rest ↦
          elim rest.1 [ inl text ↦ no_text (place.Run run) (of_workflow w) f p.texts text | inr each ↦ jobs_stand first jobs f p.jobs_pass each.1 ]
    ]

needs_stand : (choice : Choice) (jobs : List FlowJob) (order : List ℕ) (f : PlanFault) → NeedsPass choice jobs order → NeedsFail jobs f → ⊥
needs_stand choice jobs order f p x = elim x [ inl unknown ↦ clash p.known unknown.0 | inr cycle ↦ p.no_cycle cycle.1.0 ]

run_stands : (choice : Choice) (w : Workflow) (order : List ℕ) (run first : ℕ) (f : PlanFault) → RunPasses choice w order → RunFails choice w run first f → ⊥
run_stands choice w order run first f p x =
    elim x [
      | inl needs ↦ needs_stand choice w.jobs order f p.0 needs
      | inr taken ↦
          let same : taken.0 ≡ order = one_order choice w.jobs taken.0 order taken.1.0.is_order p.0.is_order in
          taken_stands w run first (at_places w.jobs order) f p.1 (subst (λ (o : List ℕ). TakenFail w run first (at_places w.jobs o) f) same taken.1.1)
    ]

runs_stand : (choice : Choice) (run first : ℕ) (ws : List Workflow) (f : PlanFault) → RunsPass choice ws → RunsFail choice run first ws f → ⊥
runs_stand choice run first [] f p x = x
runs_stand choice run first (w ∷ ws) f p x =
    elim x [
      | inl here ↦ run_stands choice w p.0.0 run first f p.0.1 here
      | inr later ↦ runs_stand choice (suc run) (first + length (at_places w.jobs later.0)) ws f p.1 later.1.1
    ]

pub refused_none : (ws : List Workflow) (roots : Roots) (choice : Choice) (f : PlanFault) → Refuses ws roots choice f → (p : Plan) → Assembles ws roots choice p → IsPlan p → ⊥
refused_none ws roots choice f x p a s =
    let count = or_else_none (rule (codes "runs") (nat_le 1 (length p.runs) && nat_le (length p.runs) 64)) _ s in
    let runs = or_else_none (under (codes "runs") (runs_rules 0 0 p.runs)) (rule (codes "runs") (nat_le (legs_of_runs p.runs) 4096)) count.1 in
    let bounds = both (nat_le 1 (length p.runs)) (nat_le (length p.runs) 64) (rule_none (codes "runs") (nat_le 1 (length p.runs) && nat_le (length p.runs) 64) count.0) in
    let some : 1 ≤ length p.runs = from_le 1 (length p.runs) bounds.0 in
    let few : length p.runs ≤ 64 = from_le (length p.runs) 64 bounds.1 in
    let legs : legs_of_runs p.runs ≤ 4096 = from_le (legs_of_runs p.runs) 4096 (rule_none (codes "runs") (nat_le (legs_of_runs p.runs) 4096) runs.1) in
    let passes = runs_pass roots choice (taken choice ws) 0 0 p.runs a (under_none (codes "runs") (runs_rules 0 0 p.runs) runs.0) in
    elim x [
      | inl none ↦ omega (arith, none.0, some, passes.1)
      | inr more ↦
          elim more.1 [
            | inl many ↦ omega (arith, many.0, few, passes.1)
            | inr rest ↦
                elim rest.1 [
                  | inl fails ↦ runs_stand choice 0 0 (taken choice ws) f passes.0 fails
                  | inr large ↦
                      let same : large.1.0.runs ≡ p.runs = ap (λ (q : Plan). q.runs) (one_plan ws roots choice large.1.0 p large.1.1.0 a) in
                      omega (arith, large.1.1.1.0, legs, ap legs_of_runs same)
                ]
          ]
    ]
