-- No rule of a plan is broken exactly where each holds in its own words.
use Rattle.std.proofs.Common.{◌≡◌, ◌+◌, ◌-◌, inl, inr, ℕ, zero, suc, IsTrue, nat_le, codes, decimal, List, [], ◌∷◌, length, Some, None, slice_get, refl, ap, sym, subst, ◌∙◌, arith, length-append}
use Rattle.std.specs.List.{flat_map}
use Rattle.std.proofs.lemmas.List.Concat.{length-flat_map, flat_map-append}
use Rattle.std.proofs.lemmas.List.Sums.{sum_by-cons}
use Rattle.std.proofs.lemmas.Option.{slice_get_within}
use Rattle.expr_reader.specs.Accepts.{is_condition}
use Rattle.expr_reader.specs.Template.{IsCondition}
use Rattle.flow_model.specs.Found.{under, if_there}
use Rattle.flow_model.specs.Rules.{is_variable, is_job_output, are_distinct, group_rules, steps_rules, legs_rules, job_rules, jobs_rules, job_ids, roots_rules, run_rules, runs_rules, legs_of_jobs, legs_of_runs, IsPlan}
use Rattle.flow_model.specs.Sound.{TestsTell, Each, IsVariable, IsJobOutput, SoundGroup, SoundJob, NeedEarlierJobs, SoundRun, SoundPlan}
use Rattle.flow_model.specs.declared.plan.JobPlan.{JobPlan}
use Rattle.flow_model.specs.declared.plan.Plan.{Plan}
use Rattle.flow_model.specs.declared.plan.RunPlan.{RunPlan}
use Rattle.flow_model.proofs.FoundNothing.{or_else_none, none_or_else, under_none, none_under, rule_none, none_rule, if_there_none, none_if_there}
use Rattle.flow_model.proofs.Places.{Each-nil, Each-cons, Each-head, Each-tail, slice_get_there, slice_get-append, slice_get-append_left, slice_get-append_right, names_by, distinct_names, names_distinct, same_Some}
use Rattle.flow_model.proofs.SoundParts.{pass, passed, steps_sound, sound_steps, group_sound, sound_group, SoundLegs, legs_sound, sound_legs, IsBetween, needs_sound, sound_needs, SoundRoots, roots_sound, sound_roots}
use Rattle.flow_model.proofs.Tests.{both, pair, from_le, to_le, from_same, to_same, from_all_there, to_all_there}
use Rattle.flow_model.proofs.TextTests.{flag_sound, sound_flag, variable_sound, sound_variable, output_sound, sound_output}

-- ---- a job

-- the rules of a job that has this number, where its run's first job has the number `first`
record JobHere (first n : ℕ) (j : JobPlan) : Type 0 where
  pub sound : SoundJob j
  pub number : j.number ≡ n
  pub needs : Each (IsBetween first n) j.needs

job_here : TestsTell → (first n : ℕ) (j : JobPlan) → job_rules first n j ≡ None → JobHere first n j
job_here tests first n j e =
    let condition = or_else_none _ _ e in
    let env = or_else_none _ _ condition.1 in
    let group = or_else_none _ _ env.1 in
    let id = or_else_none _ _ group.1 in
    let legs = or_else_none (legs_rules j) _ id.1 in
    let needs = or_else_none _ _ legs.1 in
    let number = or_else_none _ _ needs.1 in
    let outputs = or_else_none _ _ number.1 in
    let steps = or_else_none (steps_rules j.steps) _ outputs.1 in
    let of_legs = legs_sound j legs.0 in
    let of_needs = needs_sound first n j.needs (rule_none _ _ needs.0) in
    let of_steps = steps_sound tests j.steps steps.0 in
    record {
      sound = record {
        condition = from_all_there is_condition IsCondition (λ t. (tests.condition t).0) j.condition (rule_none _ _ condition.0);
        env = pass is_variable IsVariable (variable_sound tests) (codes "env") j.env env.0;
        group = if_there_none group_rules SoundGroup (group_sound tests) j.group (under_none (codes "group") (if_there group_rules j.group) group.0);
        id = rule_none _ _ id.0;
        some_leg = of_legs.some_leg;
        few_legs = of_legs.few_legs;
        legs = of_legs.legs;
        max_parallel = of_legs.max_parallel;
        needs_ascend = of_needs.1;
        outputs = pass is_job_output IsJobOutput (output_sound tests) (codes "outputs") j.outputs outputs.0;
        few_steps = of_steps.0;
        step_ids = of_steps.1;
        steps = of_steps.2;
        tolerate = flag_sound tests j.tolerate (rule_none _ _ steps.1);
      };
      number = from_same j.number n (rule_none _ _ number.0);
      needs = of_needs.0;
    }

here_job : TestsTell → (first n : ℕ) (j : JobPlan) → JobHere first n j → job_rules first n j ≡ None
here_job tests first n j h =
    let s = h.sound in
    let legs : SoundLegs j = record { some_leg = s.some_leg; few_legs = s.few_legs; legs = s.legs; max_parallel = s.max_parallel } in
    none_or_else _ _ (none_rule _ _ (to_all_there is_condition IsCondition (λ t. (tests.condition t).1) j.condition s.condition))
    (none_or_else _ _ (passed is_variable IsVariable (sound_variable tests) (codes "env") j.env s.env)
    (none_or_else _ _ (none_under (codes "group") (if_there group_rules j.group) (none_if_there group_rules SoundGroup (sound_group tests) j.group s.group))
    (none_or_else _ _ (none_rule _ _ s.id)
    (none_or_else (legs_rules j) _ (sound_legs j legs)
    (none_or_else _ _ (none_rule _ _ (sound_needs first n j.needs h.needs s.needs_ascend))
    (none_or_else _ _ (none_rule _ _ (to_same j.number n h.number))
    (none_or_else _ _ (passed is_job_output IsJobOutput (sound_output tests) (codes "outputs") j.outputs s.outputs)
    (none_or_else (steps_rules j.steps) _ (sound_steps tests j.steps s.few_steps s.step_ids s.steps)
    (none_rule _ _ (sound_flag tests j.tolerate s.tolerate))))))))))

-- ---- the jobs of a run

moved : (first m n : ℕ) (j : JobPlan) → m ≡ n → JobHere first m j → JobHere first n j
moved first m n j e h = subst (λ (k : ℕ). JobHere first k j) e h

jobs_at : (first k : ℕ) (j : JobPlan) (js : List JobPlan) → JobHere first (first + k) j → ((i : ℕ) (x : JobPlan) → slice_get js i ≡ Some x → JobHere first (first + (suc k + i)) x)
    → (i : ℕ) (x : JobPlan) → slice_get (j ∷ js) i ≡ Some x → JobHere first (first + (k + i)) x
jobs_at first k j js here later zero x e =
    subst (λ (y : JobPlan). JobHere first (first + (k + 0)) y) (same_Some e) (moved first (first + k) (first + (k + 0)) j (omega arith) here)
jobs_at first k j js here later (suc i) x e = moved first (first + (suc k + i)) (first + (k + suc i)) x (omega arith) (later i x e)

jobs_here : TestsTell → (first k : ℕ) (js : List JobPlan) → jobs_rules first k js ≡ None → (i : ℕ) (j : JobPlan) → slice_get js i ≡ Some j → JobHere first (first + (k + i)) j
jobs_here tests first k [] e = λ i j h. absurd (cc)
jobs_here tests first k (j ∷ js) e =
    let r = or_else_none (under (decimal k) (job_rules first (first + k) j)) (jobs_rules first (suc k) js) e in
    let later = jobs_here tests first (suc k) js r.1 in
    let here = job_here tests first (first + k) j (under_none (decimal k) (job_rules first (first + k) j) r.0) in
    jobs_at first k j js here later

here_jobs : TestsTell → (first k : ℕ) (js : List JobPlan) → ((i : ℕ) (j : JobPlan) → slice_get js i ≡ Some j → JobHere first (first + (k + i)) j) → jobs_rules first k js ≡ None
here_jobs tests first k [] h = refl
here_jobs tests first k (j ∷ js) h =
    let here = moved first (first + (k + 0)) (first + k) j (omega arith) (h 0 j refl) in
    none_or_else (under (decimal k) (job_rules first (first + k) j)) (jobs_rules first (suc k) js)
    (none_under (decimal k) (job_rules first (first + k) j) (here_job tests first (first + k) j here))
    (here_jobs tests first (suc k) js (λ i x e. moved first (first + (k + suc i)) (first + (suc k + i)) x (omega arith) (h (suc i) x e)))

-- the ids of jobs
job_ids-names_by : (js : List JobPlan) → job_ids js ≡ names_by (λ j. Some j.id) js
job_ids-names_by [] = refl
job_ids-names_by (j ∷ js) = ap (λ (ids : List (List ℕ)). j.id ∷ ids) (job_ids-names_by js)

-- ---- a run

-- the rules of a run whose first job has this number
record RunHere (first : ℕ) (r : RunPlan) : Type 0 where
  pub sound : SoundRun r
  pub numbers : (i : ℕ) (j : JobPlan) → slice_get r.jobs i ≡ Some j → j.number ≡ first + i

-- a need from the first number on and below this one is the number of an earlier job
earlier_jobs : (first : ℕ) (js : List JobPlan) → ((i : ℕ) (j : JobPlan) → slice_get js i ≡ Some j → JobHere first (first + i) j) → NeedEarlierJobs js
earlier_jobs first js here i j e k need en =
    let b = (here i j e).needs k need en in
    let within = slice_get_within js i j e in
    let there = slice_get_there js (need - first) (omega (arith, b.0, b.1, within)) in
    (need - first, there.0, omega (arith, b.0, b.1), there.1, omega (arith, (here (need - first) there.0 there.1).number, b.0))

from_first : (first i : ℕ) → first + (0 + i) ≡ first + i
from_first first i = omega arith

run_here : TestsTell → (first : ℕ) (r : RunPlan) → run_rules first r ≡ None → RunHere first r
run_here tests first r e =
    let env = or_else_none _ _ e in
    let group = or_else_none _ _ env.1 in
    let count = or_else_none _ _ group.1 in
    let ids = or_else_none _ _ count.1 in
    let jobs = or_else_none (under (codes "jobs") (jobs_rules first 0 r.jobs)) (under (codes "roots") (roots_rules r.roots)) ids.1 in
    let counts = both (nat_le 1 (length r.jobs)) (nat_le (length r.jobs) 256) (rule_none _ _ count.0) in
    let from_zero = jobs_here tests first 0 r.jobs (under_none (codes "jobs") (jobs_rules first 0 r.jobs) jobs.0) in
    let here : (i : ℕ) (j : JobPlan) → slice_get r.jobs i ≡ Some j → JobHere first (first + i) j =
    λ i j h. moved first (first + (0 + i)) (first + i) j (from_first first i) (from_zero i j h) in
    let roots = roots_sound r.roots (under_none (codes "roots") (roots_rules r.roots) jobs.1) in
    record {
      sound = record {
        env = pass is_variable IsVariable (variable_sound tests) (codes "env") r.env env.0;
        group = if_there_none group_rules SoundGroup (group_sound tests) r.group (under_none (codes "group") (if_there group_rules r.group) group.0);
        some_job = from_le 1 (length r.jobs) counts.0;
        few_jobs = from_le (length r.jobs) 256 counts.1;
        job_ids = distinct_names (λ j. Some j.id) r.jobs (subst (λ names. IsTrue (are_distinct names)) (job_ids-names_by r.jobs) (rule_none _ _ ids.0));
        needs = earlier_jobs first r.jobs here;
        jobs = λ i j h. (here i j h).sound;
        github = roots.github;
        inputs = roots.inputs;
        secrets = roots.secrets;
        vars = roots.vars;
      };
      numbers = λ i j h. (here i j h).number;
    }

here_run : TestsTell → (first : ℕ) (r : RunPlan) → RunHere first r → run_rules first r ≡ None
here_run tests first r h =
    let s = h.sound in
    let roots : SoundRoots r.roots = record { github = s.github; inputs = s.inputs; secrets = s.secrets; vars = s.vars } in
    let at : (i : ℕ) (j : JobPlan) → slice_get r.jobs i ≡ Some j → JobHere first (first + (0 + i)) j =
    λ i j e. record {
      sound = s.jobs i j e;
      number = omega (arith, h.numbers i j e);
      needs = λ k need en.
          let earlier = s.needs i j e k need en in
          let number = h.numbers earlier.0 earlier.1 earlier.3 in
          (omega (arith, number, earlier.4), omega (arith, number, earlier.4, earlier.2));
    } in
    none_or_else _ _ (passed is_variable IsVariable (sound_variable tests) (codes "env") r.env s.env)
    (none_or_else _ _ (none_under (codes "group") (if_there group_rules r.group) (none_if_there group_rules SoundGroup (sound_group tests) r.group s.group))
    (none_or_else _ _ (none_rule _ _ (pair (nat_le 1 (length r.jobs)) (nat_le (length r.jobs) 256) (to_le 1 (length r.jobs) s.some_job) (to_le (length r.jobs) 256 s.few_jobs)))
    (none_or_else _ _ (none_rule _ _ (subst (λ names. IsTrue (are_distinct names)) (sym (job_ids-names_by r.jobs)) (names_distinct (λ j. Some j.id) r.jobs s.job_ids)))
    (none_or_else (under (codes "jobs") (jobs_rules first 0 r.jobs)) (under (codes "roots") (roots_rules r.roots))
    (none_under (codes "jobs") (jobs_rules first 0 r.jobs) (here_jobs tests first 0 r.jobs at))
    (none_under (codes "roots") (roots_rules r.roots) (sound_roots r.roots roots))))))

-- ---- all runs

-- each job's number is its place, counted on from the number `first`
abbrev Numbered : ℕ → List RunPlan → Type 0
Numbered first rs = (n : ℕ) (j : JobPlan) → slice_get (flat_map (λ run. run.jobs) rs) n ≡ Some j → j.number ≡ first + n

runs_here : TestsTell → (first k : ℕ) (rs : List RunPlan) → runs_rules first k rs ≡ None → Each SoundRun rs × Numbered first rs
runs_here tests first k [] e = (Each-nil SoundRun, λ n j h. absurd (cc))
runs_here tests first k (r ∷ rs) e =
    let parts = or_else_none (under (decimal k) (run_rules first r)) (runs_rules (first + length r.jobs) (suc k) rs) e in
    let here = run_here tests first r (under_none (decimal k) (run_rules first r) parts.0) in
    let later = runs_here tests (first + length r.jobs) (suc k) rs parts.1 in (
      Each-cons SoundRun r rs here.sound later.0,
      λ n j h. elim (slice_get-append r.jobs (flat_map (λ run. run.jobs) rs) n j h) [
        | inl own ↦ here.numbers n j own
        | inr other ↦ omega (arith, other.1, later.1 other.0 j other.2)
      ],
    )

here_runs : TestsTell → (first k : ℕ) (rs : List RunPlan) → Each SoundRun rs → Numbered first rs → runs_rules first k rs ≡ None
here_runs tests first k [] h numbers = refl
here_runs tests first k (r ∷ rs) h numbers =
    let rest = flat_map (λ run. run.jobs) rs in
    let here : RunHere first r = record {
      sound = Each-head SoundRun r rs h;
      numbers = λ i j e. numbers i j (slice_get-append_left r.jobs rest i j e);
    } in
    let later : Numbered (first + length r.jobs) rs =
    λ n j e. omega (arith, numbers (length r.jobs + n) j (slice_get-append_right r.jobs rest n ∙ e)) in
    none_or_else (under (decimal k) (run_rules first r)) (runs_rules (first + length r.jobs) (suc k) rs)
    (none_under (decimal k) (run_rules first r) (here_run tests first r here))
    (here_runs tests (first + length r.jobs) (suc k) rs (Each-tail SoundRun r rs h) later)

-- how many legs there are, counted run by run, is how many there are in all
legs_count : (rs : List RunPlan) → legs_of_runs rs ≡ length (flat_map (λ job. job.legs) (flat_map (λ run. run.jobs) rs))
legs_count [] = refl
legs_count (r ∷ rs) =
    let rest = flat_map (λ run. run.jobs) rs in
    let split = sum_by-cons (λ run. legs_of_jobs run.jobs) r rs in
    let own = length-flat_map (λ job. job.legs) r.jobs in
    let whole = ap length (flat_map-append (λ job. job.legs) r.jobs rest) ∙ length-append (flat_map (λ job. job.legs) r.jobs) (flat_map (λ job. job.legs) rest) in
    omega (arith, split, own, whole, legs_count rs)

-- ---- a plan

pub plan_sound : TestsTell → (p : Plan) → IsPlan p → SoundPlan p
plan_sound tests p e =
    let count = or_else_none _ _ e in
    let runs = or_else_none (under (codes "runs") (runs_rules 0 0 p.runs)) _ count.1 in
    let counts = both (nat_le 1 (length p.runs)) (nat_le (length p.runs) 64) (rule_none _ _ count.0) in
    let here = runs_here tests 0 0 p.runs (under_none (codes "runs") (runs_rules 0 0 p.runs) runs.0) in
    let legs = from_le (legs_of_runs p.runs) 4096 (rule_none (codes "runs") _ runs.1) in
    record {
      some_run = from_le 1 (length p.runs) counts.0;
      few_runs = from_le (length p.runs) 64 counts.1;
      few_legs = omega (arith, legs, legs_count p.runs);
      numbers = λ n j h. omega (arith, here.1 n j h);
      runs = here.0;
    }

pub sound_plan : TestsTell → (p : Plan) → SoundPlan p → IsPlan p
sound_plan tests p h =
    none_or_else _ _ (none_rule _ _ (pair (nat_le 1 (length p.runs)) (nat_le (length p.runs) 64) (to_le 1 (length p.runs) h.some_run) (to_le (length p.runs) 64 h.few_runs)))
    (none_or_else (under (codes "runs") (runs_rules 0 0 p.runs)) _
    (none_under (codes "runs") (runs_rules 0 0 p.runs) (here_runs tests 0 0 p.runs h.runs (λ n j e. omega (arith, h.numbers n j e))))
    (none_rule (codes "runs") _ (to_le (legs_of_runs p.runs) 4096 (omega (arith, h.few_legs, legs_count p.runs)))))
