-- In a plan that breaks no rule each job needs jobs before it alone.
use Rattle.std.proofs.Common.{◌≡◌, ◌<◌, ◌+◌, ◌&&◌, ◌==◌, ℕ, zero, suc, IsTrue, nat_le, nat_lt, codes, decimal, List, [], ◌∷◌, ◌++◌, map, length, get_or, Option, None, subst, sym, arith}
use Rattle.std.specs.List.{Contains, flat_map}
use Rattle.std.proofs.lemmas.List.{length-map}
use Rattle.flow_model.specs.Found.{Path, rule, or_else, under, each_pair, if_there}
use Rattle.flow_model.specs.Rules.{is_condition, all_there, is_variable, is_job_output, is_flag, are_distinct, job_ids, group_rules, steps_rules, legs_of_runs, ascend_between, legs_rules, job_rules, jobs_rules, roots_rules, run_rules, runs_rules, IsPlan}
use Rattle.flow_model.specs.Name.{is_id}
use Rattle.flow_model.specs.declared.plan.JobPlan.{JobPlan}
use Rattle.flow_model.specs.declared.plan.Plan.{Plan}
use Rattle.flow_model.specs.declared.plan.RunPlan.{RunPlan}
use Rattle.flow_model.proofs.FoundNothing.{or_else_none, under_none, rule_none}
use Rattle.flow_model.proofs.Tests.{both, from_lt}
use Rattle.plan_assembler.specs.Graph.{Graph}
use Rattle.plan_assembler.specs.Staging.{plan_graph, stages_from}
use Rattle.plan_assembler.specs.Stages.{AreStages}
use Rattle.plan_assembler.proofs.Stagings.{PointBack, map-append, stages_settled}

below_case : (n high : ℕ) (ns : List ℕ) (k i : ℕ) → i < length (n ∷ ns) → get_or (n ∷ ns) i k ≡ k → n < high → (Contains ns k → k < high) → k < high
below_case n high ns k zero w e here more = subst (λ (m : ℕ). m < high) e here
below_case n high ns k (suc i) w e here more = more (i, omega arith, e)

needs_below : (low high : ℕ) (ns : List ℕ) → IsTrue (ascend_between low high ns) → (k : ℕ) → Contains ns k → k < high
needs_below low high [] h k c = absurd (omega (arith, c.1))
needs_below low high (n ∷ ns) h k c =
    let a = both (nat_le low n && nat_lt n high) (ascend_between (suc n) high ns) h in
    let b = both (nat_le low n) (nat_lt n high) a.0 in
    below_case n high ns k c.0 c.1 c.2 (from_lt n high b.1) (needs_below (suc n) high ns a.1 k)

-- what is looked at after these parts of a job
abbrev after_needs : ℕ → JobPlan → Option Path
after_needs n j =
    or_else (rule (codes "number") (j.number == n)) (or_else (under (codes "outputs") (each_pair is_job_output j.outputs)) (or_else (steps_rules j.steps) (rule (codes "tolerate") (is_flag j.tolerate))))

abbrev after_legs : ℕ → ℕ → JobPlan → Option Path
after_legs first n j = or_else (rule (codes "needs") (ascend_between first n j.needs)) (after_needs n j)

abbrev after_id : ℕ → ℕ → JobPlan → Option Path
after_id first n j = or_else (legs_rules j) (after_legs first n j)

abbrev after_group : ℕ → ℕ → JobPlan → Option Path
after_group first n j = or_else (rule (codes "id") (is_id j.id)) (after_id first n j)

abbrev after_env : ℕ → ℕ → JobPlan → Option Path
after_env first n j = or_else (under (codes "group") (if_there group_rules j.group)) (after_group first n j)

abbrev after_condition : ℕ → ℕ → JobPlan → Option Path
after_condition first n j = or_else (under (codes "env") (each_pair is_variable j.env)) (after_env first n j)

job_back : (first n : ℕ) (j : JobPlan) → job_rules first n j ≡ None → (k : ℕ) → Contains j.needs k → k < n
job_back first n j e =
    let condition = or_else_none (rule (codes "condition") (all_there is_condition j.condition)) (after_condition first n j) e in
    let env = or_else_none (under (codes "env") (each_pair is_variable j.env)) (after_env first n j) condition.1 in
    let group = or_else_none (under (codes "group") (if_there group_rules j.group)) (after_group first n j) env.1 in
    let id = or_else_none (rule (codes "id") (is_id j.id)) (after_id first n j) group.1 in
    let legs = or_else_none (legs_rules j) (after_legs first n j) id.1 in
    let needs = or_else_none (rule (codes "needs") (ascend_between first n j.needs)) (after_needs n j) legs.1 in
    needs_below first n j.needs (rule_none (codes "needs") (ascend_between first n j.needs) needs.0)

jobs_back : (first k : ℕ) (js : List JobPlan) → jobs_rules first k js ≡ None → PointBack (first + k) (map (λ job. job.needs) js)
jobs_back first k [] e = tt
jobs_back first k (j ∷ js) e =
    let r = or_else_none (under (decimal k) (job_rules first (first + k) j)) (jobs_rules first (suc k) js) e in
    let next : first + suc k ≡ suc (first + k) = omega arith in (
      job_back first (first + k) j (under_none (decimal k) (job_rules first (first + k) j) r.0),
      subst (λ (n : ℕ). PointBack n (map (λ (job : JobPlan). job.needs) js)) next (jobs_back first (suc k) js r.1),
    )

back_append : (n : ℕ) (g h : Graph) → PointBack n g → PointBack (n + length g) h → PointBack n (g ++ h)
back_append n [] h b c = let same : n + 0 ≡ n = omega arith in subst (λ (m : ℕ). PointBack m h) same c
back_append n (needs ∷ g) h b c =
    let next : n + suc (length g) ≡ suc n + length g = omega arith in
    (b.0, back_append (suc n) g h b.1 (subst (λ (m : ℕ). PointBack m h) next c))

-- what is looked at after these parts of a run
abbrev after_ids : ℕ → RunPlan → Option Path
after_ids first r = or_else (under (codes "jobs") (jobs_rules first 0 r.jobs)) (under (codes "roots") (roots_rules r.roots))

abbrev after_count : ℕ → RunPlan → Option Path
after_count first r = or_else (rule (codes "jobs") (are_distinct (job_ids r.jobs))) (after_ids first r)

abbrev after_run_group : ℕ → RunPlan → Option Path
after_run_group first r = or_else (rule (codes "jobs") (nat_le 1 (length r.jobs) && nat_le (length r.jobs) 256)) (after_count first r)

abbrev after_run_env : ℕ → RunPlan → Option Path
after_run_env first r = or_else (under (codes "group") (if_there group_rules r.group)) (after_run_group first r)

run_back : (first : ℕ) (r : RunPlan) → run_rules first r ≡ None → PointBack first (map (λ job. job.needs) r.jobs)
run_back first r e =
    let env = or_else_none (under (codes "env") (each_pair is_variable r.env)) (after_run_env first r) e in
    let group = or_else_none (under (codes "group") (if_there group_rules r.group)) (after_run_group first r) env.1 in
    let count = or_else_none (rule (codes "jobs") (nat_le 1 (length r.jobs) && nat_le (length r.jobs) 256)) (after_count first r) group.1 in
    let ids = or_else_none (rule (codes "jobs") (are_distinct (job_ids r.jobs))) (after_ids first r) count.1 in
    let jobs = or_else_none (under (codes "jobs") (jobs_rules first 0 r.jobs)) (under (codes "roots") (roots_rules r.roots)) ids.1 in
    let same : first + 0 ≡ first = omega arith in
    subst (λ (n : ℕ). PointBack n (map (λ (job : JobPlan). job.needs) r.jobs)) same (jobs_back first 0 r.jobs (under_none (codes "jobs") (jobs_rules first 0 r.jobs) jobs.0))

runs_back : (first k : ℕ) (rs : List RunPlan) → runs_rules first k rs ≡ None → PointBack first (map (λ job. job.needs) (flat_map (λ run. run.jobs) rs))
runs_back first k [] e = tt
runs_back first k (r ∷ rs) e =
    let split = or_else_none (under (decimal k) (run_rules first r)) (runs_rules (first + length r.jobs) (suc k) rs) e in
    let own = run_back first r (under_none (decimal k) (run_rules first r) split.0) in
    let later = runs_back (first + length r.jobs) (suc k) rs split.1 in
    let long : first + length r.jobs ≡ first + length (map (λ (job : JobPlan). job.needs) r.jobs) = omega (arith, length-map r.jobs (λ (job : JobPlan). job.needs)) in
    subst (λ (g : Graph). PointBack first g) (sym (map-append r.jobs (flat_map (λ (run : RunPlan). run.jobs) rs)))
    (back_append first (map (λ job. job.needs) r.jobs) _ own (subst (λ (n : ℕ). PointBack n (map (λ (job : JobPlan). job.needs) (flat_map (λ (run : RunPlan). run.jobs) rs))) long later))

-- the stages that were found, one job after the other, are those of the plan's jobs
pub plan_staged : (p : Plan) → IsPlan p → AreStages (plan_graph p) (stages_from [] (plan_graph p))
plan_staged p e =
    let few = or_else_none (rule (codes "runs") (nat_le 1 (length p.runs) && nat_le (length p.runs) 64)) (or_else (under (codes "runs") (runs_rules 0 0 p.runs)) (rule (codes "runs") (nat_le (legs_of_runs p.runs) 4096))) e in
    let runs = or_else_none (under (codes "runs") (runs_rules 0 0 p.runs)) (rule (codes "runs") (nat_le (legs_of_runs p.runs) 4096)) few.1 in
    stages_settled (plan_graph p) (runs_back 0 0 p.runs (under_none (codes "runs") (runs_rules 0 0 p.runs) runs.0))
