-- A plan whose rules hold has a document that is read as it: its values nest no deeper than 100, and their numbers are in range.
use Rattle.std.proofs.Common.{◌≡◌, ◌+◌, ℕ, suc, List, [], ◌∷◌, Bool, true, false, IsTrue, ◌&&◌, ◌==◌, nat_le, codes, decimal, length, Option, Some, None, refl}
use Rattle.std.specs.List.{list_all}
use Rattle.flow_model.specs.Found.{Path, rule, or_else, under, each, each_pair, if_there}
use Rattle.flow_model.specs.Name.{is_id}
use Rattle.flow_model.specs.Plain.{Plain, null, truth, whole, text, list, map as map_value}
use Rattle.flow_model.specs.Rules.{all_there, is_condition, is_flag, is_within, is_property, is_scalar, is_variable_name, is_variable, is_input, is_job_output, are_distinct, ascend_between, is_limit, work_rules, step_rules, group_rules, leg_rules, step_ids, steps_rules, legs_rules, job_rules, jobs_rules, job_ids, roots_rules, run_rules, runs_rules, legs_of_runs, IsPlan}
use Rattle.flow_model.specs.declared.plan.JobPlan.{JobPlan}
use Rattle.flow_model.specs.declared.plan.Plan.{Plan}
use Rattle.flow_model.specs.declared.plan.Roots.{Roots}
use Rattle.flow_model.specs.declared.plan.RunPlan.{RunPlan}
use Rattle.flow_model.specs.declared.plan.StepPlan.{StepPlan}
use Rattle.flow_model.specs.declared.plan.Work.{Work}
use Rattle.flow_model.specs.declared.plan.Work.TheVariants.{Run, Uses}
use Rattle.plan_documents.specs.Reading.{Values}
use Rattle.plan_documents.proofs.Laws.{both, and_true}
use Rattle.plan_documents.proofs.PlanLaws.{values_fit, work_fits, step_fits, job_fits, roots_fit, run_fits, plan_fits}

-- ---- rules that hold

or_else_none : (a b : Option Path) → or_else a b ≡ None → (a ≡ None) × (b ≡ None)
or_else_none None b e = (refl, e)
or_else_none (Some path) b e = absurd (cc)

under_none : (key : Path) (o : Option Path) → under key o ≡ None → o ≡ None
under_none key None e = refl
under_none key (Some path) e = absurd (cc)

rule_none : (path : Path) (holds : Bool) → rule path holds ≡ None → IsTrue holds
rule_none path true e = refl
rule_none path false e = absurd (cc)

each_pair_none : {V : Type 0} (test : List ℕ × V → Bool) (fits : V → Bool) → ((p : List ℕ × V) → IsTrue (test p) → IsTrue (fits p.1))
    → (ps : List (List ℕ × V)) → each_pair test ps ≡ None → IsTrue (list_all (λ p. fits p.1) ps)
each_pair_none test fits implies [] e = refl
each_pair_none test fits implies (p ∷ ps) e =
    let r = or_else_none (rule p.0 (test p)) (each_pair test ps) e in
    and_true (fits p.1) _ (implies p (rule_none p.0 (test p) r.0)) (each_pair_none test fits implies ps r.1)

each_none : {T : Type 0} (rules : T → Option Path) (fits : T → Bool) → ((x : T) → rules x ≡ None → IsTrue (fits x))
    → (k : ℕ) (xs : List T) → each rules k xs ≡ None → IsTrue (list_all fits xs)
each_none rules fits implies k [] e = refl
each_none rules fits implies k (x ∷ xs) e =
    let r = or_else_none (under (decimal k) (rules x)) (each rules (suc k) xs) e in
    and_true (fits x) _ (implies x (under_none (decimal k) (rules x) r.0)) (each_none rules fits implies (suc k) xs r.1)

scalar_fits : (v : Plain) → IsTrue (is_scalar v) → IsTrue (is_within 100 v)
scalar_fits null h = refl
scalar_fits (truth b) h = refl
scalar_fits (whole z) h = h
scalar_fits (text t) h = refl
scalar_fits (list vs) h = absurd (cc)
scalar_fits (map_value ms) h = absurd (cc)

variables_fit : (ps : Values) → each_pair is_variable ps ≡ None → IsTrue (values_fit ps)
variables_fit ps e = each_pair_none is_variable (is_within 100) (λ p h. scalar_fits p.1 (both (is_variable_name p.0) (is_scalar p.1) h).1) ps e

inputs_fit : (ps : Values) → each_pair is_input ps ≡ None → IsTrue (values_fit ps)
inputs_fit ps e = each_pair_none is_input (is_within 100) (λ p h. scalar_fits p.1 h) ps e

properties_fit : (ps : Values) → each_pair is_property ps ≡ None → IsTrue (values_fit ps)
properties_fit ps e = each_pair_none is_property (is_within 100) (λ p h. h) ps e

work_sound : (w : Work) → work_rules w ≡ None → IsTrue (work_fits w)
work_sound (Run dir run shell) e = refl
work_sound (Uses uses given) e = and_true (values_fit given) true (inputs_fit given (under_none (codes "with") (each_pair is_input given) e)) refl

step_sound : (s : StepPlan) → step_rules s ≡ None → IsTrue (step_fits s)
step_sound s e =
    let work = under (codes "work") (work_rules s.work) in
    let tolerate = rule (codes "tolerate") (is_flag s.tolerate) in
    let id = rule (codes "id") (all_there is_id s.id) in
    let env = under (codes "env") (each_pair is_variable s.env) in
    let condition = rule (codes "condition") (all_there is_condition s.condition) in
    let after_condition = (or_else_none condition (or_else env (or_else id (or_else tolerate work))) e).1 in
    let from_env = or_else_none env (or_else id (or_else tolerate work)) after_condition in
    let after_id = (or_else_none id (or_else tolerate work) from_env.1).1 in
    let of_work = (or_else_none tolerate work after_id).1 in
    and_true (values_fit s.env) _ (variables_fit s.env (under_none (codes "env") (each_pair is_variable s.env) from_env.0))
    (and_true (work_fits s.work) true (work_sound s.work (under_none (codes "work") (work_rules s.work) of_work)) refl)

leg_sound : (combo : Values) → leg_rules combo ≡ None → IsTrue (values_fit combo)
leg_sound combo e = properties_fit combo e

legs_sound : (j : JobPlan) → legs_rules j ≡ None → IsTrue (list_all values_fit j.legs)
legs_sound j e =
    let count = rule (codes "legs") (nat_le 1 (length j.legs) && nat_le (length j.legs) 256) in
    let legs = under (codes "legs") (each leg_rules 0 j.legs) in
    let limit = rule (codes "max_parallel") (all_there is_limit j.max_parallel) in
    let of_legs = (or_else_none legs limit (or_else_none count (or_else legs limit) e).1).0 in
    each_none leg_rules values_fit leg_sound 0 j.legs (under_none (codes "legs") (each leg_rules 0 j.legs) of_legs)

steps_sound : (steps : List StepPlan) → steps_rules steps ≡ None → IsTrue (list_all step_fits steps)
steps_sound ss e =
    let count = rule (codes "steps") (nat_le (length ss) 256) in
    let ids = rule (codes "steps") (are_distinct (step_ids ss)) in
    let steps = under (codes "steps") (each step_rules 0 ss) in
    let of_steps = (or_else_none ids steps (or_else_none count (or_else ids steps) e).1).1 in
    each_none step_rules step_fits step_sound 0 ss (under_none (codes "steps") (each step_rules 0 ss) of_steps)

job_sound : (first n : ℕ) (j : JobPlan) → job_rules first n j ≡ None → IsTrue (job_fits j)
job_sound first n j e =
    let tolerate = rule (codes "tolerate") (is_flag j.tolerate) in
    let from_steps = or_else (steps_rules j.steps) tolerate in
    let outputs = under (codes "outputs") (each_pair is_job_output j.outputs) in
    let from_outputs = or_else outputs from_steps in
    let number_rule = rule (codes "number") (j.number == n) in
    let from_number = or_else number_rule from_outputs in
    let needs = rule (codes "needs") (ascend_between first n j.needs) in
    let from_needs = or_else needs from_number in
    let from_legs = or_else (legs_rules j) from_needs in
    let id = rule (codes "id") (is_id j.id) in
    let from_id = or_else id from_legs in
    let group = under (codes "group") (if_there group_rules j.group) in
    let from_group = or_else group from_id in
    let env = under (codes "env") (each_pair is_variable j.env) in
    let from_env = or_else env from_group in
    let condition = rule (codes "condition") (all_there is_condition j.condition) in
    let at_env = or_else_none env from_group (or_else_none condition from_env e).1 in
    let at_legs = or_else_none (legs_rules j) from_needs (or_else_none id from_legs (or_else_none group from_id at_env.1).1).1 in
    let at_outputs = or_else_none outputs from_steps (or_else_none number_rule from_outputs (or_else_none needs from_number at_legs.1).1).1 in
    let at_steps = or_else_none (steps_rules j.steps) tolerate at_outputs.1 in
    and_true (values_fit j.env) _ (variables_fit j.env (under_none (codes "env") (each_pair is_variable j.env) at_env.0))
    (and_true (list_all values_fit j.legs) _ (legs_sound j at_legs.0)
    (and_true (list_all step_fits j.steps) true (steps_sound j.steps at_steps.0) refl))

jobs_sound : (first k : ℕ) (js : List JobPlan) → jobs_rules first k js ≡ None → IsTrue (list_all job_fits js)
jobs_sound first k [] e = refl
jobs_sound first k (j ∷ js) e =
    let here = under (decimal k) (job_rules first (first + k) j) in
    let r = or_else_none here (jobs_rules first (suc k) js) e in
    and_true (job_fits j) _ (job_sound first (first + k) j (under_none (decimal k) (job_rules first (first + k) j) r.0)) (jobs_sound first (suc k) js r.1)

roots_sound : (r : Roots) → roots_rules r ≡ None → IsTrue (roots_fit r)
roots_sound r e =
    let github = under (codes "github") (each_pair is_property r.github) in
    let inputs = under (codes "inputs") (each_pair is_property r.inputs) in
    let secrets = under (codes "secrets") (each_pair is_property r.secrets) in
    let vars = under (codes "vars") (each_pair is_property r.vars) in
    let at_github = or_else_none github (or_else inputs (or_else secrets vars)) e in
    let at_inputs = or_else_none inputs (or_else secrets vars) at_github.1 in
    let at_secrets = or_else_none secrets vars at_inputs.1 in
    and_true (values_fit r.github) _ (properties_fit r.github (under_none (codes "github") (each_pair is_property r.github) at_github.0))
    (and_true (values_fit r.inputs) _ (properties_fit r.inputs (under_none (codes "inputs") (each_pair is_property r.inputs) at_inputs.0))
    (and_true (values_fit r.secrets) _ (properties_fit r.secrets (under_none (codes "secrets") (each_pair is_property r.secrets) at_secrets.0))
    (and_true (values_fit r.vars) true (properties_fit r.vars (under_none (codes "vars") (each_pair is_property r.vars) at_secrets.1)) refl)))

run_sound : (first : ℕ) (r : RunPlan) → run_rules first r ≡ None → IsTrue (run_fits r)
run_sound first r e =
    let roots = under (codes "roots") (roots_rules r.roots) in
    let jobs = under (codes "jobs") (jobs_rules first 0 r.jobs) in
    let ids = rule (codes "jobs") (are_distinct (job_ids r.jobs)) in
    let count = rule (codes "jobs") (nat_le 1 (length r.jobs) && nat_le (length r.jobs) 256) in
    let group = under (codes "group") (if_there group_rules r.group) in
    let env = under (codes "env") (each_pair is_variable r.env) in
    let from_count = or_else count (or_else ids (or_else jobs roots)) in
    let at_env = or_else_none env (or_else group from_count) e in
    let at_count = or_else_none count (or_else ids (or_else jobs roots)) (or_else_none group from_count at_env.1).1 in
    let at_jobs = or_else_none jobs roots (or_else_none ids (or_else jobs roots) at_count.1).1 in
    and_true (values_fit r.env) _ (variables_fit r.env (under_none (codes "env") (each_pair is_variable r.env) at_env.0))
    (and_true (list_all job_fits r.jobs) _ (jobs_sound first 0 r.jobs (under_none (codes "jobs") (jobs_rules first 0 r.jobs) at_jobs.0))
    (and_true (roots_fit r.roots) true (roots_sound r.roots (under_none (codes "roots") (roots_rules r.roots) at_jobs.1)) refl))

runs_sound : (first k : ℕ) (rs : List RunPlan) → runs_rules first k rs ≡ None → IsTrue (list_all run_fits rs)
runs_sound first k [] e = refl
runs_sound first k (r ∷ rs) e =
    let here = under (decimal k) (run_rules first r) in
    let found = or_else_none here (runs_rules (first + length r.jobs) (suc k) rs) e in
    and_true (run_fits r) _ (run_sound first r (under_none (decimal k) (run_rules first r) found.0)) (runs_sound (first + length r.jobs) (suc k) rs found.1)

-- a plan whose rules hold fits
pub plan_sound : (p : Plan) → IsPlan p → IsTrue (plan_fits p)
plan_sound p e =
    let count = rule (codes "runs") (nat_le 1 (length p.runs) && nat_le (length p.runs) 64) in
    let runs = under (codes "runs") (runs_rules 0 0 p.runs) in
    let legs = rule (codes "runs") (nat_le (legs_of_runs p.runs) 4096) in
    let at_runs = or_else_none runs legs (or_else_none count (or_else runs legs) e).1 in
    and_true (list_all run_fits p.runs) true (runs_sound 0 0 p.runs (under_none (codes "runs") (runs_rules 0 0 p.runs) at_runs.0)) refl
