-- In what keeps the rules of a plan every text can be read.
use Rattle.std.proofs.Common.{◌≡◌, ◌∙◌, ◌==◌, ℕ, suc, Bool, true, false, IsTrue, nat_le, codes, decimal, cond, List, [], ◌∷◌, length, Option, Some, None, refl, ap}
use Rattle.expr_reader.specs.Accepts.{is_template, is_condition}
use Rattle.flow_model.specs.Found.{rule, under, each, each_pair, if_there}
use Rattle.flow_model.specs.Name.{is_id}
use Rattle.flow_model.specs.Plain.{Plain, null, truth, whole, text, list, map as map_value}
use Rattle.flow_model.specs.Rules.{all_there, is_flag, is_scalar, is_variable_name, is_variable, is_input, is_job_output, ascend_between, group_rules, work_rules, step_rules, steps_rules, legs_rules, job_rules}
use Rattle.flow_model.specs.declared.plan.Flag.{Flag}
use Rattle.flow_model.specs.declared.plan.Flag.TheVariants.{Truth, Text}
use Rattle.flow_model.specs.declared.plan.Group.{Group}
use Rattle.flow_model.specs.declared.plan.JobPlan.{JobPlan}
use Rattle.flow_model.specs.declared.plan.StepPlan.{StepPlan}
use Rattle.flow_model.specs.declared.plan.Work.{Work}
use Rattle.flow_model.specs.declared.plan.Work.TheVariants.{Run, Uses}
use Rattle.flow_model.proofs.FoundNothing.{or_else_none, under_none, rule_none}
use Rattle.flow_model.proofs.Tests.{both}
use Rattle.plan_assembler.specs.Texts.{Evaluated, template, condition, or_else, of_template, of_condition, if_there as of_there, of_each, of_value, of_env, of_outputs, of_flag, of_group, of_work, of_step}

pub neither : (a b : Option Evaluated) → a ≡ None → b ≡ None → or_else a b ≡ None
neither a b e f = ap (λ (o : Option Evaluated). or_else o b) e ∙ f

passed : (b : Bool) (t : Evaluated) → IsTrue b → cond b None (Some t) ≡ None
passed true t h = refl
passed false t h = absurd (cc)

template_read : (t : List ℕ) → IsTrue (is_template t) → of_template t ≡ None
template_read t h = passed (is_template t) (template t) h

templates_read : (o : Option (List ℕ)) → IsTrue (all_there is_template o) → of_there of_template o ≡ None
templates_read None h = refl
templates_read (Some t) h = template_read t h

condition_read : (o : Option (List ℕ)) → IsTrue (all_there is_condition o) → of_there of_condition o ≡ None
condition_read None h = refl
condition_read (Some t) h = passed (is_condition t) (condition t) h

-- ---- maps

pairs_read : {V : Type 0} (test : List ℕ × V → Bool) (of : List ℕ × V → Option Evaluated) → ((p : List ℕ × V) → IsTrue (test p) → of p ≡ None)
    → (ps : List (List ℕ × V)) → each_pair test ps ≡ None → of_each of ps ≡ None
pairs_read test of reads [] e = refl
pairs_read test of reads (p ∷ ps) e =
    let a = or_else_none (rule p.0 (test p)) (each_pair test ps) e in
    neither (of p) (of_each of ps) (reads p (rule_none p.0 (test p) a.0)) (pairs_read test of reads ps a.1)

scalar_read : (v : Plain) → IsTrue (is_scalar v) → of_value v ≡ None
scalar_read null h = refl
scalar_read (truth b) h = refl
scalar_read (whole z) h = refl
scalar_read (text t) h = template_read t h
scalar_read (list vs) h = refl
scalar_read (map_value ms) h = refl

variable_read : (p : List ℕ × Plain) → IsTrue (is_variable p) → of_value p.1 ≡ None
variable_read p h = scalar_read p.1 (both (is_variable_name p.0) (is_scalar p.1) h).1

output_read : (p : List ℕ × List ℕ) → IsTrue (is_job_output p) → of_template p.1 ≡ None
output_read p h = template_read p.1 (both (is_id p.0) (is_template p.1) h).1

pub env_read : (env : List (List ℕ × Plain)) → under (codes "env") (each_pair is_variable env) ≡ None → of_env env ≡ None
env_read env e = pairs_read is_variable (λ p. of_value p.1) variable_read env (under_none (codes "env") (each_pair is_variable env) e)

outputs_read : (outputs : List (List ℕ × List ℕ)) → under (codes "outputs") (each_pair is_job_output outputs) ≡ None → of_outputs outputs ≡ None
outputs_read outputs e = pairs_read is_job_output (λ p. of_template p.1) output_read outputs (under_none (codes "outputs") (each_pair is_job_output outputs) e)

-- ---- groups

flag_read : (f : Flag) → IsTrue (is_flag f) → of_flag f ≡ None
flag_read (Truth b) h = refl
flag_read (Text t) h = template_read t h

group_read : (g : Group) → group_rules g ≡ None → of_group g ≡ None
group_read g e =
    let a = or_else_none (rule (codes "cancel") (is_flag g.cancel)) (rule (codes "name") (is_template g.name)) e in
    neither (of_flag g.cancel) (of_template g.name) (flag_read g.cancel (rule_none (codes "cancel") (is_flag g.cancel) a.0)) (template_read g.name (rule_none (codes "name") (is_template g.name) a.1))

groups_read : (o : Option Group) → if_there group_rules o ≡ None → of_there of_group o ≡ None
groups_read None e = refl
groups_read (Some g) e = group_read g e

pub in_group_read : (o : Option Group) → under (codes "group") (if_there group_rules o) ≡ None → of_there of_group o ≡ None
in_group_read o e = groups_read o (under_none (codes "group") (if_there group_rules o) e)

-- ---- steps

work_read : (w : Work) → work_rules w ≡ None → of_work w ≡ None
work_read (Run dir run shell) e =
    let a = or_else_none (rule (codes "dir") (all_there is_template dir)) (rule (codes "run") (is_template run)) e in
    neither (of_there of_template dir) (of_template run) (templates_read dir (rule_none (codes "dir") (all_there is_template dir) a.0)) (template_read run (rule_none (codes "run") (is_template run) a.1))
work_read (Uses uses given) e =
    pairs_read is_input (λ p. of_value p.1) (λ p h. scalar_read p.1 h) given (under_none (codes "with") (each_pair is_input given) e)

step_read : (s : StepPlan) → step_rules s ≡ None → of_step s ≡ None
step_read s e =
    let condition = or_else_none (rule (codes "condition") (all_there is_condition s.condition)) _ e in
    let env = or_else_none (under (codes "env") (each_pair is_variable s.env)) _ condition.1 in
    let id = or_else_none (rule (codes "id") (all_there is_id s.id)) _ env.1 in
    let tolerate = or_else_none (rule (codes "tolerate") (is_flag s.tolerate)) (under (codes "work") (work_rules s.work)) id.1 in
    neither _ _ (condition_read s.condition (rule_none (codes "condition") (all_there is_condition s.condition) condition.0))
    (neither _ _ (env_read s.env env.0)
    (neither _ _ (flag_read s.tolerate (rule_none (codes "tolerate") (is_flag s.tolerate) tolerate.0))
    (work_read s.work (under_none (codes "work") (work_rules s.work) tolerate.1))))

each_step_read : (k : ℕ) (ss : List StepPlan) → each step_rules k ss ≡ None → of_each of_step ss ≡ None
each_step_read k [] e = refl
each_step_read k (s ∷ ss) e =
    let a = or_else_none (under (decimal k) (step_rules s)) (each step_rules (suc k) ss) e in
    neither (of_step s) (of_each of_step ss) (step_read s (under_none (decimal k) (step_rules s) a.0)) (each_step_read (suc k) ss a.1)

steps_read : (ss : List StepPlan) → steps_rules ss ≡ None → (of_each of_step ss ≡ None) × IsTrue (nat_le (length ss) 256)
steps_read ss e =
    let few = or_else_none (rule (codes "steps") (nat_le (length ss) 256)) _ e in
    let distinct = or_else_none _ (under (codes "steps") (each step_rules 0 ss)) few.1 in
    (each_step_read 0 ss (under_none (codes "steps") (each step_rules 0 ss) distinct.1), rule_none (codes "steps") (nat_le (length ss) 256) few.0)

-- ---- jobs

-- the first text of a plan's job that cannot be read
abbrev pub of_planned : JobPlan → Option Evaluated
of_planned j =
    or_else (of_there of_condition j.condition)
    (or_else (of_env j.env)
    (or_else (of_there of_group j.group)
    (or_else (of_outputs j.outputs)
    (or_else (of_flag j.tolerate)
    (of_each of_step j.steps)))))

pub job_read : (first n : ℕ) (j : JobPlan) → job_rules first n j ≡ None → (of_planned j ≡ None) × IsTrue (nat_le (length j.steps) 256)
job_read first n j e =
    let condition = or_else_none (rule (codes "condition") (all_there is_condition j.condition)) _ e in
    let env = or_else_none (under (codes "env") (each_pair is_variable j.env)) _ condition.1 in
    let group = or_else_none (under (codes "group") (if_there group_rules j.group)) _ env.1 in
    let id = or_else_none (rule (codes "id") (is_id j.id)) _ group.1 in
    let legs = or_else_none (legs_rules j) _ id.1 in
    let needs = or_else_none (rule (codes "needs") (ascend_between first n j.needs)) _ legs.1 in
    let number = or_else_none (rule (codes "number") (j.number == n)) _ needs.1 in
    let outputs = or_else_none (under (codes "outputs") (each_pair is_job_output j.outputs)) _ number.1 in
    let steps = or_else_none (steps_rules j.steps) (rule (codes "tolerate") (is_flag j.tolerate)) outputs.1 in
    let read = steps_read j.steps steps.0 in
    let texts : of_planned j ≡ None =
    neither _ _ (condition_read j.condition (rule_none (codes "condition") (all_there is_condition j.condition) condition.0))
    (neither _ _ (env_read j.env env.0)
    (neither _ _ (in_group_read j.group group.0)
    (neither _ _ (outputs_read j.outputs outputs.0)
    (neither _ _ (flag_read j.tolerate (rule_none (codes "tolerate") (is_flag j.tolerate) steps.1)) read.0)))) in
    (texts, read.1)
