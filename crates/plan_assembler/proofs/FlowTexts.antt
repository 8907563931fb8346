-- What keeps the rules of a workflow, and has no text that cannot be read, keeps the rules of a plan.
use Rattle.std.proofs.Common.{◌≡◌, ◌&&◌, ℕ, suc, Bool, true, false, IsTrue, codes, decimal, cond, List, [], ◌∷◌, Option, Some, None, refl}
use Rattle.std.specs.List.{list_all}
use Rattle.expr_reader.specs.Accepts.{is_template, is_condition}
use Rattle.flow_model.specs.Found.{rule, under, each, each_pair, if_there}
use Rattle.flow_model.specs.Flow.{is_spelled_scalar, is_spelled_variable, is_spelled_input, is_named_output, is_spelled_condition, is_spelled_work, is_flow_step}
use Rattle.flow_model.specs.Name.{is_id}
use Rattle.flow_model.specs.Plain.{Plain, null, truth, whole, text, list, map as map_value}
use Rattle.flow_model.specs.Rules.{all_there, is_flag, is_scalar, is_variable_name, is_variable, is_input, is_job_output, group_rules, work_rules, step_rules}
use Rattle.flow_model.specs.declared.plan.Flag.{Flag}
use Rattle.flow_model.specs.declared.plan.Flag.TheVariants.{Truth, Text}
use Rattle.flow_model.specs.declared.plan.Group.{Group}
use Rattle.flow_model.specs.declared.plan.StepPlan.{StepPlan}
use Rattle.flow_model.specs.declared.plan.Work.{Work}
use Rattle.flow_model.specs.declared.plan.Work.TheVariants.{Run, Uses}
use Rattle.flow_model.proofs.FoundNothing.{none_or_else, none_under, none_rule}
use Rattle.flow_model.proofs.Tests.{both, pair}
use Rattle.plan_assembler.specs.Texts.{Evaluated, template, condition, or_else, of_template, of_condition, if_there as of_there, of_each, of_value, of_env, of_outputs, of_flag, of_group, of_work, of_step}

pub none_of : (a b : Option Evaluated) → or_else a b ≡ None → (a ≡ None) × (b ≡ None)
none_of None b e = (refl, e)
none_of (Some t) b e = absurd (cc)

none_else : (b : Bool) (t : Evaluated) → cond b None (Some t) ≡ None → IsTrue b
none_else true t e = refl
none_else false t e = absurd (cc)

template_kept : (t : List ℕ) → of_template t ≡ None → IsTrue (is_template t)
template_kept t e = none_else (is_template t) (template t) e

templates_kept : (o : Option (List ℕ)) → of_there of_template o ≡ None → IsTrue (all_there is_template o)
templates_kept None e = refl
templates_kept (Some t) e = template_kept t e

pub condition_kept : (o : Option (List ℕ)) → of_there of_condition o ≡ None → IsTrue (all_there is_condition o)
condition_kept None e = refl
condition_kept (Some t) e = none_else (is_condition t) (condition t) e

-- ---- maps

pairs_kept : {V : Type 0} (own test : List ℕ × V → Bool) (of : List ℕ × V → Option Evaluated) → ((p : List ℕ × V) → IsTrue (own p) → of p ≡ None → IsTrue (test p))
    → (ps : List (List ℕ × V)) → IsTrue (list_all own ps) → of_each of ps ≡ None → each_pair test ps ≡ None
pairs_kept own test of keeps [] h e = refl
pairs_kept own test of keeps (p ∷ ps) h e =
    let a = both (own p) (list_all own ps) h in
    let b = none_of (of p) (of_each of ps) e in
    none_or_else (rule p.0 (test p)) (each_pair test ps) (none_rule p.0 (test p) (keeps p a.0 b.0)) (pairs_kept own test of keeps ps a.1 b.1)

scalar_kept : (v : Plain) → IsTrue (is_spelled_scalar v) → of_value v ≡ None → IsTrue (is_scalar v)
scalar_kept null h e = refl
scalar_kept (truth b) h e = refl
scalar_kept (whole z) h e = h
scalar_kept (text t) h e = template_kept t e
scalar_kept (list vs) h e = h
scalar_kept (map_value ms) h e = h

variable_kept : (p : List ℕ × Plain) → IsTrue (is_spelled_variable p) → of_value p.1 ≡ None → IsTrue (is_variable p)
variable_kept p h e =
    let a = both (is_variable_name p.0) (is_spelled_scalar p.1) h in
    pair (is_variable_name p.0) (is_scalar p.1) a.0 (scalar_kept p.1 a.1 e)

output_kept : (p : List ℕ × List ℕ) → IsTrue (is_named_output p) → of_template p.1 ≡ None → IsTrue (is_job_output p)
output_kept p h e = pair (is_id p.0) (is_template p.1) h (template_kept p.1 e)

pub env_kept : (env : List (List ℕ × Plain)) → IsTrue (list_all is_spelled_variable env) → of_env env ≡ None → under (codes "env") (each_pair is_variable env) ≡ None
env_kept env h e = none_under (codes "env") (each_pair is_variable env) (pairs_kept is_spelled_variable is_variable (λ p. of_value p.1) variable_kept env h e)

pub outputs_kept : (outputs : List (List ℕ × List ℕ)) → IsTrue (list_all is_named_output outputs) → of_outputs outputs ≡ None → under (codes "outputs") (each_pair is_job_output outputs) ≡ None
outputs_kept outputs h e =
    none_under (codes "outputs") (each_pair is_job_output outputs) (pairs_kept is_named_output is_job_output (λ p. of_template p.1) output_kept outputs h e)

-- ---- groups

pub flag_kept : (f : Flag) → of_flag f ≡ None → IsTrue (is_flag f)
flag_kept (Truth b) e = refl
flag_kept (Text t) e = template_kept t e

group_kept : (g : Group) → of_group g ≡ None → group_rules g ≡ None
group_kept g e =
    let a = none_of (of_flag g.cancel) (of_template g.name) e in
    none_or_else (rule (codes "cancel") (is_flag g.cancel)) (rule (codes "name") (is_template g.name))
    (none_rule (codes "cancel") (is_flag g.cancel) (flag_kept g.cancel a.0)) (none_rule (codes "name") (is_template g.name) (template_kept g.name a.1))

groups_kept : (o : Option Group) → of_there of_group o ≡ None → if_there group_rules o ≡ None
groups_kept None e = refl
groups_kept (Some g) e = group_kept g e

pub in_group : (o : Option Group) → of_there of_group o ≡ None → under (codes "group") (if_there group_rules o) ≡ None
in_group o e = none_under (codes "group") (if_there group_rules o) (groups_kept o e)

-- ---- steps

work_kept : (w : Work) → IsTrue (is_spelled_work w) → of_work w ≡ None → work_rules w ≡ None
work_kept (Run dir run shell) h e =
    let a = none_of (of_there of_template dir) (of_template run) e in
    none_or_else (rule (codes "dir") (all_there is_template dir)) (rule (codes "run") (is_template run))
    (none_rule (codes "dir") (all_there is_template dir) (templates_kept dir a.0)) (none_rule (codes "run") (is_template run) (template_kept run a.1))
work_kept (Uses uses given) h e =
    none_under (codes "with") (each_pair is_input given) (pairs_kept is_spelled_input is_input (λ p. of_value p.1) (λ p k o. scalar_kept p.1 k o) given h e)

step_kept : (s : StepPlan) → IsTrue (is_flow_step s) → of_step s ≡ None → step_rules s ≡ None
step_kept s h e =
    let a = both (all_there is_spelled_condition s.condition) (list_all is_spelled_variable s.env && (all_there is_id s.id && is_spelled_work s.work)) h in
    let b = both (list_all is_spelled_variable s.env) (all_there is_id s.id && is_spelled_work s.work) a.1 in
    let c = both (all_there is_id s.id) (is_spelled_work s.work) b.1 in
    let p = none_of (of_there of_condition s.condition) (or_else (of_env s.env) (or_else (of_flag s.tolerate) (of_work s.work))) e in
    let q = none_of (of_env s.env) (or_else (of_flag s.tolerate) (of_work s.work)) p.1 in
    let r = none_of (of_flag s.tolerate) (of_work s.work) q.1 in
    none_or_else _ _ (none_rule (codes "condition") (all_there is_condition s.condition) (condition_kept s.condition p.0))
    (none_or_else _ _ (env_kept s.env b.0 q.0)
    (none_or_else _ _ (none_rule (codes "id") (all_there is_id s.id) c.0)
    (none_or_else _ _ (none_rule (codes "tolerate") (is_flag s.tolerate) (flag_kept s.tolerate r.0))
    (none_under (codes "work") (work_rules s.work) (work_kept s.work c.1 r.1)))))

pub each_step : (k : ℕ) (ss : List StepPlan) → IsTrue (list_all is_flow_step ss) → of_each of_step ss ≡ None → each step_rules k ss ≡ None
each_step k [] h e = refl
each_step k (s ∷ ss) h e =
    let a = both (is_flow_step s) (list_all is_flow_step ss) h in
    let b = none_of (of_step s) (of_each of_step ss) e in
    none_or_else (under (decimal k) (step_rules s)) (each step_rules (suc k) ss) (none_under (decimal k) (step_rules s) (step_kept s a.0 b.0)) (each_step (suc k) ss a.1 b.1)
