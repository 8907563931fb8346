-- Once its tests have passed, a plan breaks no rule, but for the count of its legs.
use Rattle.std.proofs.Common.{◌≡◌, ◌∙◌, ◌<◌, ◌≤◌, ◌+◌, ◌==◌, ◌&&◌, ℕ, zero, suc, Bool, true, false, IsTrue, not, nat_le, codes, decimal, cond, List, [], ◌∷◌, ◌++◌, map, length, get_or, nat_eq, Option, Some, None, Result, Ok, Err, Less, nat_cmp, is_eq, slice_get, refl, ap, sym, subst, inr, arith, append_assoc, length-append}
use Rattle.std.proofs.lemmas.Bool.Decides.{nat_tests}
use Rattle.std.proofs.lemmas.List.{length-map}
use Rattle.std.proofs.lemmas.Map.Text.{is_eq-slice_cmp}
use Rattle.std.proofs.lemmas.Slice.Eq.{bytes_eq-Decides}
use Rattle.std.specs.Cmp.Lexicographic.{slice_cmp}
use Rattle.std.specs.List.{AllByRecursion, list_all, list_any}
use Rattle.std.specs.List.Sorted.{IsStrictlySortedBy}
use Rattle.std.specs.Str.{bytes_eq}
use Rattle.flow_model.specs.Flow.{is_spelled_condition, is_spelled_variable, is_named_output, is_flow_matrix, is_flow_step, are_flow_steps, is_flow_job, IsWorkflow}
use Rattle.flow_model.specs.Found.{under, each}
use Rattle.flow_model.specs.Name.{is_id}
use Rattle.flow_model.specs.Rules.{is_condition, all_there, is_flag, is_limit, are_distinct, ascend_between, step_ids, leg_rules, step_rules, steps_rules, legs_rules, job_rules, jobs_rules, job_ids, roots_rules, run_rules, runs_rules, legs_of_runs, IsPlan}
use Rattle.flow_model.specs.declared.flow.FlowJob.{FlowJob}
use Rattle.flow_model.specs.declared.flow.Workflow.{Workflow}
use Rattle.flow_model.specs.declared.plan.JobPlan.{JobPlan}
use Rattle.flow_model.specs.declared.plan.Plan.{Plan}
use Rattle.flow_model.specs.declared.plan.Roots.{Roots}
use Rattle.flow_model.specs.declared.plan.RunPlan.{RunPlan}
use Rattle.flow_model.specs.declared.plan.StepPlan.{StepPlan}
use Rattle.flow_model.proofs.FoundNothing.{none_or_else, none_under, none_rule}
use Rattle.flow_model.proofs.Places.{same_Some, slice_get_there}
use Rattle.flow_model.proofs.Tests.{both, pair, from_le, to_le, to_same}
use Rattle.plan_assembler.specs.Layout.{ids_of, is_taken, taken, place_of, graph_of, with_item, at_places, has_few_steps}
use Rattle.plan_assembler.specs.Order.{numbers_of, order_of}
use Rattle.plan_assembler.specs.Plans.{legs_of, job_with, job_plan, job_plans, run_plan, AssemblesRuns}
use Rattle.plan_assembler.specs.Refusals.{JobPasses, RunPasses, RunsPass, ChecksRuns, Plans, Refuses}
use Rattle.plan_assembler.specs.Stages.{AreStages}
use Rattle.plan_assembler.specs.Texts.{or_else as or_other, if_there as of_there, of_each, of_condition, of_env, of_group, of_outputs, of_flag, of_step, of_job}
use Rattle.plan_assembler.specs.declared.choice.Choice.{Choice}
use Rattle.plan_assembler.specs.declared.fault.PlanFault.{PlanFault}
use Rattle.plan_assembler.proofs.Answering.{answered_weaker}
use Rattle.plan_assembler.proofs.FirstJob.{some_job}
use Rattle.plan_assembler.proofs.FlowTexts.{none_of, condition_kept, env_kept, outputs_kept, flag_kept, in_group, each_step}
use Rattle.plan_assembler.proofs.LegValues.{each_leg, count_legs}
use Rattle.plan_assembler.proofs.OnePlan.{one_run}
use Rattle.plan_assembler.proofs.RunSteps.{length-job_plans, run_assembled}
use Rattle.plan_assembler.proofs.Standing.{all_weaker, Later, May, InOrder, order_stands, none_after, numbers_ascend}

-- ---- the ids of a run's jobs

pub all_at : (P : List ℕ → Type 0) (jobs : List FlowJob) → AllByRecursion P (ids_of jobs) → (k : ℕ) (b : FlowJob) → slice_get jobs k ≡ Some b → P b.id
all_at P [] h k b e = absurd (cc)
all_at P (j ∷ jobs) h zero b e = subst (λ (x : FlowJob). P x.id) (same_Some e) h.0
all_at P (j ∷ jobs) h (suc k) b e = all_at P jobs h.1 k b e

not_below : (x y : List ℕ) → x ≡ y → slice_cmp nat_cmp x y ≡ Less → ⊥
not_below x y e h =
    let same : bytes_eq x y ≡ true = (bytes_eq-Decides x y).1 e in
    let less : is_eq (slice_cmp nat_cmp x y) ≡ false = ap is_eq h in
    let equal : true ≡ false = sym same ∙ sym (is_eq-slice_cmp x y) ∙ less in
    absurd (cc)

-- jobs that stand by their ids have one place for each id
pub one_place : (jobs : List FlowJob) → IsStrictlySortedBy (slice_cmp nat_cmp) (ids_of jobs) → (p k : ℕ) (a b : FlowJob) → slice_get jobs p ≡ Some a → slice_get jobs k ≡ Some b → a.id ≡ b.id → p ≡ k
unfolding IsStrictlySortedBy
one_place [] h p k a b e f s = absurd (cc)
one_place (j ∷ jobs) h zero zero a b e f s = refl
one_place (j ∷ jobs) h zero (suc k) a b e f s =
    absurd (not_below j.id b.id (ap (λ (x : FlowJob). x.id) (same_Some e) ∙ s) (all_at (λ id. slice_cmp nat_cmp j.id id ≡ Less) jobs h.0 k b f))
one_place (j ∷ jobs) h (suc p) zero a b e f s =
    absurd (not_below j.id a.id (ap (λ (x : FlowJob). x.id) (same_Some f) ∙ sym s) (all_at (λ id. slice_cmp nat_cmp j.id id ≡ Less) jobs h.0 p a e))
one_place (j ∷ jobs) h (suc p) (suc k) a b e f s = ap suc (one_place jobs h.1 p k a b e f s)

differ : (a b : List ℕ) → (a ≡ b → ⊥) → (t : Bool) → bytes_eq a b ≡ t → t ≡ false
differ a b ne true e = absurd (ne ((bytes_eq-Decides a b).0 e))
differ a b ne false e = refl

other_case : (jobs : List FlowJob) (p : ℕ) (a : FlowJob) (k : ℕ) (rest : List FlowJob) (o : Option FlowJob) → IsStrictlySortedBy (slice_cmp nat_cmp) (ids_of jobs) → slice_get jobs p ≡ Some a
    → slice_get jobs k ≡ o → (p ≡ k → ⊥) → list_any (bytes_eq a.id) (ids_of rest) ≡ false → list_any (bytes_eq a.id) (ids_of (with_item o rest)) ≡ false
other_case jobs p a k rest None s e f ne h = h
other_case jobs p a k rest (Some b) s e f ne h =
    let other : bytes_eq a.id b.id ≡ false = differ a.id b.id (λ same. ne (one_place jobs s p k a b e f same)) (bytes_eq a.id b.id) refl in
    rw other h

no_other : (jobs : List FlowJob) (ss : List ℕ) (p : ℕ) (a : FlowJob) (ps : List ℕ) → IsStrictlySortedBy (slice_cmp nat_cmp) (ids_of jobs) → slice_get jobs p ≡ Some a → AllByRecursion (May ss p) ps
    → list_any (bytes_eq a.id) (ids_of (at_places jobs ps)) ≡ false
no_other jobs ss p a [] s e h = refl
no_other jobs ss p a (k ∷ ps) s e h = other_case jobs p a k (at_places jobs ps) (slice_get jobs k) s e refl h.0.other (no_other jobs ss p a ps s e h.1)

ids_case : (jobs : List FlowJob) (ss : List ℕ) (p : ℕ) (ps : List ℕ) (o : Option FlowJob) → IsStrictlySortedBy (slice_cmp nat_cmp) (ids_of jobs) → slice_get jobs p ≡ o → AllByRecursion (May ss p) ps
    → IsTrue (are_distinct (ids_of (at_places jobs ps))) → IsTrue (are_distinct (ids_of (with_item o (at_places jobs ps))))
ids_case jobs ss p ps None s e m h = h
ids_case jobs ss p ps (Some a) s e m h =
    pair (not (list_any (bytes_eq a.id) (ids_of (at_places jobs ps)))) (are_distinct (ids_of (at_places jobs ps))) (ap not (no_other jobs ss p a ps s e m)) h

ids_distinct : (jobs : List FlowJob) (ss order : List ℕ) → IsStrictlySortedBy (slice_cmp nat_cmp) (ids_of jobs) → InOrder ss order → IsTrue (are_distinct (ids_of (at_places jobs order)))
ids_distinct jobs ss [] s o = refl
ids_distinct jobs ss (p ∷ ps) s o = ids_case jobs ss p ps (slice_get jobs p) s refl o.0 (ids_distinct jobs ss ps s o.1)

-- the planned jobs have the ids of the jobs
pub ids_planned : (ids : List (List ℕ)) (order : List ℕ) (first number : ℕ) (jobs : List FlowJob) → job_ids (job_plans ids order first number jobs) ≡ ids_of jobs
ids_planned ids order first number [] = refl
ids_planned ids order first number (job ∷ jobs) = ap (λ (l : List (List ℕ)). job.id ∷ l) (ids_planned ids order first (suc number) jobs)

-- ---- a job

steps_kept : (ss : List StepPlan) → IsTrue (nat_le (length ss) 256) → IsTrue (are_flow_steps ss) → of_each of_step ss ≡ None → steps_rules ss ≡ None
steps_kept ss few h e =
    let a = both (list_all is_flow_step ss) (are_distinct (step_ids ss)) h in
    none_or_else _ _ (none_rule (codes "steps") (nat_le (length ss) 256) few)
    (none_or_else _ _ (none_rule (codes "steps") (are_distinct (step_ids ss)) a.1)
    (none_under (codes "steps") (each step_rules 0 ss) (each_step 0 ss a.0 e)))

legs_kept : (j : JobPlan) → (1 ≤ length j.legs) × (length j.legs ≤ 256) → each leg_rules 0 j.legs ≡ None → IsTrue (all_there is_limit j.max_parallel) → legs_rules j ≡ None
legs_kept j n legs limit =
    none_or_else _ _ (none_rule (codes "legs") (nat_le 1 (length j.legs) && nat_le (length j.legs) 256) (pair (nat_le 1 (length j.legs)) (nat_le (length j.legs) 256) (to_le 1 (length j.legs) n.0) (to_le (length j.legs) 256 n.1)))
    (none_or_else _ _ (none_under (codes "legs") (each leg_rules 0 j.legs) legs) (none_rule (codes "max_parallel") (all_there is_limit j.max_parallel) limit))

-- what a job says of itself
record SaysJob (job : FlowJob) : Type 0 where
  pub id : IsTrue (is_id job.id)
  pub env : IsTrue (list_all is_spelled_variable job.env)
  pub matrix : IsTrue (all_there is_flow_matrix job.matrix)
  pub limit : IsTrue (all_there is_limit job.max_parallel)
  pub outputs : IsTrue (list_all is_named_output job.outputs)
  pub steps : IsTrue (are_flow_steps job.steps)

says_job : (job : FlowJob) → IsTrue (is_flow_job job) → SaysJob job
says_job job h =
    let a = both (is_id job.id) _ h in
    let b = both (all_there is_spelled_condition job.condition) _ a.1 in
    let c = both (list_all is_spelled_variable job.env) _ b.1 in
    let d = both (all_there is_flow_matrix job.matrix) _ c.1 in
    let e = both (all_there is_limit job.max_parallel) _ d.1 in
    let f = both (are_distinct job.needs) _ e.1 in
    let g = both (list_all is_named_output job.outputs) (are_flow_steps job.steps) f.1 in
    record { id = a.0; env = c.0; matrix = d.0; limit = e.0; outputs = g.0; steps = g.1 }

-- no text of a job is at fault
record ReadsJob (job : FlowJob) : Type 0 where
  pub condition : of_there of_condition job.condition ≡ None
  pub env : of_env job.env ≡ None
  pub group : of_there of_group job.group ≡ None
  pub outputs : of_outputs job.outputs ≡ None
  pub tolerate : of_flag job.tolerate ≡ None
  pub steps : of_each of_step job.steps ≡ None

reads_job : (job : FlowJob) → of_job job ≡ None → ReadsJob job
reads_job job h =
    let a = none_of (of_there of_condition job.condition) (or_other (of_env job.env) (or_other (of_there of_group job.group) (or_other (of_outputs job.outputs) (or_other (of_flag job.tolerate) (of_each of_step job.steps))))) h in
    let b = none_of (of_env job.env) (or_other (of_there of_group job.group) (or_other (of_outputs job.outputs) (or_other (of_flag job.tolerate) (of_each of_step job.steps)))) a.1 in
    let c = none_of (of_there of_group job.group) (or_other (of_outputs job.outputs) (or_other (of_flag job.tolerate) (of_each of_step job.steps))) b.1 in
    let d = none_of (of_outputs job.outputs) (or_other (of_flag job.tolerate) (of_each of_step job.steps)) c.1 in
    let e = none_of (of_flag job.tolerate) (of_each of_step job.steps) d.1 in
    record { condition = a.0; env = b.0; group = c.0; outputs = d.0; tolerate = e.0; steps = e.1 }

job_kept : (first n : ℕ) (job : FlowJob) (needs : List ℕ) → IsTrue (is_flow_job job) → JobPasses job → IsTrue (has_few_steps job) → IsTrue (ascend_between first n needs)
    → job_rules first n (job_with job (legs_of job.matrix) needs n) ≡ None
job_kept first n job needs h p few ascend =
    let says = says_job job h in
    let reads = reads_job job p.1 in
    none_or_else _ _ (none_rule (codes "condition") (all_there is_condition job.condition) (condition_kept job.condition reads.condition))
    (none_or_else _ _ (env_kept job.env says.env reads.env)
    (none_or_else _ _ (in_group job.group reads.group)
    (none_or_else _ _ (none_rule (codes "id") (is_id job.id) says.id)
    (none_or_else _ _ (legs_kept (job_with job (legs_of job.matrix) needs n) (count_legs job.matrix p.0) (each_leg job.matrix says.matrix) says.limit)
    (none_or_else _ _ (none_rule (codes "needs") (ascend_between first n needs) ascend)
    (none_or_else _ _ (none_rule (codes "number") (n == n) (to_same n n refl))
    (none_or_else _ _ (outputs_kept job.outputs says.outputs reads.outputs)
    (none_or_else _ _ (steps_kept job.steps few says.steps reads.steps)
    (none_rule (codes "tolerate") (is_flag job.tolerate) (flag_kept job.tolerate reads.tolerate))))))))))

-- ---- the jobs of a run

flow_job : (jobs : List FlowJob) → IsTrue (list_all is_flow_job jobs) → (p : ℕ) (job : FlowJob) → slice_get jobs p ≡ Some job → IsTrue (is_flow_job job)
flow_job [] h p job e = absurd (cc)
flow_job (j ∷ jobs) h zero job e = let a = both (is_flow_job j) (list_all is_flow_job jobs) h in subst (λ (x : FlowJob). IsTrue (is_flow_job x)) (same_Some e) a.0
flow_job (j ∷ jobs) h (suc p) job e = let a = both (is_flow_job j) (list_all is_flow_job jobs) h in flow_job jobs a.1 p job e

-- what a job needs, by places
pub needs_at : (ids : List (List ℕ)) (jobs : List FlowJob) (p : ℕ) (job : FlowJob) → slice_get jobs p ≡ Some job → get_or (map (λ j. map (place_of ids) j.needs) jobs) p [] ≡ map (place_of ids) job.needs
needs_at ids [] p job e = absurd (cc)
needs_at ids (j ∷ jobs) zero job e = ap (λ (x : FlowJob). map (place_of ids) x.needs) (same_Some e)
needs_at ids (j ∷ jobs) (suc p) job e = needs_at ids jobs p job e

places_long : (jobs : List FlowJob) (order : List ℕ) → AllByRecursion (λ p. p < length jobs) order → length (at_places jobs order) ≡ length order
places_long jobs [] h = refl
places_long jobs (p ∷ ps) h =
    let there = slice_get_there jobs p h.0 in
    ap (λ (o : Option FlowJob). length (with_item o (at_places jobs ps))) there.1 ∙ ap suc (places_long jobs ps h.1)

-- the jobs after some of the order keep the rules
jobs_kept : (jobs : List FlowJob) (ss order before after : List ℕ) (first k : ℕ) → AreStages (graph_of jobs) ss → order ≡ before ++ after → length before ≡ k → AllByRecursion (λ p. p < length jobs) after
    → InOrder ss after → IsTrue (list_all is_flow_job jobs) → AllByRecursion JobPasses (at_places jobs after) → IsTrue (list_all has_few_steps (at_places jobs after))
    → jobs_rules first k (job_plans (ids_of jobs) order first (first + k) (at_places jobs after)) ≡ None
jobs_kept jobs ss order before [] first k st is n w o flow pass few = refl
jobs_kept jobs ss order before (p ∷ ps) first k st is n w o flow pass few =
    let ids : List (List ℕ) = ids_of jobs in
    let there = slice_get_there jobs p w.0 in
    let job : FlowJob = there.0 in
    let here : at_places jobs (p ∷ ps) ≡ job ∷ at_places jobs ps = ap (λ (x : Option FlowJob). with_item x (at_places jobs ps)) there.1 in
    let passes : AllByRecursion JobPasses (job ∷ at_places jobs ps) = subst (λ (l : List FlowJob). AllByRecursion JobPasses l) here pass in
    let steps = both (has_few_steps job) (list_all has_few_steps (at_places jobs ps)) (subst (λ (l : List FlowJob). IsTrue (list_all has_few_steps l)) here few) in
    let needs : List ℕ = map (place_of ids) job.needs in
    let free : AllByRecursion (λ q. list_any (nat_eq q) needs ≡ false) (p ∷ ps) =
    subst (λ (ns : List ℕ). AllByRecursion (λ q. list_any (nat_eq q) ns ≡ false) (p ∷ ps)) (needs_at ids jobs p job there.1) (none_after (graph_of jobs) ss p ps st o) in
    let count : first + length before ≡ first + k = ap (λ (i : ℕ). first + i) n in
    let ascend : IsTrue (ascend_between first (first + k) (numbers_of first order needs)) =
    subst (λ (l : List ℕ). IsTrue (ascend_between first (first + k) (numbers_of first l needs))) (sym is) (numbers_ascend first (first + k) before (p ∷ ps) needs count free) in
    let own : job_rules first (first + k) (job_plan ids order first (first + k) job) ≡ None =
    job_kept first (first + k) job (numbers_of first order needs) (flow_job jobs flow p job there.1) passes.0 steps.0 ascend in
    let next : first + suc k ≡ suc (first + k) = omega arith in
    let long : length (before ++ p ∷ []) ≡ suc k = omega (arith, n, length-append before (p ∷ [])) in
    let rest : jobs_rules first (suc k) (job_plans ids order first (suc (first + k)) (at_places jobs ps)) ≡ None =
    subst (λ (i : ℕ). jobs_rules first (suc k) (job_plans ids order first i (at_places jobs ps)) ≡ None) next
    (jobs_kept jobs ss order (before ++ p ∷ []) ps first (suc k) st (is ∙ sym (append_assoc before (p ∷ []) ps)) long w.1 o.1 flow passes.1 steps.1) in
    subst (λ (l : List FlowJob). jobs_rules first k (job_plans ids order first (first + k) l) ≡ None) (sym here)
    (none_or_else (under (decimal k) (job_rules first (first + k) (job_plan ids order first (first + k) job))) (jobs_rules first (suc k) (job_plans ids order first (suc (first + k)) (at_places jobs ps)))
    (none_under (decimal k) (job_rules first (first + k) (job_plan ids order first (first + k) job)) own) rest)

-- ---- a run

-- what the tests of a run leave of its order
record HasOrder (jobs : List FlowJob) (order : List ℕ) : Type 0 where
  pub stages : List ℕ
  pub are_stages : AreStages (graph_of jobs) stages
  pub within : AllByRecursion (λ p. p < length jobs) order
  pub in_order : InOrder stages order

has_order : (choice : Choice) (w : Workflow) (order : List ℕ) → RunPasses choice w order → HasOrder w.jobs order
has_order choice w order p =
    let ss : List ℕ = p.0.is_order.stages in
    let marks : List Bool = p.0.is_order.marks in
    let same : order_of ss marks ≡ order = sym p.0.is_order.in_order in
    let stands = order_stands ss marks in
    let count : length ss ≡ length w.jobs = ap length p.0.is_order.are_stages ∙ length-map (graph_of w.jobs) _ ∙ length-map w.jobs _ in
    record {
      stages = ss;
      are_stages = p.0.is_order.are_stages;
      within = subst (λ (l : List ℕ). AllByRecursion (λ p. p < length w.jobs) l) same (all_weaker (Later ss 0) (λ p. p < length w.jobs) (λ k t. omega (arith, t.within, count)) (order_of ss marks) stands.0);
      in_order = subst (λ (l : List ℕ). InOrder ss l) same stands.1;
    }

run_jobs_kept : (choice : Choice) (w : Workflow) (order : List ℕ) (first : ℕ) → IsWorkflow w → RunPasses choice w order
    → jobs_rules first 0 (job_plans (ids_of w.jobs) order first first (at_places w.jobs order)) ≡ None
run_jobs_kept choice w order first flow p =
    let o = has_order choice w order p in
    let few = both (nat_le (length (at_places w.jobs order)) 256) (list_all has_few_steps (at_places w.jobs order)) p.1.few in
    let none : first + 0 ≡ first = omega arith in
    subst (λ (n : ℕ). jobs_rules first 0 (job_plans (ids_of w.jobs) order first n (at_places w.jobs order)) ≡ None) none
    (jobs_kept w.jobs o.stages order [] order first 0 o.are_stages refl refl o.within o.in_order flow.jobs p.1.jobs_pass few.1)

run_kept : (roots : Roots) (choice : Choice) (w : Workflow) (order : List ℕ) (first : ℕ) → roots_rules roots ≡ None → IsWorkflow w → is_taken choice w ≡ true → RunPasses choice w order
    → run_rules first (run_plan roots choice w order first) ≡ None
run_kept roots choice w order first kept flow t p =
    let jobs : List JobPlan = job_plans (ids_of w.jobs) order first first (at_places w.jobs order) in
    let o = has_order choice w order p in
    let texts = none_of (of_env w.env) (of_there of_group w.group) p.1.texts in
    let few = both (nat_le (length (at_places w.jobs order)) 256) (list_all has_few_steps (at_places w.jobs order)) p.1.few in
    let count : length jobs ≡ length (at_places w.jobs order) = length-job_plans (ids_of w.jobs) order first first (at_places w.jobs order) in
    let some : 0 < length order = some_job choice w order t flow.some_job p.0 in
    let long : length (at_places w.jobs order) ≡ length order = places_long w.jobs order o.within in
    let distinct : IsTrue (are_distinct (job_ids jobs)) =
    subst (λ (ids : List (List ℕ)). IsTrue (are_distinct ids)) (sym (ids_planned (ids_of w.jobs) order first first (at_places w.jobs order))) (ids_distinct w.jobs o.stages order flow.ids_ascend o.in_order) in
    let upper = from_le (length (at_places w.jobs order)) 256 few.0 in
    none_or_else _ _ (env_kept w.env flow.env texts.0)
    (none_or_else _ _ (in_group w.group texts.1)
    (none_or_else _ _ (none_rule (codes "jobs") (nat_le 1 (length jobs) && nat_le (length jobs) 256)
    (pair (nat_le 1 (length jobs)) (nat_le (length jobs) 256) (to_le 1 (length jobs) (omega (arith, count, some, long))) (to_le (length jobs) 256 (omega (arith, count, upper)))))
    (none_or_else _ _ (none_rule (codes "jobs") (are_distinct (job_ids jobs)) distinct)
    (none_or_else _ _ (none_under (codes "jobs") (jobs_rules first 0 jobs) (run_jobs_kept choice w order first flow p)) (none_under (codes "roots") (roots_rules roots) kept)))))

-- ---- all runs

runs_kept : (roots : Roots) (choice : Choice) (ws : List Workflow) (first k : ℕ) (rs : List RunPlan) → roots_rules roots ≡ None → AllByRecursion IsWorkflow ws
    → AllByRecursion (λ w. is_taken choice w ≡ true) ws → RunsPass choice ws → AssemblesRuns roots choice ws first rs → (runs_rules first k rs ≡ None) × (length rs ≡ length ws)
runs_kept roots choice [] first k [] kept flows t p a = (refl, refl)
runs_kept roots choice [] first k (r ∷ rs) kept flows t p a = absurd a
runs_kept roots choice (w ∷ ws) first k [] kept flows t p a = absurd a
runs_kept roots choice (w ∷ ws) first k (r ∷ rs) kept flows t p a =
    let order : List ℕ = p.0.0 in
    let same : r ≡ run_plan roots choice w order first =
    one_run roots choice w first r (run_plan roots choice w order first) a.0 (run_assembled roots choice w order first p.0.1) in
    let own : run_rules first r ≡ None = ap (run_rules first) same ∙ run_kept roots choice w order first kept flows.0 t.0 p.0.1 in
    let rest = runs_kept roots choice ws (first + length r.jobs) (suc k) rs kept flows.1 t.1 p.1 a.1 in
    (none_or_else (under (decimal k) (run_rules first r)) (runs_rules (first + length r.jobs) (suc k) rs) (none_under (decimal k) (run_rules first r) own) rest.0, ap suc rest.1)

taken_case : (choice : Choice) (w : Workflow) (ws : List Workflow) (b : Bool) → is_taken choice w ≡ b → AllByRecursion (λ v. is_taken choice v ≡ true) ws → AllByRecursion (λ v. is_taken choice v ≡ true) (cond b (w ∷ ws) ws)
taken_case choice w ws true e h = (e, h)
taken_case choice w ws false e h = h

all_taken : (choice : Choice) (ws : List Workflow) → AllByRecursion (λ w. is_taken choice w ≡ true) (taken choice ws)
all_taken choice [] = tt
all_taken choice (w ∷ ws) = taken_case choice w (taken choice ws) (is_taken choice w) refl (all_taken choice ws)

pub legs_alone : (ws : List Workflow) (roots : Roots) (choice : Choice) (p : Plan) → AllByRecursion IsWorkflow (taken choice ws) → roots_rules roots ≡ None
    → 0 < length (taken choice ws) → length (taken choice ws) ≤ 64 → RunsPass choice (taken choice ws)
    → AssemblesRuns roots choice (taken choice ws) 0 p.runs → legs_of_runs p.runs ≤ 4096 → IsPlan p
legs_alone ws roots choice p flows kept some few pass a legs =
    let runs = runs_kept roots choice (taken choice ws) 0 0 p.runs kept flows (all_taken choice ws) pass a in
    none_or_else _ _ (none_rule (codes "runs") (nat_le 1 (length p.runs) && nat_le (length p.runs) 64)
    (pair (nat_le 1 (length p.runs)) (nat_le (length p.runs) 64) (to_le 1 (length p.runs) (omega (arith, runs.1, some))) (to_le (length p.runs) 64 (omega (arith, runs.1, few)))))
    (none_or_else _ _ (none_under (codes "runs") (runs_rules 0 0 p.runs) runs.0) (none_rule (codes "runs") (nat_le (legs_of_runs p.runs) 4096) (to_le (legs_of_runs p.runs) 4096 legs)))

over_case : (n : ℕ) (b : Bool) → nat_le n 4096 ≡ b → (n ≤ 4096 → ⊥) → 4096 < n
over_case n true e h = absurd (h (from_le n 4096 e))
over_case n false e h = grind (arith, nat_tests)

-- the plan of runs that pass all tests before
pub plans_from : (ws : List Workflow) (roots : Roots) (choice : Choice) (runs : List RunPlan) (r : Result Plan PlanFault) → AllByRecursion IsWorkflow (taken choice ws) → roots_rules roots ≡ None
    → 0 < length (taken choice ws) → length (taken choice ws) ≤ 64 → RunsPass choice (taken choice ws) × AssemblesRuns roots choice (taken choice ws) 0 runs → ChecksRuns runs r → Plans ws roots choice r
plans_from ws roots choice runs (Ok p) flows kept some few m c = (subst (λ (l : List RunPlan). AssemblesRuns roots choice (taken choice ws) 0 l) (sym c.0) m.1, c.1)
plans_from ws roots choice runs (Err f) flows kept some few m c =
    let plan : Plan = record { runs = runs } in
    answered_weaker _ (Refuses ws roots choice) f
    (λ g x. inr (some, inr (few, inr (m.0, (plan, (m.1, (over_case (legs_of_runs runs) (nat_le (legs_of_runs runs) 4096) refl (λ l. x.0 (legs_alone ws roots choice plan flows kept some few m.0 m.1 l)), x.1))))))) c
