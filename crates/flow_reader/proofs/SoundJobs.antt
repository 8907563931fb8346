-- What is read keeps the rules of a workflow: its jobs, and the whole.
use Rattle.std.proofs.Common.{◌≡◌, ◌≤◌, ℕ, suc, List, [], ◌∷◌, map, length, Bool, true, false, ◌&&◌, IsTrue, Option, Some, None, Ok, Err, refl, ap, sym, subst, codes, arith, nat_cmp, String, Global, string_bytes}
use Rattle.std.specs.Bool.{⊤}
use Rattle.std.specs.Cmp.Lexicographic.{slice_cmp}
use Rattle.std.specs.List.{list_all}
use Rattle.std.specs.List.Sorted.{IsStrictlySortedBy}
use Rattle.std.specs.Str.{bytes_eq}
use Rattle.std.proofs.lemmas.Slice.Eq.{bytes_eq-Decides}
use Rattle.serde_json.specs.Data.{Data, null, boolean, number, string, array, object, Members, no_members, member}
use Rattle.serde_json.specs.Find.{get, as_object}
use Rattle.serde_json.specs.View.{members_view}
use Rattle.serde_json.specs.declared.value.Value.{Value}
use Rattle.flow_model.specs.Flow.{is_spelled_variable, is_named_output, is_spelled_condition, are_flow_steps, is_flow_matrix, is_flow_job, IsWorkflow}
use Rattle.flow_model.specs.Mapping.{pairs_of, keys_of}
use Rattle.flow_model.specs.Name.{is_id}
use Rattle.flow_model.specs.Rules.{all_there, are_distinct, is_limit}
use Rattle.flow_model.specs.declared.flow.FlowJob.{FlowJob}
use Rattle.flow_model.specs.declared.flow.Workflow.{Workflow}
use Rattle.flow_model.proofs.Tests.{pair, both as both_tests}
use Rattle.flow_reader.specs.Checked.{Checked, bad, both, made, under, in_object, of_members, members_checked, required_at, keys_in}
use Rattle.flow_reader.specs.Defaults.{filled_job, filled_jobs}
use Rattle.flow_reader.specs.Load.{MembersAscend, KeysAscend}
use Rattle.flow_reader.specs.Parts.{condition_of, env_of, outputs_of, needs_of}
use Rattle.flow_reader.specs.Step.{steps_of}
use Rattle.flow_reader.specs.Strategy.{no_strategy, strategy_of}
use Rattle.flow_reader.specs.Workflow.{JobParts, job_from, job_parts_of, job_of, job_at, some_jobs, jobs_of, WorkflowParts, workflow_from, workflow_parts_of, workflow_of}
use Rattle.flow_reader.specs.declared.defaults.Defaults.{Defaults}
use Rattle.flow_reader.specs.declared.fault.FlowFault.{FlowFault}
use Rattle.flow_reader.proofs.Keeping.{Keeps, keeps_here, keeps_bad, keeps_any, keeps_weaker, keeps_both, keeps_made, keeps_under, keeps_if, keeps_defaulted, keeps_required, keeps_in_object}
use Rattle.flow_reader.proofs.Sound.{keeps_condition, keeps_needs, keeps_env, keeps_outputs}
use Rattle.flow_reader.proofs.SoundFlow.{any, next, and_then, filled_pass, strategy_passes, keeps_strategy, keeps_steps}

-- ---- a job

abbrev job_test : ⊤ × (⊤ × (⊤ × JobParts)) → Bool
job_test = next any (next any (next any (next any (next are_distinct (next (all_there is_spelled_condition) (next strategy_passes (next any (next any
    (next (list_all is_spelled_variable) (next any (next (list_all is_named_output) (next are_flow_steps any))))))))))))

job_passes : (id : List ℕ) → IsTrue (is_id id) → (y : ⊤ × (⊤ × (⊤ × JobParts))) → IsTrue (job_test y) → IsTrue (is_flow_job (job_from id y))
job_passes id i y h =
    let x = y.1.1.1 in
    let needs = both_tests (are_distinct x.1.0) _ h in
    let condition = both_tests (all_there is_spelled_condition x.1.1.0) _ needs.1 in
    let strategy = both_tests (strategy_passes x.1.1.1.0) _ condition.1 in
    let parts = both_tests (all_there is_flow_matrix x.1.1.1.0.matrix) _ strategy.0 in
    let env = both_tests (list_all is_spelled_variable x.1.1.1.1.1.1.0) _ strategy.1 in
    let outputs = both_tests (list_all is_named_output x.1.1.1.1.1.1.1.1.0) _ env.1 in
    let steps = both_tests (are_flow_steps x.1.1.1.1.1.1.1.1.1.0) true outputs.1 in
    pair (is_id id) _ i (pair (all_there is_spelled_condition x.1.1.0) _ condition.0 (pair (list_all is_spelled_variable x.1.1.1.1.1.1.0) _ env.0
    (pair (all_there is_flow_matrix x.1.1.1.0.matrix) _ parts.0 (pair (all_there is_limit x.1.1.1.0.max_parallel) _ parts.1 (pair (are_distinct x.1.0) _ needs.0
    (pair (list_all is_named_output x.1.1.1.1.1.1.1.1.0) _ outputs.0 (filled_pass x.1.1.1.1.1.1.1.0 x.1.1.1.1.1.1.1.1.1.0 steps.0)))))))

keeps_job_parts : (d : Data) → Keeps job_test (job_parts_of d)
unfolding job_parts_of
keeps_job_parts d = keeps_in_object job_test _ d (λ o.
    keeps_both any _ _ _ (keeps_any _) (keeps_both any _ _ _ (keeps_any _) (keeps_both any _ _ _ (keeps_any _) (keeps_both any _ _ _ (keeps_any _)
    (keeps_both are_distinct _ _ _ (keeps_defaulted are_distinct [] needs_of (codes "needs") o refl keeps_needs)
    (keeps_both (all_there is_spelled_condition) _ _ _ (keeps_defaulted (all_there is_spelled_condition) None condition_of (codes "if") o refl keeps_condition)
    (keeps_both strategy_passes _ _ _ (keeps_defaulted strategy_passes no_strategy strategy_of (codes "strategy") o refl keeps_strategy)
    (keeps_both any _ _ _ (keeps_any _) (keeps_both any _ _ _ (keeps_any _)
    (keeps_both (list_all is_spelled_variable) _ _ _ (keeps_defaulted (list_all is_spelled_variable) [] env_of (codes "env") o refl keeps_env)
    (keeps_both any _ _ _ (keeps_any _)
    (keeps_both (list_all is_named_output) _ _ _ (keeps_defaulted (list_all is_named_output) [] outputs_of (codes "outputs") o refl keeps_outputs)
    (keeps_both are_flow_steps any _ _ (keeps_required are_flow_steps steps_of (codes "steps") o keeps_steps) (keeps_any _))))))))))))))

-- a job that has this id, and keeps the rules
abbrev is_job_of : List ℕ → FlowJob → Bool
is_job_of id j = bytes_eq j.id id && is_flow_job j

keeps_job : (id : List ℕ) → IsTrue (is_id id) → (d : Data) → Keeps (is_job_of id) (job_of id d)
unfolding job_of
keeps_job id i d =
    keeps_made (job_from id) (is_job_of id) (job_parts_of d) (keeps_weaker job_test (λ y. is_job_of id (job_from id y)) (job_parts_of d)
    (λ y h. pair (bytes_eq id id) (is_flow_job (job_from id y)) ((bytes_eq-Decides id id).1 refl) (job_passes id i y h)) (keeps_job_parts d))

keeps_job_at : (id : List ℕ) (d : Data) → Keeps (is_job_of id) (job_at id d)
unfolding job_at
keeps_job_at id d =
    keeps_if (is_job_of id) (is_id id) (under id (job_of id d)) (bad _) (λ i. keeps_under (is_job_of id) id (job_of id d) (keeps_job id i d)) (λ _. keeps_bad (is_job_of id) _)

-- ---- all jobs

-- jobs of these ids, one for each, that keep the rules
abbrev are_jobs_of : List (List ℕ) → List FlowJob → Bool
are_jobs_of [] [] = true
are_jobs_of [] (j ∷ js) = false
are_jobs_of (id ∷ ids) [] = false
are_jobs_of (id ∷ ids) (j ∷ js) = is_job_of id j && are_jobs_of ids js

keeps_each : (ms : Members) → Keeps (are_jobs_of (keys_in ms)) (members_checked job_at ms)
keeps_each no_members = keeps_here (are_jobs_of []) [] refl
keeps_each (member id d ms) =
    keeps_made (λ x. x.0 ∷ x.1) (are_jobs_of (id ∷ keys_in ms)) (both (job_at id d) (members_checked job_at ms))
    (keeps_both (is_job_of id) (are_jobs_of (keys_in ms)) (job_at id d) (members_checked job_at ms) (keeps_job_at id d) (keeps_each ms))

-- jobs of the keys of an object, of which there is at least one
abbrev are_jobs_in : Option Members → List FlowJob → Bool
are_jobs_in None js = false
are_jobs_in (Some no_members) js = false
are_jobs_in (Some (member id d ms)) js = are_jobs_of (id ∷ keys_in ms) js

keeps_some : (ms : Members) → Keeps (are_jobs_in (Some ms)) (some_jobs ms)
unfolding some_jobs
keeps_some no_members = keeps_bad (are_jobs_in (Some no_members)) _
keeps_some (member id d ms) = keeps_each (member id d ms)

keeps_jobs : (d : Data) → Keeps (are_jobs_in (as_object d)) (jobs_of d)
unfolding jobs_of of_members
keeps_jobs null = keeps_bad (are_jobs_in None) _
keeps_jobs (boolean b) = keeps_bad (are_jobs_in None) _
keeps_jobs (number n) = keeps_bad (are_jobs_in None) _
keeps_jobs (string bytes) = keeps_bad (are_jobs_in None) _
keeps_jobs (array ds) = keeps_bad (are_jobs_in None) _
keeps_jobs (object ms) = keeps_some ms

-- what stands at a key, if anything does
abbrev jobs_there : Option Data → List FlowJob → Bool
jobs_there None js = false
jobs_there (Some d) js = are_jobs_in (as_object d) js

keeps_jobs_at : (o : Option Data) → Keeps (jobs_there o) (required_at jobs_of (codes "jobs") o)
unfolding required_at
keeps_jobs_at None = keeps_bad (jobs_there None) _
keeps_jobs_at (Some d) = keeps_under (are_jobs_in (as_object d)) (codes "jobs") (jobs_of d) (keeps_jobs d)

filled_job_passes : (f : Defaults) (j : FlowJob) → IsTrue (is_flow_job j) → IsTrue (is_flow_job (filled_job f j))
filled_job_passes f j h =
    and_then (is_id j.id) _ _ (and_then (all_there is_spelled_condition j.condition) _ _ (and_then (list_all is_spelled_variable j.env) _ _ (and_then (all_there is_flow_matrix j.matrix) _ _
    (and_then (all_there is_limit j.max_parallel) _ _ (and_then (are_distinct j.needs) _ _ (and_then (list_all is_named_output j.outputs) _ _ (filled_pass f j.steps))))))) h

filled_jobs_pass : (f : Defaults) (ids : List (List ℕ)) (js : List FlowJob) → IsTrue (are_jobs_of ids js) → IsTrue (list_all is_flow_job (filled_jobs f js)) × (map (λ j. j.id) (filled_jobs f js) ≡ ids)
filled_jobs_pass f [] [] h = (refl, refl)
filled_jobs_pass f [] (j ∷ js) h = absurd (cc)
filled_jobs_pass f (id ∷ ids) [] h = absurd (cc)
filled_jobs_pass f (id ∷ ids) (j ∷ js) h =
    let t = both_tests (is_job_of id j) (are_jobs_of ids js) h in
    let s = both_tests (bytes_eq j.id id) (is_flow_job j) t.0 in
    let r = filled_jobs_pass f ids js t.1 in (
      pair (is_flow_job (filled_job f j)) (list_all is_flow_job (filled_jobs f js)) (filled_job_passes f j s.1) r.0,
      λ i. (bytes_eq-Decides j.id id).0 s.0 i ∷ r.1 i,
    )

-- ---- the workflow

abbrev workflow_test : Data → WorkflowParts → Bool
workflow_test d = next any (next any (next (list_all is_spelled_variable) (next any (next any (next (jobs_there (get (codes "jobs") d)) any)))))

keeps_this : {A : Type 0} (p : A → Bool) (of : Data → Checked A) (d : Data) → Keeps p (of d) → Keeps p (in_object of d)
unfolding in_object
keeps_this p of null h = keeps_bad p _
keeps_this p of (boolean b) h = keeps_bad p _
keeps_this p of (number n) h = keeps_bad p _
keeps_this p of (string bytes) h = keeps_bad p _
keeps_this p of (array ds) h = keeps_bad p _
keeps_this p of (object ms) h = h

keeps_workflow_parts : (d : Data) → Keeps (workflow_test d) (workflow_parts_of d)
unfolding workflow_parts_of
keeps_workflow_parts d = keeps_this (workflow_test d) _ d (
    keeps_both any _ _ _ (keeps_any _) (keeps_both any _ _ _ (keeps_any _)
    (keeps_both (list_all is_spelled_variable) _ _ _ (keeps_defaulted (list_all is_spelled_variable) [] env_of (codes "env") d refl keeps_env)
    (keeps_both any _ _ _ (keeps_any _) (keeps_both any _ _ _ (keeps_any _)
    (keeps_both (jobs_there (get (codes "jobs") d)) any _ _ (keeps_jobs_at (get (codes "jobs") d)) (keeps_any _)))))))

pub record Jobs (f : Defaults) (js : List FlowJob) : Type 0 where
  pub some : 1 ≤ length (filled_jobs f js)
  pub ascend : IsStrictlySortedBy (slice_cmp nat_cmp) (map (λ j. j.id) (filled_jobs f js))
  pub each : IsTrue (list_all is_flow_job (filled_jobs f js))

length_ids : (js : List FlowJob) → length (map (λ j. j.id) js) ≡ length js
length_ids [] = refl
length_ids (j ∷ js) = ap suc (length_ids js)

sound_members : (f : Defaults) (id : List ℕ) (ids : List (List ℕ)) (js : List FlowJob) → IsTrue (are_jobs_of (id ∷ ids) js) → IsStrictlySortedBy (slice_cmp nat_cmp) (id ∷ ids) → Jobs f js
sound_members f id ids js h s =
    let r = filled_jobs_pass f (id ∷ ids) js h in
    record {
      some = omega (arith, length_ids (filled_jobs f js), ap length r.1);
      ascend = subst (λ ks. IsStrictlySortedBy (slice_cmp nat_cmp) ks) (sym r.1) s;
      each = r.0;
    }

no_jobs : (f : Defaults) (js : List FlowJob) → IsTrue false → Jobs f js
no_jobs f js h = absurd (cc)

sound_object : (f : Defaults) (ms : Members) (js : List FlowJob) → IsTrue (are_jobs_in (Some ms) js) → MembersAscend (Some ms) → Jobs f js
sound_object f no_members js h s = no_jobs f js h
sound_object f (member id d ms) js h s = sound_members f id (keys_in ms) js h s

sound_at : (f : Defaults) (o : Option Data) (js : List FlowJob) → IsTrue (jobs_there o js) → KeysAscend o → Jobs f js
sound_at f None js h s = no_jobs f js h
sound_at f (Some d) js h s = by_object (as_object d) h s
  where
    by_object : (ms : Option Members) → IsTrue (are_jobs_in ms js) → MembersAscend ms → Jobs f js
    by_object None h s = no_jobs f js h
    by_object (Some ms) h s = sound_object f ms js h s

-- the parts of which a workflow was made
made_of : {A B : Type 0} (m : A → B) (a : Checked A) (y : B) → made m a ≡ Ok y → (x : A) × (a ≡ Ok x) × (m x ≡ y)
unfolding made
made_of m (Ok x) y e = (x, refl, same (Ok (m x)) (m x) y refl e)
  where
    same : {C : Type 0} (c : Checked C) (a b : C) → c ≡ Ok a → c ≡ Ok b → a ≡ b
    same c a b h k = cc
made_of m (Err fs) y e = absurd (other (Err fs) fs y refl e)
  where
    other : {C : Type 0} (c : Checked C) (gs : List FlowFault) (b : C) → c ≡ Err gs → c ≡ Ok b → ⊥
    other c gs b h k = cc

parts_sound : (path : List ℕ) (d : Data) (x : WorkflowParts) → IsTrue (workflow_test d x) → KeysAscend (get (codes "jobs") d) → IsWorkflow (workflow_from path x)
parts_sound path d x h s =
    let env = both_tests (list_all is_spelled_variable x.1.1.0) _ h in
    let jobs = both_tests (jobs_there (get (codes "jobs") d) x.1.1.1.1.1.0) true env.1 in
    let keep = sound_at x.1.1.1.0 (get (codes "jobs") d) x.1.1.1.1.1.0 jobs.0 s in
    record { env = env.0; some_job = keep.some; ids_ascend = keep.ascend; jobs = keep.each }

pub flow_sound : (path : List ℕ) (d : Data) (w : Workflow) → KeysAscend (get (codes "jobs") d) → workflow_of path d ≡ Ok w → IsWorkflow w
unfolding workflow_of
flow_sound path d w s e =
    let m = made_of (workflow_from path) (workflow_parts_of d) w e in
    subst (λ v. IsWorkflow v) m.2 (parts_sound path d m.0 (keeps_workflow_parts d m.0 m.1) s)

-- the keys of a map ascend
keys_same : (es : List (String Global × Value)) → keys_in (members_view es) ≡ keys_of (pairs_of es)
keys_same [] = refl
keys_same (e ∷ es) = ap (λ (ks : List (List ℕ)). string_bytes e.0 ∷ ks) (keys_same es)

pub map_ascends : (es : List (String Global × Value)) → IsStrictlySortedBy (slice_cmp nat_cmp) (keys_of (pairs_of es)) → IsStrictlySortedBy (slice_cmp nat_cmp) (keys_in (members_view es))
map_ascends es h = subst (λ ks. IsStrictlySortedBy (slice_cmp nat_cmp) ks) (sym (keys_same es)) h
