-- What is read keeps the rules of a workflow: its steps, its jobs and the whole.
use Rattle.std.proofs.Common.{◌≡◌, ◌∙◌, ℕ, List, [], ◌∷◌, Bool, true, not, ◌&&◌, IsTrue, Option, Some, None, Ok, Err, refl, ap, codes}
use Rattle.std.specs.Bool.{⊤}
use Rattle.std.specs.List.{list_all, list_any}
use Rattle.std.specs.Option.{unwrap_or}
use Rattle.std.specs.Str.{bytes_eq}
use Rattle.serde_json.specs.Data.{Data}
use Rattle.serde_json.specs.Find.{get}
use Rattle.flow_model.specs.Flow.{is_spelled_variable, is_spelled_input, is_spelled_condition, is_spelled_work, is_flow_step, are_flow_steps, is_matrix_key, is_matrix_variable, is_matrix_entry, is_flow_matrix}
use Rattle.flow_model.specs.Name.{is_id}
use Rattle.flow_model.specs.Plain.{Plain}
use Rattle.flow_model.specs.Rules.{all_there, are_distinct, is_limit, is_within, step_ids, with_id}
use Rattle.flow_model.specs.declared.plan.Matrix.{Matrix}
use Rattle.flow_model.specs.declared.plan.Shell.TheVariants.{Default}
use Rattle.flow_model.specs.declared.plan.StepPlan.{StepPlan}
use Rattle.flow_model.specs.declared.plan.Work.{Work}
use Rattle.flow_model.specs.declared.plan.Work.TheVariants.{Run, Uses}
use Rattle.flow_model.proofs.Tests.{pair, both as both_tests}
use Rattle.flow_reader.specs.Checked.{Checked, bad, both, under, list_of, pairs_checked, defaulted}
use Rattle.flow_reader.specs.Defaults.{filled_work, filled_step, filled_steps}
use Rattle.flow_reader.specs.Parts.{text_of, id_of, condition_of, env_of, inputs_of, properties_of, plain_of, limit_of}
use Rattle.flow_reader.specs.Step.{work_at, StepParts, step_from, step_of, distinct, with_distinct_ids, steps_of}
use Rattle.flow_reader.specs.Strategy.{is_variable_key, matrix_variable_at, matrix_variables_of, MatrixEntries, matrix_from, matrix_of, strategy_from, strategy_of}
use Rattle.flow_reader.specs.declared.defaults.Defaults.{Defaults}
use Rattle.flow_reader.specs.declared.strategy.Strategy.{Strategy}
use Rattle.flow_reader.proofs.Keeping.{Keeps, keeps_none, keeps_here, keeps_bad, keeps_any, keeps_weaker, keeps_both, keeps_made, keeps_if, keeps_optional, keeps_defaulted, keeps_spelled, keeps_spelled_in, keeps_in_object, keeps_of_members, keeps_list, keeps_pairs}
use Rattle.flow_reader.proofs.Sound.{keeps_id, keeps_condition, keeps_limit, keeps_plain, keeps_env, keeps_inputs, keeps_properties}

-- no test
abbrev pub any : {A : Type 0} → A → Bool
any x = true

-- a test of the first, and of the others
abbrev pub next : {A B : Type 0} → (A → Bool) → (B → Bool) → A × B → Bool
next p q x = p x.0 && q x.1

-- the second of two tests, where another follows from it
pub and_then : (a b c : Bool) → (IsTrue b → IsTrue c) → IsTrue (a && b) → IsTrue (a && c)
and_then a b c f h = let t = both_tests a b h in pair a c t.0 (f t.1)

-- ---- steps

keeps_work_at : (key : List ℕ) (a b : Option Data) (o : Data) → Keeps is_spelled_work (work_at key a b o)
unfolding work_at
keeps_work_at key None None o = keeps_bad is_spelled_work _
keeps_work_at key (Some run) None o = keeps_made (λ text. Run None text Default) is_spelled_work (under key (text_of run)) (λ x e. refl)
keeps_work_at key None (Some uses) o =
    keeps_made (λ x. Uses x.0 x.1) is_spelled_work (both (under (codes "uses") (text_of uses)) (defaulted [] inputs_of (codes "with") o))
    (keeps_both any (list_all is_spelled_input) (under (codes "uses") (text_of uses)) (defaulted [] inputs_of (codes "with") o) (keeps_any _)
    (keeps_defaulted (list_all is_spelled_input) [] inputs_of (codes "with") o refl keeps_inputs))
keeps_work_at key (Some run) (Some uses) o = keeps_bad is_spelled_work _

filled_spelled : (f : Defaults) (w : Work) → IsTrue (is_spelled_work w) → IsTrue (is_spelled_work (filled_work f w))
filled_spelled f (Run dir run shell) h = refl
filled_spelled f (Uses uses given) h = h

abbrev step_test : StepParts → Bool
step_test = next (all_there is_id) (next any (next (all_there is_spelled_condition) (next (list_all is_spelled_variable) (next any (next any (next any (next is_spelled_work any)))))))

step_passes : (x : StepParts) → IsTrue (step_test x) → IsTrue (is_flow_step (step_from x))
step_passes x h =
    let id = both_tests (all_there is_id x.0) _ h in
    let condition = both_tests (all_there is_spelled_condition x.1.1.0) _ id.1 in
    let env = both_tests (list_all is_spelled_variable x.1.1.1.0) _ condition.1 in
    let work = both_tests (is_spelled_work x.1.1.1.1.1.1.1.0) true env.1 in
    pair (all_there is_spelled_condition x.1.1.0) _ condition.0 (pair (list_all is_spelled_variable x.1.1.1.0) _ env.0
    (pair (all_there is_id x.0) _ id.0 (filled_spelled _ x.1.1.1.1.1.1.1.0 work.0)))

pub keeps_step : (d : Data) → Keeps is_flow_step (step_of d)
unfolding step_of
keeps_step d =
    keeps_made step_from is_flow_step _ (keeps_weaker step_test (λ x. is_flow_step (step_from x)) _ step_passes (keeps_in_object step_test _ d (λ o.
    keeps_both (all_there is_id) _ _ _ (keeps_optional is_id id_of (codes "id") o keeps_id)
    (keeps_both any _ _ _ (keeps_any _)
    (keeps_both (all_there is_spelled_condition) _ _ _ (keeps_defaulted (all_there is_spelled_condition) None condition_of (codes "if") o refl keeps_condition)
    (keeps_both (list_all is_spelled_variable) _ _ _ (keeps_defaulted (list_all is_spelled_variable) [] env_of (codes "env") o refl keeps_env)
    (keeps_both any _ _ _ (keeps_any _)
    (keeps_both any _ _ _ (keeps_any _)
    (keeps_both any _ _ _ (keeps_any _)
    (keeps_both is_spelled_work any _ _ (keeps_work_at (codes "run") (get (codes "run") o) (get (codes "uses") o) o) (keeps_any _)))))))))))

keeps_distinct : (ids : List (List ℕ)) → Keeps (λ _. are_distinct ids) (distinct ids)
keeps_distinct [] = keeps_here (λ _. true) tt refl
keeps_distinct (id ∷ ids) =
    keeps_if (λ _. are_distinct (id ∷ ids)) (list_any (bytes_eq id) ids) (bad _) (distinct ids) (λ _. keeps_bad (λ _. are_distinct (id ∷ ids)) _)
    (λ f. keeps_weaker (λ _. are_distinct ids) (λ _. are_distinct (id ∷ ids)) (distinct ids) (λ u h. pair (not (list_any (bytes_eq id) ids)) (are_distinct ids) (ap not f) h) (keeps_distinct ids))

keeps_with_distinct : (m : Checked (List StepPlan)) → Keeps (list_all is_flow_step) m → Keeps are_flow_steps (with_distinct_ids m)
unfolding with_distinct_ids
keeps_with_distinct (Ok steps) h =
    keeps_made (λ _. steps) are_flow_steps (distinct (step_ids steps)) (λ u e. pair (list_all is_flow_step steps) (are_distinct (step_ids steps)) (h steps refl) (keeps_distinct (step_ids steps) u e))
keeps_with_distinct (Err fs) h = keeps_none are_flow_steps fs

pub keeps_steps : (d : Data) → Keeps are_flow_steps (steps_of d)
unfolding steps_of
keeps_steps d = keeps_with_distinct (list_of step_of d) (keeps_list is_flow_step step_of d keeps_step)

filled_step_passes : (f : Defaults) (s : StepPlan) → IsTrue (is_flow_step s) → IsTrue (is_flow_step (filled_step f s))
filled_step_passes f s h =
    and_then (all_there is_spelled_condition s.condition) _ _ (and_then (list_all is_spelled_variable s.env) _ _ (and_then (all_there is_id s.id) _ _ (filled_spelled f s.work))) h

filled_all : (f : Defaults) (ss : List StepPlan) → IsTrue (list_all is_flow_step ss) → IsTrue (list_all is_flow_step (filled_steps f ss))
filled_all f [] h = refl
filled_all f (s ∷ ss) h =
    let t = both_tests (is_flow_step s) (list_all is_flow_step ss) h in
    pair (is_flow_step (filled_step f s)) (list_all is_flow_step (filled_steps f ss)) (filled_step_passes f s t.0) (filled_all f ss t.1)

same_ids : (f : Defaults) (ss : List StepPlan) → step_ids (filled_steps f ss) ≡ step_ids ss
same_ids f [] = refl
same_ids f (s ∷ ss) = ap (with_id s.id) (same_ids f ss)

pub filled_pass : (f : Defaults) (ss : List StepPlan) → IsTrue (are_flow_steps ss) → IsTrue (are_flow_steps (filled_steps f ss))
filled_pass f ss h =
    let t = both_tests (list_all is_flow_step ss) (are_distinct (step_ids ss)) h in
    pair (list_all is_flow_step (filled_steps f ss)) (are_distinct (step_ids (filled_steps f ss))) (filled_all f ss t.0) (ap are_distinct (same_ids f ss) ∙ t.1)

-- ---- matrices

variable_case : (k : List ℕ) (d : Data) → is_variable_key k ≡ true → Keeps (λ v. is_matrix_variable (k, v)) (matrix_variable_at k d)
variable_case k d c =
    keeps_weaker (list_all (is_within 100)) (λ v. is_matrix_variable (k, v)) (matrix_variable_at k d) (λ v s. pair (not (is_matrix_key k)) (list_all (is_within 100) v) c s)
    (keeps_spelled_in (list_all (is_within 100)) (list_of plain_of) k d (keeps_list (is_within 100) plain_of d keeps_plain))

keeps_variables : (d : Data) → Keeps (list_all is_matrix_variable) (matrix_variables_of d)
unfolding matrix_variables_of
keeps_variables d = keeps_of_members (list_all is_matrix_variable) (pairs_checked is_variable_key matrix_variable_at) d (keeps_pairs is_matrix_variable is_variable_key matrix_variable_at variable_case)

or_none : (o : Option MatrixEntries) → IsTrue (all_there (list_all is_matrix_entry) o) → IsTrue (list_all is_matrix_entry (unwrap_or o []))
or_none None h = refl
or_none (Some es) h = h

abbrev matrix_test : List (List ℕ × List Plain) × (Option MatrixEntries × (Option MatrixEntries × ⊤)) → Bool
matrix_test = next (list_all is_matrix_variable) (next (all_there (list_all is_matrix_entry)) (next (all_there (list_all is_matrix_entry)) any))

matrix_passes : (x : List (List ℕ × List Plain) × (Option MatrixEntries × (Option MatrixEntries × ⊤))) → IsTrue (matrix_test x) → IsTrue (is_flow_matrix (matrix_from x))
matrix_passes x h =
    let variables = both_tests (list_all is_matrix_variable x.0) _ h in
    let exclude = both_tests (all_there (list_all is_matrix_entry) x.1.0) _ variables.1 in
    let include = both_tests (all_there (list_all is_matrix_entry) x.1.1.0) true exclude.1 in
    pair (list_all is_matrix_variable x.0) _ variables.0 (pair (list_all is_matrix_entry (unwrap_or x.1.0 [])) _ (or_none x.1.0 exclude.0) (or_none x.1.1.0 include.0))

entries_case : (d : Data) → Keeps (list_all is_matrix_entry) (list_of properties_of d)
entries_case d = keeps_list is_matrix_entry properties_of d keeps_properties

keeps_matrix : (d : Data) → Keeps is_flow_matrix (matrix_of d)
unfolding matrix_of
keeps_matrix d =
    keeps_made matrix_from is_flow_matrix _ (keeps_weaker matrix_test (λ x. is_flow_matrix (matrix_from x)) _ matrix_passes
    (keeps_both (list_all is_matrix_variable) _ _ _ (keeps_variables d) (keeps_in_object (next (all_there (list_all is_matrix_entry)) (next (all_there (list_all is_matrix_entry)) any)) _ d (λ o.
    keeps_both (all_there (list_all is_matrix_entry)) _ _ _ (keeps_spelled (list_all is_matrix_entry) (list_of properties_of) (codes "exclude") o entries_case)
    (keeps_both (all_there (list_all is_matrix_entry)) any _ _ (keeps_spelled (list_all is_matrix_entry) (list_of properties_of) (codes "include") o entries_case) (keeps_any _))))))

abbrev pub strategy_passes : Strategy → Bool
strategy_passes s = all_there is_flow_matrix s.matrix && all_there is_limit s.max_parallel

abbrev strategy_test : Option Bool × (Option Matrix × (Option ℕ × ⊤)) → Bool
strategy_test = next any (next (all_there is_flow_matrix) (next (all_there is_limit) any))

strategy_case : (x : Option Bool × (Option Matrix × (Option ℕ × ⊤))) → IsTrue (strategy_test x) → IsTrue (strategy_passes (strategy_from x))
strategy_case x h =
    let matrix = both_tests (all_there is_flow_matrix x.1.0) _ h in
    let limit = both_tests (all_there is_limit x.1.1.0) true matrix.1 in
    pair (all_there is_flow_matrix x.1.0) (all_there is_limit x.1.1.0) matrix.0 limit.0

pub keeps_strategy : (d : Data) → Keeps strategy_passes (strategy_of d)
unfolding strategy_of
keeps_strategy d =
    keeps_made strategy_from strategy_passes _ (keeps_weaker strategy_test (λ x. strategy_passes (strategy_from x)) _ strategy_case (keeps_in_object strategy_test _ d (λ o.
    keeps_both any _ _ _ (keeps_any _)
    (keeps_both (all_there is_flow_matrix) _ _ _ (keeps_spelled is_flow_matrix matrix_of (codes "matrix") o keeps_matrix)
    (keeps_both (all_there is_limit) any _ _ (keeps_spelled is_limit limit_of (codes "max-parallel") o keeps_limit) (keeps_any _))))))
