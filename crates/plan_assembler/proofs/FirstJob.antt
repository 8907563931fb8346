-- A run has a job: one of those that it has needs none.
use Rattle.std.proofs.Common.{◌≡◌, ◌∙◌, ◌<◌, ◌≤◌, ◌+◌, ◌==◌, inl, inr, ℕ, zero, suc, Bool, true, false, cond, List, [], ◌∷◌, ◌++◌, map, length, get_or, refl, ap, sym, subst, arith}
use Rattle.std.proofs.lemmas.Bool.Decides.{nat_tests}
use Rattle.std.proofs.Math.ListN.{get_or-map}
use Rattle.std.proofs.lemmas.List.{length-map}
use Rattle.std.specs.List.{Contains, filter}
use Rattle.flow_model.specs.declared.flow.FlowJob.{FlowJob}
use Rattle.flow_model.specs.declared.flow.Workflow.{Workflow}
use Rattle.plan_assembler.specs.Chosen.{IsChosen}
use Rattle.plan_assembler.specs.Graph.{Graph, Needs, IsGraph}
use Rattle.plan_assembler.specs.Layout.{ids_of, is_taken, graph_of, place_of, AreTaken}
use Rattle.plan_assembler.specs.Order.{places_of, by_stage}
use Rattle.plan_assembler.specs.Refusals.{NeedsPass}
use Rattle.plan_assembler.specs.Stages.{AreStages, stage_after}
use Rattle.plan_assembler.specs.declared.choice.Choice.{Choice}
use Rattle.plan_assembler.specs.declared.choice.Choice.TheVariants.{Event, Job, All}
use Rattle.plan_assembler.proofs.Cycles.{falls, further}
use Rattle.plan_assembler.proofs.Places.{known_graph, target_within}

-- what a job needs that was chosen was chosen too
abbrev AreClosed : Graph → List Bool → Type 0
AreClosed g marks = (j k : ℕ) → Needs g j k → get_or marks j false ≡ true → get_or marks k false ≡ true

-- a chosen job of the first stage
record IsFirst (g : Graph) (ss : List ℕ) (marks : List Bool) : Type 0 where
  pub job : ℕ
  pub within : job < length g
  pub staged : get_or ss job 0 ≡ 0
  pub marked : get_or marks job false ≡ true

first_case : (g : Graph) (ss : List ℕ) (marks : List Bool) (j : ℕ) (needs : List ℕ) → AreStages g ss → get_or g j [] ≡ needs → j < length g → get_or marks j false ≡ true
    → ((k : ℕ) → Needs g j k → IsFirst g ss marks) → IsFirst g ss marks
first_case g ss marks j [] h e w m more =
    let at : get_or ss j 0 ≡ stage_after (map (λ k. get_or ss k 0) (get_or g j [])) =
    ap (λ (l : List ℕ). get_or l j 0) h ∙ get_or-map (λ needs. stage_after (map (λ k. get_or ss k 0) needs)) g j [] in
    record { job = j; within = w; staged = at ∙ ap (λ (ns : List ℕ). stage_after (map (λ k. get_or ss k 0) ns)) e; marked = m }
first_case g ss marks j (n ∷ needs) h e w m more = more n (subst (λ (l : List ℕ). Contains l n) (sym e) (0, omega arith, refl))

find_first : (g : Graph) (ss : List ℕ) (marks : List Bool) → AreStages g ss → IsGraph g → AreClosed g marks → (fuel j : ℕ) → get_or ss j 0 ≤ fuel → j < length g → get_or marks j false ≡ true
    → IsFirst g ss marks
find_first g ss marks h graph closed zero j low w m = record { job = j; within = w; staged = omega (arith, low); marked = m }
find_first g ss marks h graph closed (suc fuel) j low w m =
    first_case g ss marks j (get_or g j []) h refl w m
    (λ k n. find_first g ss marks h graph closed fuel k (omega (arith, low, falls g ss j k h n)) (graph j k n) (closed j k n m))

-- ---- it stands in the order

more_case : (test : ℕ → Bool) (p : ℕ) (rest : List ℕ) (b c : Bool) → test p ≡ c → 0 < length (filter test rest) → 0 < length (filter test (cond b (p ∷ rest) rest))
more_case test p rest true true e h = rw e (omega arith)
more_case test p rest true false e h = rw e h
more_case test p rest false c e h = h

marked_place : (marks : List Bool) (stage p : ℕ) (ss : List ℕ) (j : ℕ) → j < length ss → get_or ss j 0 ≡ stage → get_or marks (p + j) false ≡ true
    → 0 < length (filter (λ k. get_or marks k false) (places_of stage p ss))
marked_place marks stage p [] j w e m = absurd (omega (arith, w))
marked_place marks stage p (s ∷ ss) zero w e m =
    let test : (s == stage) ≡ true = grind (arith, nat_tests) in
    let at : p ≡ p + 0 = omega arith in
    let mark : get_or marks p false ≡ true = ap (λ (k : ℕ). get_or marks k false) at ∙ m in
    rw (test, mark) (omega arith)
marked_place marks stage p (s ∷ ss) (suc j) w e m =
    let next : suc p + j ≡ p + suc j = omega arith in
    more_case (λ k. get_or marks k false) p (places_of stage (suc p) ss) (s == stage) (get_or marks p false) refl
    (marked_place marks stage (suc p) ss j (omega (arith, w)) e (ap (λ (k : ℕ). get_or marks k false) next ∙ m))

append_case : (test : ℕ → Bool) (x : ℕ) (xs ys : List ℕ) (b : Bool) → 0 < length (cond b (x ∷ filter test xs) (filter test xs)) → (0 < length (filter test xs) → 0 < length (filter test (xs ++ ys)))
    → 0 < length (cond b (x ∷ filter test (xs ++ ys)) (filter test (xs ++ ys)))
append_case test x xs ys true h more = omega arith
append_case test x xs ys false h more = more h

some_append : (test : ℕ → Bool) (xs ys : List ℕ) → 0 < length (filter test xs) → 0 < length (filter test (xs ++ ys))
some_append test [] ys h = absurd (omega (arith, h))
some_append test (x ∷ xs) ys h = append_case test x xs ys (test x) h (some_append test xs ys)

first_stands : (n : ℕ) (ss : List ℕ) (marks : List Bool) (j : ℕ) → 0 < n → j < length ss → get_or ss j 0 ≡ 0 → get_or marks j false ≡ true → 0 < length (filter (λ k. get_or marks k false) (by_stage n 0 ss))
first_stands zero ss marks j some w e m = absurd (omega (arith, some))
first_stands (suc n) ss marks j some w e m =
    let at : 0 + j ≡ j = omega arith in
    some_append (λ k. get_or marks k false) (places_of 0 0 ss) (by_stage n 1 ss) (marked_place marks 0 0 ss j w e (ap (λ (k : ℕ). get_or marks k false) at ∙ m))

-- ---- the jobs that are taken

all_marked : (jobs : List FlowJob) (k : ℕ) → k < length jobs → get_or (map (λ _. true) jobs) k false ≡ true
all_marked [] k w = absurd (omega (arith, w))
all_marked (job ∷ jobs) zero w = refl
all_marked (job ∷ jobs) (suc k) w = all_marked jobs k (omega (arith, w))

jobs_within : (jobs : List FlowJob) (k : ℕ) → k < length (graph_of jobs) → k < length jobs
jobs_within jobs k w = omega (arith, w, length-map jobs (λ (job : FlowJob). map (place_of (ids_of jobs)) job.needs))

within_jobs : (jobs : List FlowJob) (k : ℕ) → k < length jobs → k < length (graph_of jobs)
within_jobs jobs k w = omega (arith, w, length-map jobs (λ (job : FlowJob). map (place_of (ids_of jobs)) job.needs))

-- of all jobs each is marked
pub marked_all : (jobs : List FlowJob) (marks : List Bool) (k : ℕ) → marks ≡ map (λ _. true) jobs → k < length jobs → get_or marks k false ≡ true
marked_all jobs marks k e w = ap (λ (l : List Bool). get_or l k false) e ∙ all_marked jobs k w

chosen_next : (g : Graph) (target j k : ℕ) → Needs g j k → IsChosen g target j → IsChosen g target k
chosen_next g target j k n c = elim c [
  | inl e ↦ inr ([], subst (λ (i : ℕ). Needs g i k) e n)
  | inr by ↦ inr (by.0 ++ j ∷ [], further g target by.0 j k by.1 n)
]

-- what a job that is taken needs is taken too
pub taken_closed : (choice : Choice) (jobs : List FlowJob) (marks : List Bool) → AreTaken choice jobs marks → IsGraph (graph_of jobs) → AreClosed (graph_of jobs) marks
taken_closed (Event name) jobs marks a graph j k n m = marked_all jobs marks k a (jobs_within jobs k (graph j k n))
taken_closed (Job id) jobs marks a graph j k n m = (a.1 k).1 (chosen_next (graph_of jobs) (place_of (ids_of jobs) id) j k n ((a.1 j).0 m))
taken_closed All jobs marks a graph j k n m = marked_all jobs marks k a (jobs_within jobs k (graph j k n))

some_marked : (choice : Choice) (w : Workflow) (marks : List Bool) → is_taken choice w ≡ true → 1 ≤ length w.jobs → AreTaken choice w.jobs marks
    → (k : ℕ) × (k < length (graph_of w.jobs)) × (get_or marks k false ≡ true)
some_marked (Event name) w marks t some a = (0, within_jobs w.jobs 0 (omega (arith, some)), marked_all w.jobs marks 0 a (omega (arith, some)))
some_marked (Job id) w marks t some a =
    (place_of (ids_of w.jobs) id, target_within w.jobs id (place_of (ids_of w.jobs) id) t refl, (a.1 (place_of (ids_of w.jobs) id)).1 (inl refl))
some_marked All w marks t some a = (0, within_jobs w.jobs 0 (omega (arith, some)), marked_all w.jobs marks 0 a (omega (arith, some)))

-- a workflow that is taken has a job that is
pub some_job : (choice : Choice) (w : Workflow) (order : List ℕ) → is_taken choice w ≡ true → 1 ≤ length w.jobs → NeedsPass choice w.jobs order → 0 < length order
some_job choice w order t some p =
    let g : Graph = graph_of w.jobs in
    let ss : List ℕ = p.is_order.stages in
    let marks : List Bool = p.is_order.marks in
    let graph = known_graph w.jobs p.known in
    let start = some_marked choice w marks t some p.is_order.are_taken in
    let first = find_first g ss marks p.is_order.are_stages graph (taken_closed choice w.jobs marks p.is_order.are_taken graph) (get_or ss start.0 0) start.0 (omega arith) start.1 start.2 in
    let count : length ss ≡ length g = ap length p.is_order.are_stages ∙ length-map g _ in
    let within : first.job < length ss = omega (arith, first.within, count) in
    subst (λ (l : List ℕ). 0 < length l) (sym p.is_order.in_order) (first_stands (length ss) ss marks first.job (omega (arith, within)) within first.staged first.marked)
