-- Ids that are those of jobs have places among them.
use Rattle.std.proofs.Common.{◌≡◌, ◌<◌, ℕ, zero, suc, Bool, true, false, List, [], ◌∷◌, map, length, get_or, refl, subst, arith}
use Rattle.std.proofs.lemmas.Grind.{common_steps}
use Rattle.std.proofs.lemmas.List.{length-map}
use Rattle.std.specs.List.{Contains, list_all}
use Rattle.std.specs.Str.{bytes_eq}
use Rattle.flow_model.specs.declared.flow.FlowJob.{FlowJob}
use Rattle.plan_assembler.specs.Graph.{IsGraph}
use Rattle.plan_assembler.specs.Layout.{ids_of, is_one_of, place_of, are_needs_known, graph_of}

place_case : (other : List ℕ) (ids : List (List ℕ)) (id : List ℕ) (b : Bool) → bytes_eq id other ≡ b → is_one_of (other ∷ ids) id ≡ true
    → (is_one_of ids id ≡ true → place_of ids id < length ids) → place_of (other ∷ ids) id < length (other ∷ ids)
place_case other ids id true e h more = rw e (omega arith)
place_case other ids id false e h more =
    let later : place_of ids id < length ids = more (grind (arith, common_steps)) in
    rw e (omega arith)

-- the place of an id is one of theirs
pub place_within : (ids : List (List ℕ)) (id : List ℕ) → is_one_of ids id ≡ true → place_of ids id < length ids
place_within [] id h = absurd (cc)
place_within (other ∷ ids) id h = place_case other ids id (bytes_eq id other) refl h (place_within ids id)

head_known : (ids : List (List ℕ)) (needs : List (List ℕ)) (need : List ℕ) → list_all (is_one_of ids) (need ∷ needs) ≡ true
    → (is_one_of ids need ≡ true) × (list_all (is_one_of ids) needs ≡ true)
head_known ids needs need h = (grind (arith, common_steps), grind (arith, common_steps))

places_case : (ids needs : List (List ℕ)) (need : List ℕ) (k i : ℕ) → i < length (map (place_of ids) (need ∷ needs)) → get_or (map (place_of ids) (need ∷ needs)) i k ≡ k
    → place_of ids need < length ids → (Contains (map (place_of ids) needs) k → k < length ids) → k < length ids
places_case ids needs need k zero w e here more = subst (λ n. n < length ids) e here
places_case ids needs need k (suc i) w e here more = more (i, omega arith, e)

places_within : (ids needs : List (List ℕ)) → list_all (is_one_of ids) needs ≡ true → (k : ℕ) → Contains (map (place_of ids) needs) k → k < length ids
places_within ids [] h k c = absurd (omega (arith, c.1))
places_within ids (need ∷ needs) h k c =
    let known = head_known ids needs need h in
    places_case ids needs need k c.0 c.1 c.2 (place_within ids need known.0) (places_within ids needs known.1 k)

needs_within : (ids : List (List ℕ)) (jobs : List FlowJob) → list_all (λ job. list_all (is_one_of ids) job.needs) jobs ≡ true
    → (j k : ℕ) → Contains (get_or (map (λ job. map (place_of ids) job.needs) jobs) j []) k → k < length ids
needs_within ids [] h j k c = absurd (omega (arith, c.1))
needs_within ids (job ∷ jobs) h zero k c =
    let first : list_all (is_one_of ids) job.needs ≡ true = grind (arith, common_steps) in
    places_within ids job.needs first k c
needs_within ids (job ∷ jobs) h (suc j) k c =
    let later : list_all (λ (job : FlowJob). list_all (is_one_of ids) job.needs) jobs ≡ true = grind (arith, common_steps) in
    needs_within ids jobs later j k c

-- where every need is a job, what the jobs need are places of theirs
pub known_graph : (jobs : List FlowJob) → are_needs_known jobs ≡ true → IsGraph (graph_of jobs)
known_graph jobs h j k c =
    let within : k < length (ids_of jobs) = needs_within (ids_of jobs) jobs h j k c in
    omega (arith, length-map jobs (λ (job : FlowJob). job.id), length-map jobs (λ (job : FlowJob). map (place_of (ids_of jobs)) job.needs))

-- the place of a job that is there
pub target_within : (jobs : List FlowJob) (id : List ℕ) (place : ℕ) → is_one_of (ids_of jobs) id ≡ true → place ≡ place_of (ids_of jobs) id → place < length (graph_of jobs)
target_within jobs id place h e =
    let within : place_of (ids_of jobs) id < length (ids_of jobs) = place_within (ids_of jobs) id h in
    omega (arith, length-map jobs (λ (job : FlowJob). job.id), length-map jobs (λ (job : FlowJob). map (place_of (ids_of jobs)) job.needs))
