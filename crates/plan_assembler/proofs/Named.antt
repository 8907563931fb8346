-- What jobs need, by their ids and by their places.
use Rattle.std.proofs.Common.{◌≡◌, ◌∙◌, ◌<◌, ◌&&◌, ◌||◌, inl, inr, ℕ, zero, suc, Bool, true, false, nat_cmp, List, [], ◌∷◌, map, length, get_or, Some, slice_get, refl, ap, sym, subst, arith}
use Rattle.std.proofs.lemmas.Grind.{common_steps}
use Rattle.std.proofs.lemmas.Slice.Eq.{bytes_eq-Decides}
use Rattle.std.specs.Cmp.Lexicographic.{slice_cmp}
use Rattle.std.specs.List.{Contains, list_all}
use Rattle.std.specs.List.Sorted.{IsStrictlySortedBy}
use Rattle.std.specs.Str.{bytes_eq}
use Rattle.flow_model.specs.declared.flow.FlowJob.{FlowJob}
use Rattle.flow_model.proofs.Places.{same_Some}
use Rattle.flow_model.proofs.Tests.{both}
use Rattle.plan_assembler.specs.Chosen.{IsChosen}
use Rattle.plan_assembler.specs.Graph.{Needs, NeedsBy}
use Rattle.plan_assembler.specs.Layout.{ids_of, is_one_of, place_of, are_needs_known, graph_of}
use Rattle.plan_assembler.specs.Needed.{names_need, NamesBy, IsNeeded}
use Rattle.plan_assembler.proofs.LegsAlone.{one_place, needs_at}

-- ---- texts

pub same_text : (a b : List ℕ) → a ≡ b → bytes_eq a b ≡ true
same_text a b e = (bytes_eq-Decides a b).1 e

pub same_bytes : (a b : List ℕ) → bytes_eq a b ≡ true → a ≡ b
same_bytes a b e = (bytes_eq-Decides a b).0 e

pub or_later : (a b : Bool) → b ≡ true → (a || b) ≡ true
or_later true b h = refl
or_later false b h = h

-- ---- the job of an id

listed : (jobs : List FlowJob) (p : ℕ) (job : FlowJob) → slice_get jobs p ≡ Some job → is_one_of (ids_of jobs) job.id ≡ true
listed [] p job e = absurd (cc)
listed (j ∷ jobs) zero job e = let same : bytes_eq job.id j.id ≡ true = same_text job.id j.id (ap (λ (x : FlowJob). x.id) (sym (same_Some e))) in rw same refl
listed (j ∷ jobs) (suc p) job e = or_later (bytes_eq job.id j.id) (is_one_of (ids_of jobs) job.id) (listed jobs p job e)

job_case : (j : FlowJob) (jobs : List FlowJob) (id : List ℕ) (b : Bool) → bytes_eq id j.id ≡ b → is_one_of (ids_of (j ∷ jobs)) id ≡ true
    → (is_one_of (ids_of jobs) id ≡ true → (job : FlowJob) × (slice_get jobs (place_of (ids_of jobs) id) ≡ Some job) × (job.id ≡ id))
    → (job : FlowJob) × (slice_get (j ∷ jobs) (place_of (ids_of (j ∷ jobs)) id) ≡ Some job) × (job.id ≡ id)
job_case j jobs id true e h more = rw e (j, refl, sym (same_bytes id j.id e))
job_case j jobs id false e h more =
    let there = more (grind (arith, common_steps)) in
    rw e (there.0, there.1, there.2)

-- an id that is one of theirs is that of the job at its place
pub job_at : (jobs : List FlowJob) (id : List ℕ) → is_one_of (ids_of jobs) id ≡ true → (job : FlowJob) × (slice_get jobs (place_of (ids_of jobs) id) ≡ Some job) × (job.id ≡ id)
job_at [] id h = absurd (cc)
job_at (j ∷ jobs) id h = job_case j jobs id (bytes_eq id j.id) refl h (job_at jobs id)

-- a job stands at the place of its id
pub place_is : (jobs : List FlowJob) → IsStrictlySortedBy (slice_cmp nat_cmp) (ids_of jobs) → (p : ℕ) (job : FlowJob) → slice_get jobs p ≡ Some job → place_of (ids_of jobs) job.id ≡ p
place_is jobs s p job e =
    let there = job_at jobs job.id (listed jobs p job e) in
    one_place jobs s (place_of (ids_of jobs) job.id) p there.0 job there.1 e there.2

-- ---- the needs of a job

-- a job that names a need
record Names (jobs : List FlowJob) (id other : List ℕ) : Type 0 where
  pub place : ℕ
  pub job : FlowJob
  pub at : slice_get jobs place ≡ Some job
  pub is : job.id ≡ id
  pub need : is_one_of job.needs other ≡ true

named_case : (j : FlowJob) (jobs : List FlowJob) (id other : List ℕ) (b : Bool) → (bytes_eq j.id id && is_one_of j.needs other) ≡ b → names_need (j ∷ jobs) id other ≡ true
    → (names_need jobs id other ≡ true → Names jobs id other) → Names (j ∷ jobs) id other
named_case j jobs id other true e h more =
    let a = both (bytes_eq j.id id) (is_one_of j.needs other) e in
    record { place = 0; job = j; at = refl; is = same_bytes j.id id a.0; need = a.1 }
named_case j jobs id other false e h more =
    let there = more (grind (arith, common_steps)) in
    record { place = suc there.place; job = there.job; at = there.at; is = there.is; need = there.need }

named_job : (jobs : List FlowJob) (id other : List ℕ) → names_need jobs id other ≡ true → Names jobs id other
named_job [] id other h = absurd (cc)
named_job (j ∷ jobs) id other h = named_case j jobs id other (bytes_eq j.id id && is_one_of j.needs other) refl h (named_job jobs id other)

names_it : (jobs : List FlowJob) (p : ℕ) (job : FlowJob) (other : List ℕ) → slice_get jobs p ≡ Some job → is_one_of job.needs other ≡ true → names_need jobs job.id other ≡ true
names_it [] p job other e h = absurd (cc)
names_it (j ∷ jobs) zero job other e h =
    let same : bytes_eq j.id job.id ≡ true = same_text j.id job.id (ap (λ (x : FlowJob). x.id) (same_Some e)) in
    let need : is_one_of j.needs other ≡ true = ap (λ (x : FlowJob). is_one_of x.needs other) (same_Some e) ∙ h in
    rw (same, need) refl
names_it (j ∷ jobs) (suc p) job other e h = or_later (bytes_eq j.id job.id && is_one_of j.needs other) (names_need jobs job.id other) (names_it jobs p job other e h)

known_case : (ids needs : List (List ℕ)) (n id : List ℕ) (b : Bool) → bytes_eq id n ≡ b → list_all (is_one_of ids) (n ∷ needs) ≡ true → is_one_of (n ∷ needs) id ≡ true
    → (list_all (is_one_of ids) needs ≡ true → is_one_of needs id ≡ true → is_one_of ids id ≡ true) → is_one_of ids id ≡ true
known_case ids needs n id true e k h more =
    let first : is_one_of ids n ≡ true = grind (arith, common_steps) in
    ap (is_one_of ids) (same_bytes id n e) ∙ first
known_case ids needs n id false e k h more = more (grind (arith, common_steps)) (grind (arith, common_steps))

each_known : (ids needs : List (List ℕ)) (id : List ℕ) → list_all (is_one_of ids) needs ≡ true → is_one_of needs id ≡ true → is_one_of ids id ≡ true
each_known ids [] id k h = absurd (cc)
each_known ids (n ∷ needs) id k h = known_case ids needs n id (bytes_eq id n) refl k h (each_known ids needs id)

known_in : (ids : List (List ℕ)) (jobs : List FlowJob) (p : ℕ) (job : FlowJob) (id : List ℕ) → list_all (λ j. list_all (is_one_of ids) j.needs) jobs ≡ true → slice_get jobs p ≡ Some job
    → is_one_of job.needs id ≡ true → is_one_of ids id ≡ true
known_in ids [] p job id k e h = absurd (cc)
known_in ids (j ∷ jobs) zero job id k e h =
    let first : list_all (is_one_of ids) j.needs ≡ true = grind (arith, common_steps) in
    each_known ids j.needs id first (ap (λ (x : FlowJob). is_one_of x.needs id) (same_Some e) ∙ h)
known_in ids (j ∷ jobs) (suc p) job id k e h =
    let later : list_all (λ (x : FlowJob). list_all (is_one_of ids) x.needs) jobs ≡ true = grind (arith, common_steps) in
    known_in ids jobs p job id later e h

-- what a job names is the id of a job
pub known_need : (jobs : List FlowJob) (p : ℕ) (job : FlowJob) (id : List ℕ) → are_needs_known jobs ≡ true → slice_get jobs p ≡ Some job → is_one_of job.needs id ≡ true → is_one_of (ids_of jobs) id ≡ true
known_need jobs p job id k e h = known_in (ids_of jobs) jobs p job id k e h

mapped_case : (f : List ℕ → ℕ) (n : List ℕ) (needs : List (List ℕ)) (other : List ℕ) (b : Bool) → bytes_eq other n ≡ b → is_one_of (n ∷ needs) other ≡ true
    → (is_one_of needs other ≡ true → Contains (map f needs) (f other)) → Contains (map f (n ∷ needs)) (f other)
mapped_case f n needs other true e h more = (0, omega arith, ap f (sym (same_bytes other n e)))
mapped_case f n needs other false e h more =
    let later = more (grind (arith, common_steps)) in
    (suc later.0, omega (arith, later.1), later.2)

pub mapped : (f : List ℕ → ℕ) (needs : List (List ℕ)) (other : List ℕ) → is_one_of needs other ≡ true → Contains (map f needs) (f other)
mapped f [] other h = absurd (cc)
mapped f (n ∷ needs) other h = mapped_case f n needs other (bytes_eq other n) refl h (mapped f needs other)

-- a place that stands among those of needs is that of one of them
pub record Unmapped (f : List ℕ → ℕ) (needs : List (List ℕ)) (k : ℕ) : Type 0 where
  pub need : List ℕ
  pub among : is_one_of needs need ≡ true
  pub is : f need ≡ k

unmapped_at : (f : List ℕ → ℕ) (needs : List (List ℕ)) (k i : ℕ) → i < length (map f needs) → get_or (map f needs) i k ≡ k → Unmapped f needs k
unmapped_at f [] k i w e = absurd (omega (arith, w))
unmapped_at f (n ∷ needs) k zero w e = let same : bytes_eq n n ≡ true = same_text n n refl in record { need = n; among = rw same refl; is = e }
unmapped_at f (n ∷ needs) k (suc i) w e =
    let later = unmapped_at f needs k i (omega (arith, w)) e in
    record { need = later.need; among = or_later (bytes_eq later.need n) (is_one_of needs later.need) later.among; is = later.is }

pub unmapped : (f : List ℕ → ℕ) (needs : List (List ℕ)) (k : ℕ) → Contains (map f needs) k → Unmapped f needs k
unmapped f needs k c = unmapped_at f needs k c.0 c.1 c.2

by_place : (jobs : List FlowJob) (id other : List ℕ) → IsStrictlySortedBy (slice_cmp nat_cmp) (ids_of jobs) → names_need jobs id other ≡ true
    → Needs (graph_of jobs) (place_of (ids_of jobs) id) (place_of (ids_of jobs) other)
by_place jobs id other s h =
    let ids : List (List ℕ) = ids_of jobs in
    let n = named_job jobs id other h in
    let at : place_of ids id ≡ n.place = ap (place_of ids) (sym n.is) ∙ place_is jobs s n.place n.job n.at in
    let needs : get_or (graph_of jobs) (place_of ids id) [] ≡ map (place_of ids) n.job.needs = ap (λ (p : ℕ). get_or (graph_of jobs) p []) at ∙ needs_at ids jobs n.place n.job n.at in
    subst (λ (l : List ℕ). Contains l (place_of ids other)) (sym needs) (mapped (place_of ids) n.job.needs other n.need)

-- the job at a place, which another one names
record NamedAt (jobs : List FlowJob) (id : List ℕ) (k : ℕ) : Type 0 where
  pub job : FlowJob
  pub at : slice_get jobs k ≡ Some job
  pub named : names_need jobs id job.id ≡ true

by_id : (jobs : List FlowJob) (p k : ℕ) (job : FlowJob) → are_needs_known jobs ≡ true → slice_get jobs p ≡ Some job → Needs (graph_of jobs) p k → NamedAt jobs job.id k
by_id jobs p k job known at n =
    let ids : List (List ℕ) = ids_of jobs in
    let u = unmapped (place_of ids) job.needs k (subst (λ (l : List ℕ). Contains l k) (needs_at ids jobs p job at) n) in
    let there = job_at jobs u.need (known_need jobs p job u.need known at u.among) in
    record {
      job = there.0;
      at = subst (λ (i : ℕ). slice_get jobs i ≡ Some there.0) u.is there.1;
      named = names_it jobs p job there.0.id at (ap (is_one_of job.needs) there.2 ∙ u.among);
    }

-- ---- needs of needs

way_by_place : (jobs : List FlowJob) (id : List ℕ) (ids : List (List ℕ)) (other : List ℕ) → IsStrictlySortedBy (slice_cmp nat_cmp) (ids_of jobs) → NamesBy jobs id ids other
    → (ms : List ℕ) × NeedsBy (graph_of jobs) (place_of (ids_of jobs) id) ms (place_of (ids_of jobs) other)
way_by_place jobs id [] other s n = ([], by_place jobs id other s n)
way_by_place jobs id (via ∷ ids) other s n =
    let rest = way_by_place jobs via ids other s n.1 in
    (place_of (ids_of jobs) via ∷ rest.0, (by_place jobs id via s n.0, rest.1))

record WayTo (jobs : List FlowJob) (id : List ℕ) (k : ℕ) : Type 0 where
  pub job : FlowJob
  pub at : slice_get jobs k ≡ Some job
  pub ids : List (List ℕ)
  pub way : NamesBy jobs id ids job.id

way_by_id : (jobs : List FlowJob) (p : ℕ) (ms : List ℕ) (k : ℕ) (job : FlowJob) → are_needs_known jobs ≡ true → slice_get jobs p ≡ Some job → NeedsBy (graph_of jobs) p ms k → WayTo jobs job.id k
way_by_id jobs p [] k job known at n =
    let next = by_id jobs p k job known at n in
    record { job = next.job; at = next.at; ids = []; way = next.named }
way_by_id jobs p (m ∷ ms) k job known at n =
    let next = by_id jobs p m job known at n.0 in
    let rest = way_by_id jobs m ms k next.job known next.at n.1 in
    record { job = rest.job; at = rest.at; ids = next.job.id ∷ rest.ids; way = (next.named, rest.way) }

-- what is needed in the end is the id of a job
end_known : (jobs : List FlowJob) (id : List ℕ) (ids : List (List ℕ)) (other : List ℕ) → are_needs_known jobs ≡ true → NamesBy jobs id ids other → is_one_of (ids_of jobs) other ≡ true
end_known jobs id [] other known n = let m = named_job jobs id other n in known_need jobs m.place m.job other known m.at m.need
end_known jobs id (via ∷ ids) other known n = end_known jobs via ids other known n.1

-- ---- what is chosen

pub needed_from_chosen : (jobs : List FlowJob) (target j : ℕ) (first job : FlowJob) → are_needs_known jobs ≡ true → slice_get jobs target ≡ Some first → slice_get jobs j ≡ Some job
    → IsChosen (graph_of jobs) target j → IsNeeded jobs first.id job.id
needed_from_chosen jobs target j first job known f at c = elim c [
  | inl e ↦ inl (ap (λ (x : FlowJob). x.id) (same_Some (sym f ∙ ap (slice_get jobs) (sym e) ∙ at)))
  | inr by ↦
      let way = way_by_id jobs target by.0 j first known f by.1 in
      inr (way.ids, subst (λ (x : FlowJob). NamesBy jobs first.id way.ids x.id) (same_Some (sym way.at ∙ at)) way.way)
]

pub chosen_from_needed : (jobs : List FlowJob) (id other : List ℕ) → IsStrictlySortedBy (slice_cmp nat_cmp) (ids_of jobs) → IsNeeded jobs id other
    → IsChosen (graph_of jobs) (place_of (ids_of jobs) id) (place_of (ids_of jobs) other)
chosen_from_needed jobs id other s c = elim c [
  | inl e ↦ inl (ap (place_of (ids_of jobs)) (sym e))
  | inr by ↦ inr (way_by_place jobs id by.0 other s by.1)
]

pub needed_known : (jobs : List FlowJob) (id other : List ℕ) → are_needs_known jobs ≡ true → is_one_of (ids_of jobs) id ≡ true → IsNeeded jobs id other → is_one_of (ids_of jobs) other ≡ true
needed_known jobs id other known h c = elim c [
  | inl e ↦ subst (λ (x : List ℕ). is_one_of (ids_of jobs) x ≡ true) e h
  | inr by ↦ end_known jobs id by.0 other known by.1
]
