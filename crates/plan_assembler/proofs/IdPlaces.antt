-- Places of ids that are looked up.
use Rattle.std.proofs.Common.{◌≡◌, ◌||◌, ◌+◌, ◌<◌, ◌≤◌, ℕ, suc, Bool, true, false, cond, nat_lt, List, [], ◌∷◌, map, length, drop, get_or, slice_index_or, Option, Some, None, is_some, unwrap_or, refl, ap, sym, ◌∙◌, arith}
use Rattle.std.proofs.lemmas.Bool.{ltb_from_iff}
use Rattle.std.proofs.lemmas.List.{drop_all, length-map}
use Rattle.std.proofs.lemmas.List.Elements.{All-map}
use Rattle.std.proofs.lemmas.Slice.Eq.{bytes_eq-Decides}
use Rattle.std.proofs.Math.Seq.{drop-cons}
use Rattle.std.specs.List.{All}
use Rattle.std.specs.Map.{update}
use Rattle.std.specs.Option.{option_or}
use Rattle.std.specs.Str.{bytes_eq}
use Rattle.flow_model.specs.declared.flow.FlowJob.{FlowJob}
use Rattle.plan_assembler.specs.Index.{first_place}
use Rattle.plan_assembler.specs.Layout.{ids_of, is_one_of, place_of}
use Rattle.plan_assembler.proofs.Places.{place_within}

-- ---- what an index has, as a function of ids

or_none : (o : Option ℕ) → option_or o None ≡ o
or_none None = refl
or_none (Some x) = refl

swapped : (a b : List ℕ) → bytes_eq a b ≡ bytes_eq b a
swapped a b = by (bytes_eq a b) (bytes_eq b a) refl refl
  where
    by : (x y : Bool) → bytes_eq a b ≡ x → bytes_eq b a ≡ y → x ≡ y
    by true true e f = refl
    by false false e f = refl
    by true false e f = sym ((bytes_eq-Decides b a).1 (sym ((bytes_eq-Decides a b).0 e))) ∙ f
    by false true e f = sym e ∙ (bytes_eq-Decides a b).1 (sym ((bytes_eq-Decides b a).0 f))

kept_case : (had : List ℕ → Option ℕ) (id other : List ℕ) (place : ℕ) (b : Bool) → bytes_eq other id ≡ b → is_some (had id) ≡ true
    → had other ≡ option_or (had other) (cond b (Some place) None)
kept_case had id other place true e h = rw ((bytes_eq-Decides other id).0 e) (by (had id) h)
  where
    by : (o : Option ℕ) → is_some o ≡ true → o ≡ option_or o (Some place)
    by None g = absurd (cc)
    by (Some x) g = refl
kept_case had id other place false e h = sym (or_none (had other))

-- an id that has a place keeps it
pub kept : (had : List ℕ → Option ℕ) (id : List ℕ) (place : ℕ) → is_some (had id) ≡ true → (other : List ℕ) → had other ≡ option_or (had other) (first_place place (id ∷ []) other)
kept had id place h other = kept_case had id other place (bytes_eq other id) refl h

set_case : (had : List ℕ → Option ℕ) (id other : List ℕ) (place : ℕ) (b : Bool) → bytes_eq other id ≡ b → is_some (had id) ≡ false
    → cond b (Some place) (had other) ≡ option_or (had other) (cond b (Some place) None)
set_case had id other place true e h = rw ((bytes_eq-Decides other id).0 e) (by (had id) h)
  where
    by : (o : Option ℕ) → is_some o ≡ false → Some place ≡ option_or o (Some place)
    by None g = refl
    by (Some x) g = absurd (cc)
set_case had id other place false e h = sym (or_none (had other))

-- an id that has none gets it
pub noted : (had has : List ℕ → Option ℕ) (id : List ℕ) (place : ℕ) → is_some (had id) ≡ false → ((other : List ℕ) → has other ≡ update bytes_eq had id (Some place) other)
    → (other : List ℕ) → has other ≡ option_or (had other) (first_place place (id ∷ []) other)
noted had has id place h e other =
    e other ∙ ap (λ b. cond b (Some place) (had other)) (swapped id other) ∙ set_case had id other place (bytes_eq other id) refl h

next_case : (o rest : Option ℕ) (place : ℕ) (b : Bool) → option_or (option_or o (cond b (Some place) None)) rest ≡ option_or o (cond b (Some place) rest)
next_case None rest place true = refl
next_case None rest place false = refl
next_case (Some x) rest place b = refl

-- what is looked up first in the index and then in the ids that are left stays the same
pub next_noted : (had has : List ℕ → Option ℕ) (id : List ℕ) (ids : List (List ℕ)) (place : ℕ)
    → ((other : List ℕ) → has other ≡ option_or (had other) (first_place place (id ∷ []) other))
    → (other : List ℕ) → option_or (has other) (first_place (suc place) ids other) ≡ option_or (had other) (first_place place (id ∷ ids) other)
next_noted had has id ids place e other =
    ap (λ o. option_or o (first_place (suc place) ids other)) (e other)
    ∙ next_case (had other) (first_place (suc place) ids other) place (bytes_eq other id)

-- what is looked up first in the index and then in the jobs that are left stays the same
pub next_job : (had has : List ℕ → Option ℕ) (jobs : List FlowJob) (job : FlowJob) (place after : ℕ) → after ≡ suc place → place < length jobs → job ≡ get_or jobs place job
    → ((other : List ℕ) → has other ≡ option_or (had other) (first_place place (job.id ∷ []) other))
    → ((other : List ℕ) → option_or (had other) (first_place place (ids_of (drop place jobs)) other) ≡ first_place 0 (ids_of jobs) other)
    → (other : List ℕ) → option_or (has other) (first_place after (ids_of (drop after jobs)) other) ≡ first_place 0 (ids_of jobs) other
next_job had has jobs job place after next within at e going other =
    let split : drop place jobs ≡ job ∷ drop (suc place) jobs =
    drop-cons jobs place job within ∙ ap (λ (j : FlowJob). j ∷ drop (suc place) jobs) (sym at) in
    rw next (next_noted had has job.id (ids_of (drop (suc place) jobs)) place e other
    ∙ ap (λ (js : List FlowJob). option_or (had other) (first_place place (ids_of js) other)) (sym split) ∙ going other)

-- when no job is left the index has all
pub all_noted : (has : List ℕ → Option ℕ) (jobs : List FlowJob) (place : ℕ) → length jobs ≤ place
    → ((other : List ℕ) → option_or (has other) (first_place place (ids_of (drop place jobs)) other) ≡ first_place 0 (ids_of jobs) other)
    → (other : List ℕ) → has other ≡ first_place 0 (ids_of jobs) other
all_noted has jobs place over going other =
    sym (or_none (has other)) ∙ ap (λ (js : List FlowJob). option_or (has other) (first_place place (ids_of js) other)) (sym (drop_all place jobs over)) ∙ going other

-- ---- what is looked up

found_case : (place n p : ℕ) (found : Option ℕ) (b : Bool) → unwrap_or found (suc place + n) ≡ suc place + p
    → unwrap_or (cond b (Some place) found) (place + suc n) ≡ place + cond b 0 (suc p)
found_case place n p found true later = omega arith
found_case place n p found false later =
    let more : place + suc n ≡ suc place + n = omega arith in
    ap (unwrap_or found) more ∙ later ∙ omega arith

place_found : (place : ℕ) (ids : List (List ℕ)) (id : List ℕ) → unwrap_or (first_place place ids id) (place + length ids) ≡ place + place_of ids id
place_found place [] id = refl
place_found place (other ∷ ids) id =
    found_case place (length ids) (place_of ids id) (first_place (suc place) ids id) (bytes_eq id other) (place_found (suc place) ids id)

-- the place that is found, or the length, is the place of the id
pub found_is_place : (ids : List (List ℕ)) (id : List ℕ) → unwrap_or (first_place 0 ids id) (length ids) ≡ place_of ids id
found_is_place ids id =
    let none : length ids ≡ 0 + length ids = omega arith in
    ap (unwrap_or (first_place 0 ids id)) none ∙ place_found 0 ids id ∙ omega arith

-- the place that is found among jobs, or how many they are
pub job_place : (jobs : List FlowJob) (id : List ℕ) (found : Option ℕ) (place : ℕ) → found ≡ first_place 0 (ids_of jobs) id → place ≡ unwrap_or found (length jobs) → place ≡ place_of (ids_of jobs) id
job_place jobs id found place e is =
    is ∙ rw e (ap (λ n. unwrap_or (first_place 0 (ids_of jobs) id) n) (sym (length-map jobs (λ (job : FlowJob). job.id))) ∙ found_is_place (ids_of jobs) id)

among_case : (place n : ℕ) (known b : Bool) → (place < n → known ≡ true) → cond b 0 (suc place) < suc n → (b || known) ≡ true
among_case place n known true later h = refl
among_case place n known false later h = later (omega (arith, h))

among : (ids : List (List ℕ)) (id : List ℕ) → place_of ids id < length ids → is_one_of ids id ≡ true
among [] id h = absurd (omega (arith, h))
among (other ∷ ids) id h = among_case (place_of ids id) (length ids) (is_one_of ids id) (bytes_eq id other) (among ids id) h

-- an id is one of these where its place is among theirs
pub place_among : (ids : List (List ℕ)) (id : List ℕ) → nat_lt (place_of ids id) (length ids) ≡ is_one_of ids id
place_among ids id = sym (ltb_from_iff (place_within ids id, among ids id))

most_case : (place n : ℕ) (b : Bool) → place ≤ n → cond b 0 (suc place) ≤ suc n
most_case place n true h = omega arith
most_case place n false h = omega (arith, h)

place_most : (ids : List (List ℕ)) (id : List ℕ) → place_of ids id ≤ length ids
place_most [] id = omega arith
place_most (other ∷ ids) id = most_case (place_of ids id) (length ids) (bytes_eq id other) (place_most ids id)

-- no place of an id is beyond the one after all jobs
pub places_bounded : (jobs : List FlowJob) (needs : List (List ℕ)) (places : List ℕ) → places ≡ map (place_of (ids_of jobs)) needs → All (λ place. place < length jobs + 1) places
places_bounded jobs needs places e =
    rw e (All-map (λ (place : ℕ). place < length jobs + 1) (place_of (ids_of jobs)) needs
    (λ k d h. omega (arith, place_most (ids_of jobs) (slice_index_or needs k d), length-map jobs (λ (job : FlowJob). job.id))))
