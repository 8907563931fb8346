-- Looking for a job that needs itself.
use Rattle.std.proofs.Common.{refl, ◌≡◌, ◌∙◌, ◌<◌, ◌||◌, ℕ, zero, suc, Bool, true, false, not, List, [], ◌∷◌, ◌++◌, length, get_or, nat_eq, replicate, set, Some, None, ap, sym, subst, arith}
use Rattle.std.proofs.lemmas.Bool.Decides.{nat_tests}
use Rattle.std.proofs.lemmas.Grind.{common_steps}
use Rattle.std.proofs.lemmas.List.Folds.{list_any-append}
use Rattle.std.specs.List.{Contains, count_by, list_any}
use Rattle.plan_assembler.proofs.Cycles.{further}
use Rattle.plan_assembler.specs.Graph.{Graph, Needs, NeedsBy, HasCycle}
use Rattle.flow_lint.specs.Walks.{behind, first_open, is_left}

-- Each job of a way needs the next, and the last of them this one.
abbrev pub Leads : Graph → List ℕ → ℕ → Type 0
Leads g [] place = Unit {0}
Leads g (first ∷ way) place = NeedsBy g first way place

-- A job does not need itself.
abbrev pub IsFree : Graph → ℕ → Type 0
IsFree g place = (ways : List ℕ) → NeedsBy g place ways place → ⊥

-- A way leads to a place. What was left does not need itself, and what else was seen is on the way or the place.
pub record IsWalk (g : Graph) (way : List ℕ) (place : ℕ) (seen left : List Bool) : Type 0 where
  pub leads : Leads g way place
  pub free : (other : ℕ) → is_left left other ≡ true → IsFree g other
  pub new : (other : ℕ) → is_left left other ≡ false → list_any (nat_eq other) (way ++ place ∷ []) ≡ false → is_left seen other ≡ false

-- ---- a way

further_on : (g : Graph) (way : List ℕ) (place next : ℕ) → Leads g way place → Needs g place next → Leads g (way ++ place ∷ []) next
further_on g [] place next h n = n
further_on g (first ∷ way) place next h n = further g first way place next h n

shorter : (g : Graph) (j : ℕ) (way : List ℕ) (k l : ℕ) → NeedsBy g j (way ++ k ∷ []) l → NeedsBy g j way k
shorter g j [] k l h = h.0
shorter g j (m ∷ way) k l h = (h.0, shorter g m way k l h.1)

back_on : (g : Graph) (way : List ℕ) (back place : ℕ) → Leads g (way ++ back ∷ []) place → Leads g way back
back_on g [] back place h = tt
back_on g (first ∷ way) back place h = shorter g first way back place h

from_place : (g : Graph) (j : ℕ) (way : List ℕ) (next k : ℕ) (ways : List ℕ) (b : Bool) → nat_eq next j ≡ b → NeedsBy g j way k
    → behind next (j ∷ way) ≡ Some ways → NeedsBy g next ways k
from_place g j way next k ways true e h is =
    let same : next ≡ j = grind (arith, nat_tests) in
    let whole : Some way ≡ Some ways = rw e at is in
    let all : way ≡ ways = cc in
    subst (λ (first : ℕ). NeedsBy g first ways k) (sym same) (subst (λ (rest : List ℕ). NeedsBy g j rest k) all h)
from_place g j [] next k ways false e h is = let none : None ≡ Some ways = rw e at is in absurd (cc)
from_place g j (m ∷ way) next k ways false e h is =
    let later : behind next (m ∷ way) ≡ Some ways = rw e at is in
    from_place g m way next k ways (nat_eq next m) refl h.1 later

-- a way that comes back to one of its places
pub closes : (g : Graph) (way : List ℕ) (place next : ℕ) (ways : List ℕ) → Leads g way place → Needs g place next
    → behind next (way ++ place ∷ []) ≡ Some ways → NeedsBy g next ways next
closes g [] place next ways h n is = from_place g place [] next next ways (nat_eq next place) refl n is
closes g (first ∷ way) place next ways h n is =
    from_place g first (way ++ place ∷ []) next next ways (nat_eq next first) refl (further g first way place next h n) is

absent_first : (next x : ℕ) (xs : List ℕ) (b : Bool) → nat_eq next x ≡ b → behind next (x ∷ xs) ≡ None → (behind next xs ≡ None → list_any (nat_eq next) xs ≡ false)
    → list_any (nat_eq next) (x ∷ xs) ≡ false
absent_first next x xs true e h more = let some : Some xs ≡ None = rw e at h in absurd (cc)
absent_first next x xs false e h more =
    let later : list_any (nat_eq next) xs ≡ false = more (rw e at h) in
    grind (arith, common_steps)

pub absent : (next : ℕ) (xs : List ℕ) → behind next xs ≡ None → list_any (nat_eq next) xs ≡ false
absent next [] h = refl
absent next (x ∷ xs) h = absent_first next x xs (nat_eq next x) refl h (absent next xs)

-- ---- what is needed and was not left

next_first : (left : List Bool) (k : ℕ) (ks : List ℕ) (next : ℕ) (b : Bool) → is_left left k ≡ b → first_open left (k ∷ ks) ≡ Some next
    → (first_open left ks ≡ Some next → Contains ks next × (is_left left next ≡ false))
    → Contains (k ∷ ks) next × (is_left left next ≡ false)
next_first left k ks next true e h more =
    let later = more (rw e at h) in
    ((suc later.0.0, omega (arith, later.0.1), later.0.2), later.1)
next_first left k ks next false e h more =
    let some : Some k ≡ Some next = rw e at h in
    let same : k ≡ next = cc in
    ((0, omega arith, same), subst (λ (n : ℕ). is_left left n ≡ false) same e)

pub next_is : (left : List Bool) (ks : List ℕ) (next : ℕ) → first_open left ks ≡ Some next → Contains ks next × (is_left left next ≡ false)
next_is left [] next h = absurd (cc)
next_is left (k ∷ ks) next h = next_first left k ks next (is_left left k) refl h (next_is left ks next)

left_at : (left : List Bool) (k : ℕ) (ks : List ℕ) (other i : ℕ) → is_left left k ≡ true → i < suc (length ks) → get_or (k ∷ ks) i other ≡ other
    → (Contains ks other → is_left left other ≡ true) → is_left left other ≡ true
left_at left k ks other zero e w is more = subst (λ (n : ℕ). is_left left n ≡ true) is e
left_at left k ks other (suc i) e w is more = more (i, omega arith, is)

left_first : (left : List Bool) (k : ℕ) (ks : List ℕ) (b : Bool) → is_left left k ≡ b → first_open left (k ∷ ks) ≡ None
    → (first_open left ks ≡ None → (other : ℕ) → Contains ks other → is_left left other ≡ true)
    → (other : ℕ) → Contains (k ∷ ks) other → is_left left other ≡ true
left_first left k ks true e h more other c = left_at left k ks other c.0 e c.1 c.2 (more (rw e at h) other)
left_first left k ks false e h more other c = let some : Some k ≡ None = rw e at h in absurd (cc)

all_left : (left : List Bool) (ks : List ℕ) → first_open left ks ≡ None → (other : ℕ) → Contains ks other → is_left left other ≡ true
all_left left [] h other c = absurd (omega (arith, c.1))
all_left left (k ∷ ks) h other c = left_first left k ks (is_left left k) refl h (all_left left ks) other c

-- what needs only what does not need itself does not
free_of : (g : Graph) (place : ℕ) (left : List Bool) → ((other : ℕ) → is_left left other ≡ true → IsFree g other)
    → ((other : ℕ) → Needs g place other → is_left left other ≡ true) → IsFree g place
free_of g place left free needs [] n = free place (needs place n) [] n
free_of g place left free needs (m ∷ ways) n = free m (needs m n.0) (ways ++ place ∷ []) (further g m ways place m n.1 n.0)

pub free_now : (g : Graph) (way : List ℕ) (place : ℕ) (seen left : List Bool) → IsWalk g way place seen left
    → first_open left (get_or g place []) ≡ None → IsFree g place
free_now g way place seen left h all = free_of g place left h.free (all_left left (get_or g place []) all)

-- ---- marks

marked : (marks : List Bool) (k : ℕ) → is_left (set marks k true) k ≡ true
marked [] k = refl
marked (b ∷ marks) zero = refl
marked (b ∷ marks) (suc k) = marked marks k

unmarked : (marks : List Bool) (k other : ℕ) → nat_eq other k ≡ false → is_left (set marks k true) other ≡ is_left marks other
unmarked [] k other e = refl
unmarked (b ∷ marks) zero zero e = absurd (cc)
unmarked (b ∷ marks) zero (suc other) e = refl
unmarked (b ∷ marks) (suc k) zero e = refl
unmarked (b ∷ marks) (suc k) (suc other) e = unmarked marks k other (grind (arith, nat_tests, e))

-- a mark more is a place less to be seen
pub fewer : (marks : List Bool) (k : ℕ) → is_left marks k ≡ false → suc (count_by not (set marks k true)) ≡ count_by not marks
fewer [] k h = absurd (cc)
fewer (false ∷ marks) zero h = grind (arith, common_steps)
fewer (true ∷ marks) zero h = absurd (cc)
fewer (false ∷ marks) (suc k) h = grind (arith, common_steps, fewer marks k h)
fewer (true ∷ marks) (suc k) h = grind (arith, common_steps, fewer marks k h)

-- ---- the walk

needs_within : (g : Graph) (j k : ℕ) → Needs g j k → is_left (replicate (length g) false) j ≡ false
needs_within [] j k n = absurd (omega (arith, n.1))
needs_within (r ∷ g) zero k n = refl
needs_within (r ∷ g) (suc j) k n = needs_within g j k n

by_within : (g : Graph) (j : ℕ) (ways : List ℕ) (k : ℕ) → NeedsBy g j ways k → is_left (replicate (length g) false) j ≡ false
by_within g j [] k n = needs_within g j k n
by_within g j (m ∷ ways) k n = needs_within g j m n.0

-- beyond all jobs nothing needs itself
beyond_free : (g : Graph) (other : ℕ) → is_left (replicate (length g) false) other ≡ true → IsFree g other
beyond_free g other e ways n = let within : is_left (replicate (length g) false) other ≡ false = by_within g other ways other n in absurd (cc)

pub begins : (g : Graph) → IsWalk g [] 0 (replicate (length g) false) (replicate (length g) false)
begins g = record {
  leads = tt;
  free = beyond_free g;
  new = λ other unleft fresh. unleft;
}

or_neither : (a b : Bool) → (a || (b || false)) ≡ false → (a ≡ false) × (b ≡ false)
or_neither true b h = absurd (cc)
or_neither false true h = absurd (cc)
or_neither false false h = (refl, refl)

none_before : (xs : List ℕ) (x other : ℕ) → list_any (nat_eq other) (xs ++ x ∷ []) ≡ false → (list_any (nat_eq other) xs ≡ false) × (nat_eq other x ≡ false)
none_before xs x other h = or_neither _ _ (sym (list_any-append (nat_eq other) xs (x ∷ [])) ∙ h)

pub onward : (g : Graph) (way : List ℕ) (place : ℕ) (seen left : List Bool) (next : ℕ) → IsWalk g way place seen left → Needs g place next
    → IsWalk g (way ++ place ∷ []) next (set seen next true) left
onward g way place seen left next h n = record {
  leads = further_on g way place next h.leads n;
  free = h.free;
  new = λ other unleft fresh. let neither = none_before (way ++ place ∷ []) next other fresh in unmarked seen next other neither.1 ∙ h.new other unleft neither.0;
}

-- a place that is left does not need itself
free_more : (g : Graph) (place other : ℕ) (left : List Bool) (b : Bool) → nat_eq other place ≡ b → IsFree g place
    → ((q : ℕ) → is_left left q ≡ true → IsFree g q) → is_left (set left place true) other ≡ true → IsFree g other
free_more g place other left true e f h is =
    let same : other ≡ place = grind (arith, nat_tests) in
    subst (λ (j : ℕ). IsFree g j) (sym same) f
free_more g place other left false e f h is = h other (sym (unmarked left place other e) ∙ is)

new_first : (g : Graph) (way : List ℕ) (place : ℕ) (seen left : List Bool) (other : ℕ) (b : Bool) → nat_eq other place ≡ b → IsWalk g way place seen left
    → is_left (set left place true) other ≡ false → list_any (nat_eq other) way ≡ false → is_left seen other ≡ false
new_first g way place seen left other true e h unleft fresh =
    let same : other ≡ place = grind (arith, nat_tests) in
    let is : is_left (set left place true) other ≡ true = subst (λ (j : ℕ). is_left (set left place true) j ≡ true) (sym same) (marked left place) in
    absurd (cc)
new_first g way place seen left other false e h unleft fresh =
    h.new other (sym (unmarked left place other e) ∙ unleft)
    (list_any-append (nat_eq other) way (place ∷ []) ∙ ap (λ (b : Bool). b || (nat_eq other place || false)) fresh ∙ ap (λ (b : Bool). b || false) e)

-- what was seen is on the way, once a place is left
pub new_now : (g : Graph) (way : List ℕ) (place : ℕ) (seen left : List Bool) (other : ℕ) → IsWalk g way place seen left
    → is_left (set left place true) other ≡ false → list_any (nat_eq other) way ≡ false → is_left seen other ≡ false
new_now g way place seen left other = new_first g way place seen left other (nat_eq other place) refl

pub backward : (g : Graph) (way : List ℕ) (back place : ℕ) (seen left : List Bool) → IsWalk g (way ++ back ∷ []) place seen left
    → IsFree g place → IsWalk g way back seen (set left place true)
backward g way back place seen left h f = record {
  leads = back_on g way back place h.leads;
  free = λ other. free_more g place other left (nat_eq other place) refl f h.free;
  new = λ other. new_now g (way ++ back ∷ []) place seen left other h;
}

pub again : (g : Graph) (place : ℕ) (seen left : List Bool) (next : ℕ) → IsWalk g [] place seen left → IsFree g place
    → IsWalk g [] next (set seen next true) (set left place true)
again g place seen left next h f = record {
  leads = tt;
  free = λ other. free_more g place other left (nat_eq other place) refl f h.free;
  new = λ other unleft fresh. unmarked seen next other (none_before [] next other fresh).1 ∙ new_now g [] place seen left other h unleft refl;
}

pub none_needs_itself : (g : Graph) (way : List ℕ) (place : ℕ) (seen left : List Bool) → IsWalk g way place seen left → IsFree g place
    → ((other : ℕ) → is_left (set left place true) other ≡ true) → HasCycle g → ⊥
none_needs_itself g way place seen left h f all c = free_more g place c.0 left (nat_eq c.0 place) refl f h.free (all c.0) c.1 c.2

-- ---- lengths

length_push : (xs : List ℕ) (x : ℕ) → length (xs ++ x ∷ []) ≡ suc (length xs)
length_push [] x = refl
length_push (y ∷ xs) x = ap suc (length_push xs x)

pub longer : (xs ys : List ℕ) (x : ℕ) → ys ≡ xs ++ x ∷ [] → length ys ≡ suc (length xs)
longer xs ys x is = ap length is ∙ length_push xs x

pub is_empty : (xs : List ℕ) → length xs ≡ 0 → xs ≡ []
is_empty [] h = refl
is_empty (x ∷ xs) h = absurd (omega (arith, h))
