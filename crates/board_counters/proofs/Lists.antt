-- Lists with one item changed: what is made of each item, and how many pass a test.
use Rattle.std.proofs.Common.{◌≡◌, ℕ, zero, suc, ◌+◌, ◌<◌, ◌≤◌, ◌||◌, Bool, true, false, List, [], ◌∷◌, ◌++◌, Some, None, length, map, drop, get_or, slice_get, slice_set, nat_lt, count_by, if◌then◌else◌, append_assoc, ap, sym, refl, ◌∙◌, arith, ◌==◌, not, zero-add}
use Rattle.board_counters.specs.Words.{Job, Run, changed, list_all, list_any, put, turned}
use Rattle.std.proofs.lemmas.Bool.Decides.{nat_tests}
use Rattle.std.proofs.lemmas.List.{drop_more}
use Rattle.std.proofs.lemmas.List.Folds.{sum_by-zero}
use Rattle.std.proofs.lemmas.List.Sums.{sum_by-cons, count_by-le-length}
use Rattle.status_table.proofs.Counts.{one, sum-changed}
use Rattle.status_table.proofs.Lists.{changed-cons, length-changed}
use Rattle.board_decisions.proofs.Lists.{same_some, no_some}

-- ---- what is made of each item

pub map-changed : {A B : Type 0} (g : A → B) (xs : List A) (i : ℕ) (f : A → A) (h : B → B) → ((x : A) → slice_get xs i ≡ Some x → g (f x) ≡ h (g x))
    → map g (changed xs i f) ≡ changed (map g xs) i h
map-changed g [] i f h step = refl
map-changed g (x ∷ xs) zero f h step = ap (λ y. y ∷ map g xs) (step x refl)
map-changed g (x ∷ xs) (suc i) f h step =
    ap (map g) (changed-cons x xs i f) ∙ ap (λ ys. g x ∷ ys) (map-changed g xs i f h step) ∙ sym (changed-cons (g x) (map g xs) i h)

pub map-same : {A B : Type 0} (g : A → B) (xs : List A) (i : ℕ) (f : A → A) → ((x : A) → slice_get xs i ≡ Some x → g (f x) ≡ g x) → map g (changed xs i f) ≡ map g xs
map-same g [] i f step = refl
map-same g (x ∷ xs) zero f step = ap (λ y. y ∷ map g xs) (step x refl)
map-same g (x ∷ xs) (suc i) f step = ap (map g) (changed-cons x xs i f) ∙ ap (λ ys. g x ∷ ys) (map-same g xs i f step)

-- what is made of the jobs of each run stays where one of these jobs is changed to one of which the same is made
pub jobs-kept : {A : Type 0} (g : Job → A) (runs : List Run) (r j : ℕ) (f : Job → Job) → ((job : Job) → g (f job) ≡ g job)
    → map (λ (run : Run). map g run.jobs) (changed runs r (λ run. record run { jobs = changed run.jobs j f })) ≡ map (λ (run : Run). map g run.jobs) runs
jobs-kept g runs r j f keeps = map-same (λ (run : Run). map g run.jobs) runs r (λ run. record run { jobs = changed run.jobs j f }) (λ run at. map-same g run.jobs j f (λ job there. keeps job))

pub map-twice : {A B C : Type 0} (f : A → B) (g : B → C) (h : A → C) (xs : List A) → ((x : A) → g (f x) ≡ h x) → map g (map f xs) ≡ map h xs
map-twice f g h [] step = refl
map-twice {A} {B} {C} f g h (x ∷ xs) step = ap (λ (y : C). y ∷ map g (map f xs)) (step x) ∙ ap (λ (ys : List C). h x ∷ ys) (map-twice f g h xs step)

-- what is made of one item more of those that are gone through
pub made-more : {A B : Type 0} (f : A → B) (xs : List A) (i : ℕ) (x : A) (y : B) (ys made : List B) → i < length xs → x ≡ get_or xs i x → y ≡ f x → made ≡ ys ++ y ∷ []
    → ys ++ map f (drop i xs) ≡ map f xs → made ++ map f (drop (i + 1) xs) ≡ map f xs
made-more {A} {B} f xs i x y ys made within is y_is made_is so_far =
    ap (λ (zs : List B). zs ++ map f (drop (i + 1) xs)) made_is
    ∙ append_assoc ys (y ∷ []) (map f (drop (i + 1) xs))
    ∙ ap (λ (z : B). ys ++ z ∷ map f (drop (i + 1) xs)) (y_is ∙ ap f is)
    ∙ ap (λ (zs : List A). ys ++ map f zs) (sym (drop_more xs i x within))
    ∙ so_far

-- where each item stays, nothing is changed
pub changed-same : {T : Type 0} (xs : List T) (i : ℕ) (f : T → T) → ((x : T) → f x ≡ x) → changed xs i f ≡ xs
changed-same [] i f same = refl
changed-same (x ∷ xs) zero f same = ap (λ y. y ∷ xs) (same x)
changed-same (x ∷ xs) (suc i) f same = changed-cons x xs i f ∙ ap (λ ys. x ∷ ys) (changed-same xs i f same)

-- where there is no item, nothing is changed
pub changed-none : {T : Type 0} (xs : List T) (i : ℕ) (f : T → T) → slice_get xs i ≡ None → changed xs i f ≡ xs
changed-none xs i f at = ap (put xs i f) at

-- ---- how many pass a test

-- a count that is one more, one less or the same
pub turned-by : (all n m : ℕ) (was is : Bool) → m + one was ≡ n + one is → m ≤ all → m ≡ turned all n was is
turned-by all n m false true sums below =
    let more : nat_lt n all ≡ true = grind (arith, nat_tests, sums, below) in
    let next : m ≡ suc n = omega (arith, sums) in
    next ∙ sym (ap (λ c. if c then suc n else n) more)
turned-by all n m true false sums below = omega (arith, sums)
turned-by all n m was is sums below = omega (arith, sums)

-- the count after an item was changed
pub count-changed : {T : Type 0} (t : T → Bool) (xs : List T) (i : ℕ) (f : T → T) (x : T) → slice_get xs i ≡ Some x
    → count_by t (changed xs i f) ≡ turned (length xs) (count_by t xs) (t x) (t (f x))
count-changed t xs i f x at =
    let most = count_by-le-length t (changed xs i f) in
    let size = length-changed xs i f in
    turned-by (length xs) (count_by t xs) (count_by t (changed xs i f)) (t x) (t (f x)) (sum-changed (λ y. one (t y)) xs i f x at) (omega (arith, most, size))

-- some item passes a test where one is counted
pub any_counted : {T : Type 0} (t : T → Bool) (xs : List T) → list_any t xs ≡ nat_lt 0 (count_by t xs)
any_counted t [] = refl
any_counted t (x ∷ xs) = ap (λ c. t x || c) (any_counted t xs) ∙ by (t x) ∙ ap (nat_lt 0) (sym (sum_by-cons (λ y. one (t y)) x xs))
  where
    by : (c : Bool) → (c || nat_lt 0 (count_by t xs)) ≡ nat_lt 0 (one c + count_by t xs)
    by true = let more : nat_lt 0 (one true + count_by t xs) ≡ true = grind (arith, nat_tests) in sym more
    by false = ap (nat_lt 0) (sym (zero-add (count_by t xs)))

-- all pass it where none is counted that does not
pub all-counted : {T : Type 0} (t : T → Bool) (xs : List T) → list_all t xs ≡ (count_by (λ x. not (t x)) xs == 0)
all-counted t xs = ap (λ u. list_all u xs) (λ i x. by (t x) i) ∙ sym (sum_by-zero (λ x. one (not (t x))) xs)
  where
    by : (c : Bool) → c ≡ (one (not c) == 0)
    by true = refl
    by false = refl

-- an item that is put in its own place again changes nothing
pub set_same : {T : Type 0} (xs : List T) (i : ℕ) (x y : T) → Some x ≡ slice_get xs i → y ≡ x → slice_set xs i y ≡ xs
set_same [] i x y at same = absurd (no_some x (sym at))
set_same (z ∷ xs) zero x y at same = ap (λ w. w ∷ xs) (same ∙ sym (same_some z x (sym at)))
set_same (z ∷ xs) (suc i) x y at same = ap (λ ys. z ∷ ys) (set_same xs i x y at same)
