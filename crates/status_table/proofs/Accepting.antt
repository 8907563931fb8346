-- Which of a clerk's events are accepted.
use Rattle.std.proofs.Common.{◌≡◌, ℕ, suc, ◌+◌, ◌++◌, Bool, true, false, List, [], ◌∷◌, Option, Result, Ok, Err, map, filter, cond, ap, sym, refl, ◌∙◌, arith, ◌≤◌, length, take, sum_by, append_assoc, append-nil}
use Rattle.std.specs.List.{flat_map}
use Rattle.std.proofs.lemmas.List.{map-append, length-append}
use Rattle.std.proofs.lemmas.List.Sums.{sum_by-cons, sum_by-append, sum_by-take-le}
use Rattle.status_table.specs.Words.{Board, Entrance, LegAt, ValueFault, board_jobs, board_legs, is_accepted, leg_enters, numbers, run_enters}

-- a run that enters is accepted
pub run_enters_accepted : (b : Board) (r : ℕ) (x : Result (Option Entrance) ValueFault) → is_accepted (run_enters b r x) ≡ true
run_enters_accepted b r (Ok group) = refl
run_enters_accepted b r (Err f) = refl

-- and so is a leg
pub leg_enters_accepted : (b : Board) (l : ℕ) (at : LegAt) (x : Result (Option Entrance) ValueFault) → is_accepted (leg_enters b l at x) ≡ true
leg_enters_accepted b l at (Ok group) = refl
leg_enters_accepted b l at (Err f) = refl

-- ---- one number more

filter_append : {A : Type 0} (t : A → Bool) (xs ys : List A) → filter t (xs ++ ys) ≡ filter t xs ++ filter t ys
filter_append t [] ys = refl
filter_append {A} t (x ∷ xs) ys = go (t x) (filter_append t xs ys)
  where
    go : (c : Bool) → filter t (xs ++ ys) ≡ filter t xs ++ filter t ys → cond c (x ∷ filter t (xs ++ ys)) (filter t (xs ++ ys)) ≡ cond c (x ∷ filter t xs) (filter t xs) ++ filter t ys
    go true h = ap (λ zs. x ∷ zs) h
    go false h = h

pub step : {A : Type 0} (t : A → Bool) (f : ℕ → A) (n : ℕ) → filter t (map f (numbers (n + 1))) ≡ filter t (map f (numbers n)) ++ filter t (f n ∷ [])
step t f n =
    let e : n + 1 ≡ suc n = omega arith in
    rw e (ap (filter t) (map-append f (numbers n) (n ∷ [])) ∙ filter_append t (map f (numbers n)) (f n ∷ []))

pub one_more : {A : Type 0} (t : A → Bool) (f : ℕ → A) (n : ℕ) (before : List A) → t (f n) ≡ true → before ++ filter t (map f (numbers (n + 1))) ≡ (before ++ filter t (map f (numbers n))) ++ f n ∷ []
one_more t f n before h = ap (λ zs. before ++ zs) (step t f n ∙ rw h refl) ∙ sym (append_assoc before (filter t (map f (numbers n))) (f n ∷ []))

pub none_more : {A : Type 0} (t : A → Bool) (f : ℕ → A) (n : ℕ) (before : List A) → t (f n) ≡ false → before ++ filter t (map f (numbers (n + 1))) ≡ before ++ filter t (map f (numbers n))
none_more t f n before h = ap (λ zs. before ++ zs) (step t f n ∙ rw h (append-nil (filter t (map f (numbers n)))))

after-more : {A : Type 0} (t : A → Bool) (before xs ys : List A) → before ++ filter t (xs ++ ys) ≡ (before ++ filter t xs) ++ filter t ys
after-more t before xs ys = ap (λ zs. before ++ zs) (filter_append t xs ys) ∙ sym (append_assoc before (filter t xs) (filter t ys))

-- five lists, one after the other
pub in_order : {A : Type 0} (t : A → Bool) (a b c d e : List A)
    → ((((filter t a ++ filter t b) ++ filter t c) ++ filter t d) ++ filter t e) ≡ filter t (a ++ (b ++ (c ++ (d ++ e))))
in_order t a b c d e =
    sym (after-more t [] a (b ++ (c ++ (d ++ e)))
    ∙ after-more t (filter t a) b (c ++ (d ++ e))
    ∙ after-more t (filter t a ++ filter t b) c (d ++ e)
    ∙ after-more t ((filter t a ++ filter t b) ++ filter t c) d e)

-- ---- counts

pub first_within : {A : Type 0} (f : A → ℕ) (xs : List A) (i : ℕ) → sum_by f (take i xs) ≤ sum_by f xs
first_within f xs i = sum_by-take-le f xs i

flat-length : {A B : Type 0} (g : A → List B) (xs : List A) → length (flat_map g xs) ≡ sum_by (λ x. length (g x)) xs
flat-length g [] = refl
flat-length g (x ∷ xs) =
    let both = length-append (g x) (flat_map g xs) in let sum = sum_by-cons (λ y. length (g y)) x xs in let later = flat-length g xs in omega (arith, both, sum, later)

flat-sum : {A B : Type 0} (g : A → List B) (w : B → ℕ) (xs : List A) → sum_by w (flat_map g xs) ≡ sum_by (λ x. sum_by w (g x)) xs
flat-sum g w [] = refl
flat-sum g w (x ∷ xs) =
    let both = sum_by-append w (g x) (flat_map g xs) in let sum = sum_by-cons (λ y. sum_by w (g y)) x xs in let later = flat-sum g w xs in omega (arith, both, sum, later)

pub jobs_counted : (b : Board) → length (board_jobs b) ≡ sum_by (λ run. length run.jobs) b.runs
jobs_counted b = flat-length (λ run. run.jobs) b.runs

pub legs_counted : (b : Board) → length (board_legs b) ≡ sum_by (λ run. sum_by (λ job. length job.legs) run.jobs) b.runs
legs_counted b = flat-length (λ job. job.legs) (board_jobs b) ∙ flat-sum (λ run. run.jobs) (λ job. length job.legs) b.runs
