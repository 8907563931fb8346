-- The first of the clerk's events that are accepted.
use Rattle.std.proofs.Common.{◌≡◌, ℕ, zero, suc, ◌+◌, ◌-◌, ◌<◌, ◌++◌, Bool, true, false, List, [], ◌∷◌, Some, None, length, map, filter, slice_get, ap, sym, refl, subst, ◌∙◌, arith}
use Rattle.flat_board.specs.Words.{Board, Event, MoveKind, board_jobs, board_legs, clerk_events, events_of, numbers}
use Rattle.status_table.proofs.Accepting.{in_order, none_more, one_more, step}

-- what is first stays so whatever comes after it
pub first_stays : {A : Type 0} (xs ys : List A) (x : A) → Some x ≡ slice_get xs 0 → Some x ≡ slice_get (xs ++ ys) 0
first_stays [] ys x e = cc
first_stays (z ∷ xs) ys x e = e

-- where there is none the first is that of what comes after
pub first_later : {A : Type 0} (xs ys : List A) → None ≡ slice_get xs 0 → slice_get (xs ++ ys) 0 ≡ slice_get ys 0
first_later [] ys e = refl
first_later (x ∷ xs) ys e = cc

-- none of one number more
pub none_yet : {A : Type 0} (t : A → Bool) (f : ℕ → A) (n : ℕ) → filter t (map f (numbers n)) ≡ [] → t (f n) ≡ false → filter t (map f (numbers (n + 1))) ≡ []
none_yet t f n none h = none_more t f n [] h ∙ none

-- the first that is accepted, of so many numbers more
of_more : {A : Type 0} (t : A → Bool) (f : ℕ → A) (n d : ℕ) → filter t (map f (numbers n)) ≡ [] → t (f n) ≡ true
    → Some (f n) ≡ slice_get (filter t (map f (numbers (d + (n + 1))))) 0
of_more {A} t f n zero none holds =
    let e : zero + (n + 1) ≡ n + 1 = omega arith in
    rw e (sym (ap (λ (xs : List A). slice_get xs 0) (one_more t f n [] holds ∙ ap (λ (xs : List A). xs ++ f n ∷ []) none)))
of_more {A} t f n (suc d) none holds =
    let e : suc d + (n + 1) ≡ (d + (n + 1)) + 1 = omega arith in
    rw e (first_stays (filter t (map f (numbers (d + (n + 1))))) (filter t (f (d + (n + 1)) ∷ [])) (f n) (of_more t f n d none holds)
    ∙ sym (ap (λ (xs : List A). slice_get xs 0) (step t f (d + (n + 1)))))

-- It is the first of all below a count.
pub first_there : {A : Type 0} (t : A → Bool) (f : ℕ → A) (n count : ℕ) → n < count → filter t (map f (numbers n)) ≡ [] → t (f n) ≡ true
    → Some (f n) ≡ slice_get (filter t (map f (numbers count))) 0
first_there t f n count below none holds =
    let e : (count - (n + 1)) + (n + 1) ≡ count = omega (arith, below) in
    subst (λ (c : ℕ). Some (f n) ≡ slice_get (filter t (map f (numbers c))) 0) e (of_more t f n (count - (n + 1)) none holds)

-- The clerk's events that are accepted, kind by kind, where the counts are those of a board.
pub kind_by_kind : (t : Event → Bool) (b : Board) (n j l : ℕ) → n ≡ length b.runs → j ≡ length (board_jobs b) → l ≡ length (board_legs b)
    → (((filter t (events_of MoveKind.Close n) ++ filter t (events_of MoveKind.Open n)) ++ filter t (events_of MoveKind.Judge j)) ++ filter t (events_of MoveKind.Drop l)) ++ filter t (events_of MoveKind.Ask l)
    ≡ filter t (clerk_events b)
kind_by_kind t b n j l n_is j_is l_is =
    in_order t (events_of MoveKind.Close n) (events_of MoveKind.Open n) (events_of MoveKind.Judge j) (events_of MoveKind.Drop l) (events_of MoveKind.Ask l)
    ∙ ap (filter t) (λ i. events_of MoveKind.Close (n_is i) ++ (events_of MoveKind.Open (n_is i) ++ (events_of MoveKind.Judge (j_is i) ++ (events_of MoveKind.Drop (l_is i) ++ events_of MoveKind.Ask (l_is i)))))

-- and none where some more are refused
pub none_through : {A : Type 0} (t : A → Bool) (f : ℕ → A) (n d : ℕ) → filter t (map f (numbers n)) ≡ [] → ((i : ℕ) → i < d → t (f (n + i)) ≡ false)
    → filter t (map f (numbers (n + d))) ≡ []
none_through t f n zero none all = let e : n + zero ≡ n = omega arith in rw e none
none_through t f n (suc d) none all =
    let e : n + suc d ≡ (n + d) + 1 = omega arith in
    rw e (none_yet t f (n + d) (none_through t f n d none (λ i below. all i (omega (arith, below)))) (all d (omega arith)))
