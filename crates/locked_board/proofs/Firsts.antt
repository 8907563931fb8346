-- The first of a clerk's moves is an event of a clerk, and is accepted of any worker.
use Rattle.std.proofs.Common.{◌≡◌, ℕ, ◌≤◌, ◌++◌, Bool, true, false, List, [], ◌∷◌, map, filter, length, slice_get, Some, None, Err, if◌then◌else◌, refl, ap, sym, subst, ◌∙◌}
use Rattle.std.specs.List.{list_all}
use Rattle.std.proofs.lemmas.Bool.{le-leb}
use Rattle.std.proofs.lemmas.List.Folds.{list_all-append}
use Rattle.status_table.specs.Words.{Board, Event, Plan, Row, accepts, board_jobs, board_legs, clerk_events, event_row, is_accepted, moves, numbers, row}
use Rattle.board_decisions.proofs.Lists.{and-left, and-right, and-both}
use Rattle.locked_board.specs.Course.{IsPosted}
use Rattle.locked_board.specs.Fault.{Refuses}
use Rattle.locked_board.specs.declared.fault.PostFault.{PostFault}
use Rattle.status_table.specs.declared.fault.EventFault.{EventFault}

-- whether an event is one that a clerk reports
abbrev is_clerks : Event → Bool
is_clerks (Event.Open r) = true
is_clerks (Event.Judge j) = true
is_clerks (Event.Ask l) = true
is_clerks (Event.Drop l) = true
is_clerks (Event.Take l) = false
is_clerks (Event.Begin l) = false
is_clerks (Event.End l a) = false
is_clerks (Event.Finish l) = false
is_clerks (Event.Close r) = true
is_clerks (Event.Cancel r) = false

no_true : false ≡ true → ⊥
no_true h = cc

all_map : (f : ℕ → Event) → ((n : ℕ) → is_clerks (f n) ≡ true) → (ns : List ℕ) → list_all is_clerks (map f ns) ≡ true
all_map f h [] = refl
all_map f h (n ∷ ns) = and-both (is_clerks (f n)) (list_all is_clerks (map f ns)) (h n) (all_map f h ns)

all_append : (xs ys : List Event) → list_all is_clerks xs ≡ true → list_all is_clerks ys ≡ true → list_all is_clerks (xs ++ ys) ≡ true
all_append xs ys h k = list_all-append is_clerks xs ys ∙ and-both (list_all is_clerks xs) (list_all is_clerks ys) h k

all_clerks : (b : Board) → list_all is_clerks (clerk_events b) ≡ true
all_clerks b =
    let runs = numbers (length b.runs) in
    let jobs = numbers (length (board_jobs b)) in
    let legs = numbers (length (board_legs b)) in
    all_append (map Event.Close runs) _ (all_map Event.Close (λ n. refl) runs)
    (all_append (map Event.Open runs) _ (all_map Event.Open (λ n. refl) runs)
    (all_append (map Event.Judge jobs) _ (all_map Event.Judge (λ n. refl) jobs)
    (all_append (map Event.Drop legs) _ (all_map Event.Drop (λ n. refl) legs) (all_map Event.Ask (λ n. refl) legs))))

-- the first item that a filter leaves passes it, and what all items do
filter_first : (t q : Event → Bool) (xs : List Event) (e : Event) (rest : List Event) → list_all q xs ≡ true → filter t xs ≡ e ∷ rest
    → (t e ≡ true) × (q e ≡ true)
filter_first t q [] e rest all h = absurd (no h)
  where
    no : [] ≡ e ∷ rest → ⊥
    no h' = cc
filter_first t q (x ∷ xs) e rest all h = step (t x) refl (λ k. filter_first t q xs e rest (and-right (q x) (list_all q xs) all) k) h
  where
    first : (ys : List Event) → x ∷ ys ≡ e ∷ rest → x ≡ e
    first ys h' = cc

    step : (c : Bool) → t x ≡ c → (filter t xs ≡ e ∷ rest → (t e ≡ true) × (q e ≡ true))
        → (if c then x ∷ filter t xs else filter t xs) ≡ e ∷ rest → (t e ≡ true) × (q e ≡ true)
    step true is later k = (
      subst (λ (y : Event). t y ≡ true) (first (filter t xs) k) is,
      subst (λ (y : Event). q y ≡ true) (first (filter t xs) k) (and-left (q x) (list_all q xs) all),
    )
    step false is later k = later k

posted : (e : Event) → is_clerks e ≡ true → IsPosted e
posted (Event.Open r) h = tt
posted (Event.Judge j) h = tt
posted (Event.Ask l) h = tt
posted (Event.Drop l) h = tt
posted (Event.Take l) h = tt
posted (Event.Begin l) h = absurd (no_true h)
posted (Event.End l a) h = absurd (no_true h)
posted (Event.Finish l) h = tt
posted (Event.Close r) h = tt
posted (Event.Cancel r) h = tt

-- such an event does not ask who the worker is
of_any : (p : Plan) (b : Board) (w : ℕ) (e : Event) → is_clerks e ≡ true → event_row p b w e ≡ event_row p b 0 e
of_any p b w (Event.Open r) h = refl
of_any p b w (Event.Judge j) h = refl
of_any p b w (Event.Ask l) h = refl
of_any p b w (Event.Drop l) h = refl
of_any p b w (Event.Take l) h = absurd (no_true h)
of_any p b w (Event.Begin l) h = absurd (no_true h)
of_any p b w (Event.End l a) h = absurd (no_true h)
of_any p b w (Event.Finish l) h = absurd (no_true h)
of_any p b w (Event.Close r) h = refl
of_any p b w (Event.Cancel r) h = absurd (no_true h)

-- the first move may be posted
pub first_posted : (p : Plan) (b : Board) (e : Event) (rest : List Event) → moves p b ≡ e ∷ rest → IsPosted e
first_posted p b e rest h = posted e (filter_first (accepts p b) is_clerks (clerk_events b) e rest (all_clerks b) h).1

never : (r : Row) (f : PostFault) → is_accepted r ≡ true → Refuses r f → f ≡ PostFault.Memory
never r (PostFault.Event x) h refused = absurd (no_true (ap is_accepted (sym refused) ∙ h))
never r PostFault.Memory h refused = refl

-- it is refused of no worker
pub first_accepted : (p : Plan) (b : Board) (w : ℕ) (e : Event) (rest : List Event) (f : PostFault) → w ≤ 15 → moves p b ≡ e ∷ rest
    → Refuses (row p b w e) f → f ≡ PostFault.Memory
first_accepted p b w e rest f within h refused =
    let is = filter_first (accepts p b) is_clerks (clerk_events b) e rest (all_clerks b) h in
    let same : row p b w e ≡ row p b 0 e =
    ap (λ (t : Bool). if t then event_row p b w e else Err EventFault.NoSuch) (le-leb w 15 within) ∙ of_any p b w e is.1 in
    never (row p b w e) f (ap is_accepted same ∙ is.0) refused

-- the list whose first item is known
pub first_cons : {A : Type 0} (xs : List A) (x : A) → slice_get xs 0 ≡ Some x → (rest : List A) × (xs ≡ x ∷ rest)
first_cons [] x h = absurd (no h)
  where
    no : None ≡ Some x → ⊥
    no h' = cc
first_cons (y ∷ ys) x h = (ys, ap (λ z. z ∷ ys) (same h))
  where
    same : Some y ≡ Some x → y ≡ x
    same h' = cc

-- the list that has no first item
pub first_none : {A : Type 0} (xs : List A) → slice_get xs 0 ≡ None → xs ≡ []
first_none [] h = refl
first_none (y ∷ ys) h = absurd (cc)

pub first_move_posted : (p : Plan) (b : Board) (e : Event) → slice_get (moves p b) 0 ≡ Some e → IsPosted e
first_move_posted p b e h = let is = first_cons (moves p b) e h in first_posted p b e is.0 is.1

pub first_move_accepted : (p : Plan) (b : Board) (w : ℕ) (e : Event) (f : PostFault) → w ≤ 15 → slice_get (moves p b) 0 ≡ Some e
    → Refuses (row p b w e) f → f ≡ PostFault.Memory
first_move_accepted p b w e f within h refused = let is = first_cons (moves p b) e h in first_accepted p b w e is.0 f within is.1 refused
