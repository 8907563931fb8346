-- The first of what a clerk may do is a clerk's event, which the table accepts.
use Rattle.std.proofs.Common.{◌≡◌, Bool, true, false, List, [], ◌∷◌, ◌++◌, Some, length, map, filter, cond, slice_get, refl, ◌∙◌}
use Rattle.std.specs.List.{list_all}
use Rattle.std.proofs.lemmas.List.Folds.{list_all-append}
use Rattle.status_table.specs.Words.{Board, Event, Plan, accepts, board_jobs, board_legs, clerk_events, is_accepted, moves, numbers, row}
use Rattle.board_decisions.proofs.Lists.{and-left, and-right, and-both}
use Rattle.status_table.proofs.Lists.{all-get, all-map}
use Rattle.worker_pool.proofs.Legs.{is_clerks}

-- what is let through passes the test, and whatever else all pass
passes : (s : Event → Bool) (es : List Event) → list_all s (filter s es) ≡ true
passes s [] = refl
passes s (e ∷ es) = by (passes s es) (s e) refl
  where
    by : list_all s (filter s es) ≡ true → (c : Bool) → s e ≡ c → list_all s (cond c (e ∷ filter s es) (filter s es)) ≡ true
    by later true is = and-both (s e) (list_all s (filter s es)) is later
    by later false is = later

still_all : (s t : Event → Bool) (es : List Event) → list_all t es ≡ true → list_all t (filter s es) ≡ true
still_all s t [] h = refl
still_all s t (e ∷ es) h = by (still_all s t es (and-right (t e) (list_all t es) h)) (s e)
  where
    by : list_all t (filter s es) ≡ true → (c : Bool) → list_all t (cond c (e ∷ filter s es) (filter s es)) ≡ true
    by later true = and-both (t e) (list_all t (filter s es)) (and-left (t e) (list_all t es) h) later
    by later false = later

both_all : (t : Event → Bool) (xs ys : List Event) → list_all t xs ≡ true → list_all t ys ≡ true → list_all t (xs ++ ys) ≡ true
both_all t xs ys first second = list_all-append t xs ys ∙ and-both (list_all t xs) (list_all t ys) first second

all_clerks : (b : Board) → list_all is_clerks (clerk_events b) ≡ true
all_clerks b =
    let closing = map Event.Close (numbers (length b.runs)) in
    let opening = map Event.Open (numbers (length b.runs)) in
    let judging = map Event.Judge (numbers (length (board_jobs b))) in
    let dropping = map Event.Drop (numbers (length (board_legs b))) in
    let asking = map Event.Ask (numbers (length (board_legs b))) in
    both_all is_clerks closing (opening ++ (judging ++ (dropping ++ asking))) (all-map is_clerks Event.Close (numbers (length b.runs)) (λ n. refl))
    (both_all is_clerks opening (judging ++ (dropping ++ asking)) (all-map is_clerks Event.Open (numbers (length b.runs)) (λ n. refl))
    (both_all is_clerks judging (dropping ++ asking) (all-map is_clerks Event.Judge (numbers (length (board_jobs b))) (λ n. refl))
    (both_all is_clerks dropping asking (all-map is_clerks Event.Drop (numbers (length (board_legs b))) (λ n. refl))
    (all-map is_clerks Event.Ask (numbers (length (board_legs b))) (λ n. refl)))))

pub first_is_clerks : (p : Plan) (b : Board) (e : Event) → slice_get (moves p b) 0 ≡ Some e → is_clerks e ≡ true
first_is_clerks p b e first = all-get is_clerks (moves p b) 0 e first (still_all (accepts p b) is_clerks (clerk_events b) (all_clerks b))

pub first_is_accepted : (p : Plan) (b : Board) (e : Event) → slice_get (moves p b) 0 ≡ Some e → is_accepted (row p b 0 e) ≡ true
first_is_accepted p b e first = all-get (accepts p b) (moves p b) 0 e first (passes (accepts p b) (clerk_events b))
