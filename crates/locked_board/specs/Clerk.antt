-- What a clerk does: it posts the first of its moves.
use Rattle.std.specs.Prelude.{◌≡◌, ℕ, Bool, true, false, List, [], ◌∷◌, Result, Ok, Err}
use Rattle.std.specs.List.{list_any}
use Rattle.status_table.specs.Words.{Event, board_legs, finished, is_active, moves, stalled}
use Rattle.locked_board.specs.Course.{Course, Adds}
use Rattle.locked_board.specs.declared.clerk.Clerk.{Clerk}
use Rattle.locked_board.specs.declared.fault.PostFault.{PostFault}

-- an event is the first of some
abbrev pub IsFirst : Event → List Event → Type 0
IsFirst e es = (rest : List Event) × (es ≡ e ∷ rest)

-- some leg has a worker, or may be taken by one
abbrev pub any_active : Course → Bool
any_active c = list_any (λ leg. is_active leg.state) (board_legs c.board)

-- The first move is posted; where there is none nothing is changed, and all runs are Closed, or a leg is Admitted or
-- Running, or nothing can go on. Only memory may run out.
abbrev pub Clerks : Course → ℕ → Result Clerk PostFault → Course → Type 0
Clerks old worker (Ok (Clerk.Moved e reply)) new = IsFirst e (moves old.plan old.board) × Adds old worker e reply new
Clerks old worker (Ok Clerk.Done) new = (moves old.plan old.board ≡ []) × (finished old.board ≡ true) × (new ≡ old)
Clerks old worker (Ok Clerk.Idle) new =
    (moves old.plan old.board ≡ []) × (finished old.board ≡ false) × (any_active old ≡ true) × (new ≡ old)
Clerks old worker (Ok Clerk.Stalled) new = (stalled old.plan old.board ≡ true) × (new ≡ old)
Clerks old worker (Err f) new = (f ≡ PostFault.Memory) × (new ≡ old)
