-- The order in which legs ended.
use Rattle.std.specs.Prelude.{◌≡◌, ℕ, ◌==◌, Option, Some, None, slice_get, count_by, if◌then◌else◌}
use Rattle.plan_values.specs.Words.{Board, Leg, board_legs}
use Rattle.board_decisions.specs.Derived.{is_ended}

-- how often the number of a leg stands among the ends: once
-- where there is such a leg and it is Ended, and else not
abbrev pub times_ended : Option Leg → ℕ
times_ended None = 0
times_ended (Some leg) = if is_ended leg.state then 1 else 0

-- each leg that is Ended stands once among the ends, and no other number does
abbrev pub EndOnce : Board → Type 0
EndOnce b = (l : ℕ) → count_by (λ end. end == l) b.ends ≡ times_ended (slice_get (board_legs b) l)
