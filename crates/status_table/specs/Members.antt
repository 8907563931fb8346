-- How the members of groups stand to one another on a board in play.
use Rattle.std.specs.Prelude.{ℕ, ◌+◌, ◌≤◌, Bool, true, false, List, Option, Some, None, count_by}
use Rattle.plan_values.specs.Words.{Board, LegState, board_legs}
use Rattle.status_table.specs.Groups.{Standing, run_standing, leg_standing, holds_name, waits_name, is_named}

-- how many runs and legs stand as a test says
abbrev pub count_members : (Standing → Bool) → Board → ℕ
count_members test b =
    count_by (λ run. test (run_standing run)) b.runs
    + count_by (λ leg. test (leg_standing leg)) (board_legs b)

-- how many hold a name
abbrev pub holders : Board → List ℕ → ℕ
holders b name = count_members (holds_name name) b

-- how many wait for it
abbrev pub waiters : Board → List ℕ → ℕ
waiters b name = count_members (waits_name name) b

-- A name has at most one holder, and no more waiters than
-- holders: so at most one, and none where nobody holds it.
pub record OneHolder (b : Board) : Type 0 where
  pub holder : (name : List ℕ) → holders b name ≤ 1
  pub waiter : (name : List ℕ) → waiters b name ≤ holders b name

-- a leg that waits for a group
abbrev pub is_waiting : LegState → Bool
is_waiting LegState.Fresh = false
is_waiting LegState.Waiting = true
is_waiting LegState.Admitted = false
is_waiting (LegState.Running worker in_call) = false
is_waiting (LegState.Ended result tolerated) = false

-- whether two groups have one name
abbrev pub share_name : Option (List ℕ) → Option (List ℕ) → Bool
share_name group None = false
share_name group (Some name) = is_named name group
