-- Breaks: when one holds of an entry, and the set of those that are set.
use Rattle.std.specs.Prelude.{◌≡◌, ℕ, ◌==◌, ◌++◌, ◌&&◌, ◌||◌, Bool, true, false, not, List, [], ◌∷◌, length, filter, option_map, Option, Some, None, slice_get, if◌then◌else◌}
use Rattle.std.specs.List.{list_any}
use Rattle.status_table.specs.Words.{Board, Entry, Event, Leg, LegState, board_legs, is_ended, is_failure, numbers}
use Rattle.debugger.specs.declared.breaks.Break.{Break}

-- ---- what an entry does

-- whether an event is about a leg
abbrev pub is_about : ℕ → Event → Bool
is_about l (Event.Open r) = false
is_about l (Event.Judge j) = false
is_about l (Event.Ask m) = m == l
is_about l (Event.Drop m) = m == l
is_about l (Event.Take m) = m == l
is_about l (Event.Begin m) = m == l
is_about l (Event.End m answer) = m == l
is_about l (Event.Finish m) = m == l
is_about l (Event.Close r) = false
is_about l (Event.Cancel r) = false

-- how many steps of a leg are done, if there is such a leg: its next step has that number
abbrev pub steps_done : Board → ℕ → Option ℕ
steps_done b l = option_map (λ leg. length leg.steps) (slice_get (board_legs b) l)

-- the step that an event begins on a board, if it is a Begin
abbrev pub step_begun : Board → Event → Option ℕ
step_begun b (Event.Open r) = None
step_begun b (Event.Judge j) = None
step_begun b (Event.Ask l) = None
step_begun b (Event.Drop l) = None
step_begun b (Event.Take l) = None
step_begun b (Event.Begin l) = steps_done b l
step_begun b (Event.End l answer) = None
step_begun b (Event.Finish l) = None
step_begun b (Event.Close r) = None
step_begun b (Event.Cancel r) = None

-- whether that is the step with a number
abbrev pub is_step : ℕ → Option ℕ → Bool
is_step s None = false
is_step s (Some begun) = begun == s

-- ended with failure, tolerated or not
abbrev pub ended_failing : LegState → Bool
ended_failing LegState.Fresh = false
ended_failing LegState.Waiting = false
ended_failing LegState.Admitted = false
ended_failing (LegState.Running worker in_call) = false
ended_failing (LegState.Ended result tolerated) = is_failure result

-- whether the state of a leg, if there is one, passes a test
abbrev pub passes : (LegState → Bool) → Option Leg → Bool
passes test None = false
passes test (Some leg) = test leg.state

-- whether the leg with a number passes a test on a board, and did not on the board before
abbrev pub becomes : (LegState → Bool) → Board → Board → ℕ → Bool
becomes test old new l = passes test (slice_get (board_legs new) l) && not (passes test (slice_get (board_legs old) l))

-- ---- when a break holds

-- Whether a break holds of an entry, by the board before it and the board after it: the entry is about the leg, it is the
-- Begin of that step of the leg, the leg became Ended by it, or some leg became Ended with failure.
abbrev pub holds_of : Break → Entry → Board → Board → Bool
holds_of (Break.Leg l) e old new = is_about l e.event
holds_of (Break.Step l s) e old new = is_about l e.event && is_step s (step_begun old e.event)
holds_of (Break.Ends l) e old new = becomes is_ended old new l
holds_of Break.Failed e old new = list_any (becomes ended_failing old new) (numbers (length (board_legs new)))

-- ---- the set of breaks

-- whether two breaks are one
abbrev pub same_break : Break → Break → Bool
same_break (Break.Leg l) (Break.Leg m) = l == m
same_break (Break.Leg l) (Break.Step m t) = false
same_break (Break.Leg l) (Break.Ends m) = false
same_break (Break.Leg l) Break.Failed = false
same_break (Break.Step l s) (Break.Leg m) = false
same_break (Break.Step l s) (Break.Step m t) = l == m && s == t
same_break (Break.Step l s) (Break.Ends m) = false
same_break (Break.Step l s) Break.Failed = false
same_break (Break.Ends l) (Break.Leg m) = false
same_break (Break.Ends l) (Break.Step m t) = false
same_break (Break.Ends l) (Break.Ends m) = l == m
same_break (Break.Ends l) Break.Failed = false
same_break Break.Failed (Break.Leg m) = false
same_break Break.Failed (Break.Step m t) = false
same_break Break.Failed (Break.Ends m) = false
same_break Break.Failed Break.Failed = true

-- whether a break is set
abbrev pub is_set : Break → List Break → Bool
is_set wanted breaks = list_any (λ b. same_break b wanted) breaks

-- the breaks with one more, if it was not set
abbrev pub with_break : Break → List Break → List Break
with_break added breaks = if is_set added breaks then breaks else breaks ++ added ∷ []

-- the breaks without one
abbrev pub without_break : Break → List Break → List Break
without_break cleared breaks = filter (λ b. not (same_break b cleared)) breaks

-- a break is set besides those that were
abbrev pub AddsAlone : Break → List Break → List Break → Type 0
AddsAlone added old new = (b : Break) → is_set b new ≡ (same_break added b || is_set b old)

-- of the breaks that were set this one is no more
abbrev pub ClearsAlone : Break → List Break → List Break → Type 0
ClearsAlone cleared old new = (b : Break) → is_set b new ≡ (not (same_break b cleared) && is_set b old)
