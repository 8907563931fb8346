-- What values of the code stand for.
use Rattle.std.specs.Prelude.{◌≡◌, ℕ, Bool, false, List, [], ◌∷◌, ◌++◌, Option, Some, None, Result, Ok, Err}
use Rattle.plan_values.specs.Words.{Answer, Board, DoneStep, Leg, LegState, Member, Outcome}
use Rattle.board_decisions.specs.Decisions.{leg_result}
use Rattle.board_decisions.specs.Place.{LegAt}
use Rattle.status_table.specs.Answers.{DecidesAs, Refuses}
use Rattle.status_table.specs.Row.{Beginning, calls, skips, faults, outputs_of, set_by, ending, ended_state, finishing}
use Rattle.status_table.specs.Change.{with_numbered_leg}
use Rattle.status_table.specs.Groups.{Standing, holds_name, waits_name, closed}
use Rattle.status_table.specs.declared.change.LegChange.{LegChange}
use Rattle.status_table.specs.declared.fault.EventFault.{EventFault}
use Rattle.status_table.specs.declared.events.Begun.{Begun}
use Rattle.status_table.specs.declared.members.Role.{Role}

-- what beginning a step comes to
abbrev pub begun_seen : Begun → Beginning
begun_seen (Begun.Call call) = calls call
begun_seen Begun.Skips = skips
begun_seen (Begun.Faults fault) = faults fault

-- an outcome and a conclusion, with what the answer gave and set
abbrev pub ended_step : Outcome × Outcome → Answer → DoneStep
ended_step x a = record { outcome = x.0; conclusion = x.1; outputs = outputs_of a; env = set_by a }

-- how an answer ends a step is decided as it is defined
abbrev pub DecidesEnding : ℕ → LegAt → Answer → Result (Outcome × Outcome) EventFault → Type 0
DecidesEnding worker at a r = DecidesAs (λ x. ended_step x a) (ending worker at a) r

-- a worker may end a leg, in the state by which it counts so far; or why it may not
abbrev pub MayFinish : ℕ → LegAt → Result (Unit {0}) EventFault → Type 0
MayFinish worker at (Ok done) = finishing worker at ≡ Ok (ended_state at (leg_result at))
MayFinish worker at (Err f) = Refuses (finishing worker at) f

-- whether one that stands so has the role that is looked for, at a name
abbrev pub has_role : Role → List ℕ → Standing → Bool
has_role Role.Holder = holds_name
has_role Role.Waiter = waits_name

-- a leg is noted as one that ended
abbrev pub noted : Board → Option Member → Board
noted b None = b
noted b (Some (Member.Run r)) = b
noted b (Some (Member.Leg l)) = record b { ends = b.ends ++ l ∷ [] }

-- a member is cancelled, but is not noted yet
abbrev pub put_out : Board → Option Member → Board
put_out b None = b
put_out b (Some (Member.Run r)) = closed b r Outcome.Cancelled
put_out b (Some (Member.Leg l)) =
    with_numbered_leg b l (λ leg. record leg { state = LegState.Ended Outcome.Cancelled false })

-- a leg after a change
abbrev pub leg_after : LegChange → Leg → Leg
leg_after (LegChange.State state) leg = record leg { state = state }
leg_after (LegChange.Group state group) leg = record leg { state = state; group = group }
leg_after (LegChange.Outputs state outputs) leg = record leg { state = state; outputs = outputs }
leg_after (LegChange.Stop stop) leg = record leg { stop = stop }
