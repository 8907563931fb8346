-- Why a play stopped before its end.
use Rattle.std.specs.Prelude.{◌≡◌, ℕ, true, List, Some, codes, length, slice_get}
use Rattle.status_table.specs.Words.{Answer, Board, Entry, Leg, LegState, Plan, StepCall, after, board_legs, open_call}
use Rattle.step_host.specs.declared.fault.HostFault.{HostFault}
use Rattle.worker_pool.specs.Alone.{PlayedAlone}
use Rattle.worker_pool.specs.declared.fault.PoolFault.{PoolFault}

-- the name of a fault, as a program prints it
abbrev pub pool_fault_name : PoolFault → List ℕ
pool_fault_name PoolFault.Workers = codes "Workers"
pool_fault_name (PoolFault.Host leg step f history) = codes "Host"
pool_fault_name (PoolFault.Mismatch history) = codes "Mismatch"
pool_fault_name (PoolFault.Memory history) = codes "Memory"

-- After a history a leg is in the call of a step: with a worker and in a call on the board, with so many steps done, and
-- the call that is open is of that leg and step.
pub record InCall (p : Plan) (es : List Entry) (l step : ℕ) (call : StepCall) : Type 0 where
  pub board : Board
  pub leads : after p es ≡ Some board
  pub leg : Leg
  pub there : slice_get (board_legs board) l ≡ Some leg
  pub worker : ℕ
  pub running : leg.state ≡ LegState.Running worker true
  pub done : length leg.steps ≡ step
  pub opened : open_call p es l ≡ Some call
  pub of_leg : call.leg ≡ l
  pub of_step : call.step ≡ step

-- the leg is in the call of the step, and it is a call that is declined
abbrev pub IsUnanswered : (StepCall → Type 0) → Plan → List Entry → ℕ → ℕ → Type 0
IsUnanswered declines p es l step = (call : StepCall) × InCall p es l step call × declines call

-- Why one thread stops: its host declined a call, or there was no memory. What was played until then is such a history
-- as it plays.
abbrev pub StopsAlone : (StepCall → Answer → Type 0) → (StepCall → Type 0) → Plan → PoolFault → Type 0
StopsAlone admits declines p PoolFault.Workers = ⊥
StopsAlone admits declines p (PoolFault.Host l step HostFault.NoAnswer es) = PlayedAlone admits p es × IsUnanswered declines p es l step
StopsAlone admits declines p (PoolFault.Host l step HostFault.Memory es) = ⊥
StopsAlone admits declines p (PoolFault.Mismatch es) = ⊥
StopsAlone admits declines p (PoolFault.Memory es) = PlayedAlone admits p es
