-- What several workers play.
use Rattle.std.specs.Prelude.{◌≡◌, ◌⊎◌, ℕ, ◌<◌, List, Some}
use Rattle.status_table.specs.Words.{Answer, Each, Entry, Plan, StepCall, after}
use Rattle.step_host.specs.Lawful.{Lawful}
use Rattle.step_host.specs.declared.fault.HostFault.{HostFault}
use Rattle.worker_pool.specs.Alone.{EndsSo}
use Rattle.worker_pool.specs.Fault.{IsUnanswered}
use Rattle.worker_pool.specs.History.{NoCancel}
use Rattle.worker_pool.specs.declared.fault.PoolFault.{PoolFault}
use Rattle.worker_pool.specs.declared.played.Played.{Played}

-- each entry is of a worker below a number
abbrev pub AreBelow : ℕ → List Entry → Type 0
AreBelow workers es = Each (λ e. e.worker < workers) es

-- A history of several workers: lawful over their host, of workers below their number, and without Cancel.
pub record PlayedByMany (admits : StepCall → Answer → Type 0) (p : Plan) (workers : ℕ) (es : List Entry) : Type 0 where
  pub lawful : Lawful admits p es
  pub of_them : AreBelow workers es
  pub uncancelled : NoCancel es

-- A play by several workers has such a history, and leaves the board after it, on which all is finished, or nothing goes on.
pub record EndsByMany (admits : StepCall → Answer → Type 0) (p : Plan) (workers : ℕ) (played : Played) : Type 0 where
  pub history : PlayedByMany admits p workers played.history
  pub leads : after p played.history ≡ Some played.left.board
  pub ends : EndsSo p played.left.board played.ending

-- there are no workers, or too many
abbrev pub AreNoWorkers : ℕ → Type 0
AreNoWorkers workers = (workers ≡ 0) ⊎ (16 < workers)

-- Why several workers stop, of whom there are so many: a host declined a call, in which its leg still is; or there was no
-- memory; or what they logged is not what is played again of their history, as far as that was checked.
abbrev pub StopsByMany : (StepCall → Answer → Type 0) → (StepCall → Type 0) → Plan → ℕ → PoolFault → Type 0
StopsByMany admits declines p workers PoolFault.Workers = AreNoWorkers workers
StopsByMany admits declines p workers (PoolFault.Host l step HostFault.NoAnswer es) = PlayedByMany admits p workers es × IsUnanswered declines p es l step
StopsByMany admits declines p workers (PoolFault.Host l step HostFault.Memory es) = ⊥
StopsByMany admits declines p workers (PoolFault.Mismatch es) = PlayedByMany admits p workers es
StopsByMany admits declines p workers (PoolFault.Memory es) = PlayedByMany admits p workers es
