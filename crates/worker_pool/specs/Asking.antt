-- What a host gives to the call of a leg.
use Rattle.std.specs.Prelude.{◌≡◌, ℕ, Result, Ok, Err}
use Rattle.status_table.specs.Words.{Answer}
use Rattle.worker_pool.specs.declared.stop.PoolStop.{PoolStop}

-- The answer is one that is admitted; or the call, which is of this leg and step, is declined, or there was no memory.
abbrev pub Gives : (Answer → Type 0) → Type 0 → ℕ → ℕ → Result Answer PoolStop → Type 0
Gives admitted declined leg step (Ok a) = admitted a
Gives admitted declined leg step (Err (PoolStop.NoAnswer l s)) = (l ≡ leg) × (s ≡ step) × declined
Gives admitted declined leg step (Err PoolStop.Mismatch) = ⊥
Gives admitted declined leg step (Err PoolStop.Memory) = Unit {0}
