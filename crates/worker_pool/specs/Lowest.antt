-- The first leg of a board that may be taken.
use Rattle.std.specs.Prelude.{ℕ, Option, Some, None}
use Rattle.status_table.specs.Words.{Board}
use Rattle.worker_pool.specs.Alone.{IsLowestAdmitted, NobodyWaitsForWorkers}

-- the number is that of the lowest leg that may be taken, if there is one
abbrev pub IsFirstAdmitted : Board → Option ℕ → Type 0
IsFirstAdmitted b (Some l) = IsLowestAdmitted b l
IsFirstAdmitted b None = NobodyWaitsForWorkers b
