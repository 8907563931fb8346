-- Whether the board after a list of entries is all of what is settled by the answers that the list gives.
use Rattle.std.specs.Prelude.{◌≡◌, ℕ, Bool, List, [], length, take, Some, Result, Ok, Err, slice_get}
use Rattle.status_table.specs.Words.{Entry, Plan}
pub use Rattle.board_settled.specs.Records.{TellsSettled}
use Rattle.status_table.specs.Runs.{IsLegal}
use Rattle.status_table.specs.declared.fault.EventFault.{EventFault}
use Rattle.status_table.specs.declared.fault.EventFault.TheVariants as event_fault
use Rattle.worker_pool.specs.Entries.{IsRefused}
use Rattle.worker_pool.specs.declared.fault.PoolFault.{PoolFault}
use Rattle.worker_pool.specs.declared.fault.PoolFault.TheVariants as fault

-- A history is the first of some entries, and the table refuses the next.
abbrev pub IsRefusedAfter : Plan → List Entry → List Entry → Type 0
IsRefusedAfter p all es =
    (es ≡ take (length es) all) × (e : Entry) × (slice_get all (length es) ≡ Some e) × IsRefused p es e

-- What is answered of a list of entries: it is legal, and whether the board after it is all of what is settled by its
-- answers; or the first entry that the table refuses is told by those before it. Memory may run out, and then no entry is told.
abbrev pub ChecksSettled : Plan → List Entry → Result Bool PoolFault → Type 0
ChecksSettled p es (Ok holds) = IsLegal p es × TellsSettled p es holds
ChecksSettled p es (Err fault.Workers) = ⊥
ChecksSettled p es (Err (fault.Host l step f history)) = ⊥
ChecksSettled p es (Err (fault.Mismatch history)) = IsRefusedAfter p es history
ChecksSettled p es (Err (fault.Memory history)) = history ≡ []

-- Entries that are refused at a place are told with those before it; memory may run out, and then no entry is told.
abbrev pub IsUnplayed : List Entry → ℕ → EventFault → PoolFault → Type 0
IsUnplayed es place f fault.Workers = ⊥
IsUnplayed es place f (fault.Host l step g history) = ⊥
IsUnplayed es place f (fault.Mismatch history) = (history ≡ take place es) × (f ≡ event_fault.Memory → ⊥)
IsUnplayed es place f (fault.Memory history) = history ≡ []
