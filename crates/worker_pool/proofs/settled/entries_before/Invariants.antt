use Rattle.std.proofs.Common.{◌≡◌, take}
use Rattle.worker_pool.proofs.settled.entries_before.Given as goal

-- the entries that were copied are the first
abbrev pub invariant-loop-entry : goal.invariant-loop-entry
invariant-loop-entry l = l.made.items ≡ take l.entry-index l.before
