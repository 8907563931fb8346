use Rattle.std.proofs.Common.{◌≡◌, ◌++◌, drop}
use Rattle.board_counters.specs.Words.{needs_of}
use Rattle.board_counters.proofs.counts.needs_of_each.Given as goal

abbrev pub invariant-loop-place : goal.invariant-loop-place
invariant-loop-place l = l.needs.items ++ needs_of (drop l.place l.plans) (drop l.place l.runs) ≡ needs_of l.plans l.runs
