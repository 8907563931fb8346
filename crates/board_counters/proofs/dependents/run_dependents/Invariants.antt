use Rattle.std.proofs.Common.{◌≡◌, drop}
use Rattle.board_counters.specs.Words.{all_noted}
use Rattle.board_counters.proofs.dependents.run_dependents.Given as goal

abbrev pub invariant-loop-place : goal.invariant-loop-place
invariant-loop-place l = all_noted l.first l.place (drop l.place l.plans) l.lists ≡ all_noted l.first 0 l.plans l.initial.lists
