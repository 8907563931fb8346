use Rattle.std.proofs.Common.{◌≡◌, ◌++◌, drop}
use Rattle.board_counters.specs.Words.{all_dependents, run_sizes}
use Rattle.board_counters.proofs.dependents.all_dependents.Given as goal

abbrev pub invariant-loop-place : goal.invariant-loop-place
invariant-loop-place l = l.made.items ++ all_dependents (drop l.place l.plans) (run_sizes (drop l.place l.runs)) ≡ all_dependents l.plans (run_sizes l.runs)
