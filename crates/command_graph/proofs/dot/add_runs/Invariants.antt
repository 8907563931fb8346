use Rattle.std.proofs.Common.{◌≡◌, ◌++◌, drop}
use Rattle.command_graph.specs.Dot.{runs_text}
use Rattle.command_graph.proofs.dot.add_runs.Given as goal

abbrev pub invariant-loop-place : goal.invariant-loop-place
invariant-loop-place l =
    l.text.items ++ runs_text l.states l.place l.next (drop l.place l.runs) ≡ l.initial.text.items ++ runs_text l.states 0 0 l.runs
