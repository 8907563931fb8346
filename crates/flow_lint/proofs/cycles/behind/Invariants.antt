use Rattle.std.proofs.Common.{◌≡◌, drop}
use Rattle.flow_lint.specs.Walks.{behind}
use Rattle.flow_lint.proofs.cycles.behind.Given as goal

abbrev pub invariant-loop-at : goal.invariant-loop-at
invariant-loop-at l = behind l.place (drop l.at l.places) ≡ behind l.place l.places
