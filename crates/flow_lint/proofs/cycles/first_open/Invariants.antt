use Rattle.std.proofs.Common.{◌≡◌, drop}
use Rattle.flow_lint.specs.Walks.{first_open}
use Rattle.flow_lint.proofs.cycles.first_open.Given as goal

abbrev pub invariant-loop-place : goal.invariant-loop-place
invariant-loop-place l = first_open l.left (drop l.place-index l.places) ≡ first_open l.left l.places
