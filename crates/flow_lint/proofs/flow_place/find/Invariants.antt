use Rattle.std.proofs.Common.{take}
use Rattle.flow_lint.specs.Shows.{ShowsFlow}
use Rattle.flow_lint.proofs.Seen.{NoneShows}
use Rattle.flow_lint.proofs.flow_place.find.Given as goal

abbrev pub invariant-loop-node : goal.invariant-loop-node
invariant-loop-node l = NoneShows (ShowsFlow l.fault) (take l.node-index l.nodes)
