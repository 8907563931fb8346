use Rattle.std.proofs.Common.{take}
use Rattle.flow_lint.specs.Places.{HasTwice}
use Rattle.flow_lint.proofs.Seen.{NoneShows}
use Rattle.flow_lint.proofs.flow_place.find_repeated.Given as goal

abbrev pub invariant-loop-node : goal.invariant-loop-node
invariant-loop-node l = NoneShows (HasTwice l.name) (take l.node-index l.nodes)
