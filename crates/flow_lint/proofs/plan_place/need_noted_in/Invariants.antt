use Rattle.std.proofs.Common.{codes, take}
use Rattle.serde_json.specs.Find.{get}
use Rattle.serde_json.specs.View.{view}
use Rattle.flow_lint.specs.Places.{ShowsNeed}
use Rattle.flow_lint.proofs.Seen.{NoneShows}
use Rattle.flow_lint.proofs.plan_place.need_noted_in.Given as goal

abbrev pub invariant-loop-node : goal.invariant-loop-node
invariant-loop-node l = NoneShows (ShowsNeed (get (codes "jobs") (view l.root))) (take l.node-index l.nodes)
