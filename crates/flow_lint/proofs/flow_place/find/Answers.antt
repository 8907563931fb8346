use Rattle.serde_json.specs.View.{view}
use Rattle.flow_lint.specs.Shows.{ShowsFlow}
use Rattle.flow_lint.proofs.Seen.{nowhere_at_end}
use Rattle.flow_lint.proofs.flow_place.find.Goals as goal

pub returns : goal.returns
returns c =
    nowhere_at_end (view c.args.root.now) c.args.nodes.now c.loop-node.node-index (ShowsFlow c.args.fault.now) c.requires.all c.loop-node-test.false c.loop-node.invariant
