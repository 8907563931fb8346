use Rattle.std.proofs.Common.{subst, sym}
use Rattle.serde_json.specs.View.{view}
use Rattle.flow_lint.specs.Nodes.{place_of}
use Rattle.flow_lint.specs.Places.{HasTwice}
use Rattle.flow_lint.specs.declared.node.Node.{Node}
use Rattle.flow_lint.proofs.Seen.{none_more, nowhere_at_end}
use Rattle.flow_lint.proofs.flow_place.find_repeated.Goals as goal

pub loop-node-preserved : goal.loop-node-preserved
loop-node-preserved c =
    let name = c.args.name.now in
    none_more (HasTwice name) c.args.nodes.now c.loop-node.node-index c.node-item.result c.loop-node-test.true c.loop-node.invariant
    (λ twice. c.in_ok-path.ensures.none c.in_default.is (subst (λ (node : Node). HasTwice name (place_of node)) (sym c.node-item.is) twice))

pub returns-clause-none : goal.returns-clause-none
returns-clause-none c none =
    nowhere_at_end (view c.args.root.now) c.args.nodes.now c.loop-node.node-index (HasTwice c.args.name.now) c.requires.all c.loop-node-test.false c.loop-node.invariant
