use Rattle.expr_value.specs.Seen.{kind_seen}
use Rattle.expr_value.proofs.Joins.{joined_more}
use Rattle.expr_value.proofs.join.join_nodes.Goals as goal

pub loop-node-preserved : goal.loop-node-preserved
loop-node-preserved c =
    joined_more c.args.nodes.now c.loop-node.node-index c.node-item.result c.loop-node.bounded c.push_item.new.bounded c.args.separator.now c.loop-node.first (kind_seen c.kind_of.result) _
    c.loop-node-test.true c.node-item.is c.in_ok-push_item.ensures c.kind_of.ensures c.loop-node.invariant
