use Rattle.std.proofs.Common.{arith}
use Rattle.flow_lint.proofs.Nodes.{items_all, items_more}
use Rattle.flow_lint.proofs.node.push_items.Goals as goal

pub loop-place-preserved : goal.loop-place-preserved
loop-place-preserved c =
    let pushed = c.in_ok-push_found.ensures in
    record {
      fit = pushed.fit;
      items = items_more c.args.node.now c.loop-place.place _ _ _ pushed.kept pushed.added c.in_ok-item.ensures.gives c.loop-place.invariant.items;
    }

pub returns-clause-all : goal.returns-clause-all
returns-clause-all c =
    items_all c.args.node.now c.args.items.now.items c.loop-place.place c.loop-place.nodes.items c.requires.items (omega arith) c.loop-place.invariant.items
