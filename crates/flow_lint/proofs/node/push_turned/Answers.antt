use Rattle.std.proofs.Common.{refl}
use Rattle.flow_lint.proofs.Nodes.{all_turned, kept_by_push, one_turned}
use Rattle.flow_lint.proofs.node.push_turned.Goals as goal

pub returns-in-None-clause-added : goal.returns-in-None-clause-added
returns-in-None-clause-added c =
    all_turned c.args.nodes.items c.loop.waiting.items c.loop.nodes.items c.loop.invariant.added (c.in-None.ensures.none refl)

pub loop-preserved : goal.loop-preserved
loop-preserved c =
    let pushed = c.in_ok-push_node-in-Some.ensures in
    let popped = c.in-Some.ensures in
    record {
      waiting_fit = pushed.fit;
      nodes_fit = popped.rest;
      kept = λ path p at. kept_by_push _ _ c.in-Some.node pushed.items path p (c.loop.invariant.kept path p at);
      added = one_turned c.args.nodes.items _ _ _ _ c.in-Some.node c.loop.invariant.added popped.items pushed.items;
    }
