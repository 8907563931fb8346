-- The node of the mask is one of the tree, and is marked.
use Rattle.flow_commands.proofs.MaskTrees.{reached_within}
use Rattle.flow_commands.proofs.masks.Masks.push.Goals as goal

pub mark-requires : goal.mark-requires
mark-requires c =
    let led = c.in_ok-node.ensures c.self.inside.texts c.self.invariant.0 in
    reached_within led.0.nodes c.as_bytes.result.now c.in_ok-node.node led.1
