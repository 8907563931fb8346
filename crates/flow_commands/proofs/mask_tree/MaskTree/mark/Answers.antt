-- The node of one more mask is marked; the root is not.
use Rattle.std.proofs.Common.{true, refl, arith, length-set}
use Rattle.flow_commands.proofs.MaskTrees.{marked_here, marked_others, tree_marked}
use Rattle.flow_commands.proofs.mask_tree.MaskTree.mark.Goals as goal

pub returns-then-node-gt0 : goal.returns-then-node-gt0
returns-then-node-gt0 c masks mask tree at = record {
  nodes = tree_marked tree.nodes mask c.args.node at (length-set c.args.self.now.ends.items _ true)
      (λ some. marked_here c.args.self.now.ends.items c.args.node some c.requires) (marked_others c.args.self.now.ends.items c.args.node c.if-node-gt0.true);
  bytes = tree.bytes;
  firsts = tree.firsts;
}

pub returns-else-node-gt0 : goal.returns-else-node-gt0
returns-else-node-gt0 c masks mask tree at = record {
  nodes = tree_marked tree.nodes mask c.args.node at refl (λ some. absurd (omega (arith, c.if-node-gt0.false, some))) (λ n apart. refl);
  bytes = tree.bytes;
  firsts = tree.firsts;
}
