-- A tree of no edge has no mask.
use Rattle.std.proofs.Common.{refl, ap}
use Rattle.std.specs.Map.{lookup}
use Rattle.flow_commands.specs.MaskTree.{same_edge}
use Rattle.flow_commands.proofs.MaskTrees.{tree_empty}
use Rattle.flow_commands.proofs.mask_tree.MaskTree.empty.Goals as goal

pub returns : goal.returns
returns c = record {
  nodes = tree_empty _ _ (λ node b. ap (lookup (same_edge (node, b))) c.new-edges.ensures.empty);
  bytes = refl;
  firsts = λ b _. ap (lookup (same_edge (0, b))) c.new-edges.ensures.empty;
}
