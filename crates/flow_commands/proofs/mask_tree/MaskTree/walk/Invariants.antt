-- The bytes so far lead to the node, and the longest mask among them was found.
use Rattle.std.proofs.Common.{◌≡◌, ℕ, List, Some, take}
use Rattle.flow_commands.specs.Mask.{longest}
use Rattle.flow_commands.specs.MaskTree.{IsTreeOf, edges_of, reached}
use Rattle.flow_commands.proofs.mask_tree.MaskTree.walk.Given as goal

abbrev pub invariant-loop-place : goal.invariant-loop-place
invariant-loop-place l =
    (reached (edges_of l.self) (take l.place l.text) ≡ Some l.node) × ((masks : List (List ℕ)) → IsTreeOf masks l.self → l.most ≡ longest masks (take l.place l.text))
