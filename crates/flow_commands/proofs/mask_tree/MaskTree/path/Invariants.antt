-- The bytes so far lead to the node, and the masks are the same.
use Rattle.std.proofs.Common.{◌≡◌, ℕ, List, Some, take}
use Rattle.flow_commands.specs.MaskTree.{IsTreeOf, edges_of, reached}
use Rattle.flow_commands.proofs.mask_tree.MaskTree.path.Given as goal

abbrev pub invariant-loop-byte : goal.invariant-loop-byte
invariant-loop-byte l =
    (masks : List (List ℕ)) → IsTreeOf masks l.fn.self → IsTreeOf masks l.self × (reached (edges_of l.self) (take l.byte-index l.text) ≡ Some l.node)
