use Rattle.std.proofs.Common.{◌≡◌, drop}
use Rattle.std.specs.Slice.Iter.{iter_rest}
use Rattle.flow_model.specs.Mapping.{pairs_of}
use Rattle.flow_model.specs.Plain as plain
use Rattle.flow_model.specs.Value.{views, viewed}
use Rattle.matrix_expand.specs.Same.{same_items, same_members}
use Rattle.matrix_expand.proofs.same.+same.Given as goal

abbrev pub invariant-same_items-loop-node : goal.invariant-same_items-loop-node
invariant-same_items-loop-node l =
    same_items (plain.items_of (views (drop l.node-index l.left.items))) (plain.items_of (views (iter_rest l.others)))
    ≡ same_items (plain.items_of (views l.left.items)) (plain.items_of (views l.right.items))

abbrev pub invariant-same_members-loop-key : goal.invariant-same_members-loop-key
invariant-same_members-loop-key l =
    same_members (plain.members_of (viewed (pairs_of l.key-iterator))) (plain.members_of (viewed (pairs_of l.others)))
    ≡ same_members (plain.members_of (viewed (pairs_of l.left.entries))) (plain.members_of (viewed (pairs_of l.right.entries)))
