use Rattle.std.proofs.Common.{◌≡◌, drop}
use Rattle.flow_model.specs.Mapping.{pairs_of}
use Rattle.flow_model.specs.Plain as plain
use Rattle.flow_model.specs.Rules.{items_within, members_within}
use Rattle.flow_model.specs.Value.{views, viewed}
use Rattle.flow_model.proofs.within.+within.Given as goal

abbrev pub invariant-are_within-loop-node : goal.invariant-are_within-loop-node
invariant-are_within-loop-node l =
    items_within l.room (plain.items_of (views (drop l.node-index l.nodes.items))) ≡ items_within l.room (plain.items_of (views l.nodes.items))

abbrev pub invariant-are_members_within-loop-key : goal.invariant-are_members_within-loop-key
invariant-are_members_within-loop-key l =
    members_within l.room (plain.members_of (viewed (pairs_of l._key-iterator))) ≡ members_within l.room (plain.members_of (viewed (pairs_of l.members.entries)))
