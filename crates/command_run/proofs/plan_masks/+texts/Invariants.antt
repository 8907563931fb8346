use Rattle.std.proofs.Common.{◌≡◌, ◌++◌, drop}
use Rattle.status_table.specs.Words.{pairs_of, viewed}
use Rattle.flow_model.specs.Plain as plain
use Rattle.flow_model.specs.Value.{views}
use Rattle.command_run.specs.PlanMasks.{texts_in_items, texts_in_members}
use Rattle.command_run.proofs.plan_masks.+texts.Given as goal

-- the masks so far and those of the items that are left are all
abbrev pub invariant-add_items-loop-node : goal.invariant-add_items-loop-node
invariant-add_items-loop-node l =
    l.masks ++ texts_in_items (plain.items_of (views (drop l.node-index l.nodes.items)))
    ≡ l.fn.masks ++ texts_in_items (plain.items_of (views l.nodes.items))

-- the same of the values of a map
abbrev pub invariant-add_members-loop-key : goal.invariant-add_members-loop-key
invariant-add_members-loop-key l =
    l.masks ++ texts_in_members (plain.members_of (viewed (pairs_of l._key-iterator)))
    ≡ l.fn.masks ++ texts_in_members (plain.members_of (viewed (pairs_of l.members.entries)))
