use Rattle.std.proofs.Common.{All, take}
use Rattle.board_settled.proofs.orders.all_in_order.Given as goal

-- the items so far do
abbrev pub invariant-loop-item : goal.invariant-loop-item
invariant-loop-item g l = All g.T.InOrder.in_order (take l.item-index l.items)
