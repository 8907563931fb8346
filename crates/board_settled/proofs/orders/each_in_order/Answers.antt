use Rattle.std.proofs.Common.{subst}
use Rattle.board_settled.specs.Words.{Each}
use Rattle.board_settled.proofs.orders.each_in_order.Goals as goal

pub returns : goal.returns
returns g c = subst (Each g.T.InOrder.in_order) c.as_slice.ensures c.all_in_order.ensures
