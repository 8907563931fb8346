use Rattle.std.proofs.Common.{All, subst, take_all}
use Rattle.std.proofs.lemmas.List.Elements.{All-get_or}
use Rattle.std.proofs.lemmas.Option.{get_or_from_slice_get, slice_get_within}
use Rattle.board_settled.proofs.orders.all_in_order.Goals as goal

pub returns : goal.returns
returns g c = λ i x at.
    let items = c.args.items.now in
    let all = subst (All g.T.InOrder.in_order) (take_all c.loop-item.item-index items c.loop-item-test.false) c.loop-item.invariant in
    subst g.T.InOrder.in_order (get_or_from_slice_get items i x x at) (All-get_or g.T.InOrder.in_order items i x (slice_get_within items i x at) all)
