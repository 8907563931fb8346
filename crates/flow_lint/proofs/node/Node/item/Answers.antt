use Rattle.std.proofs.Common.{sym}
use Rattle.flow_lint.proofs.Standing.{item_stands}
use Rattle.flow_lint.proofs.node.Node.item.Goals as goal

pub returns-in_ok-inner-in-Some-clause-fits : goal.returns-in_ok-inner-in-Some-clause-fits
returns-in_ok-inner-in-Some-clause-fits c =
    let made = c.in_ok-inner-in-Some.ensures in
    item_stands _ _ c.args.place _ _ _ _ _ c.requires (sym c.in-Some.ensures) c.in_ok-number-in-Some.ensures made.path made.place
