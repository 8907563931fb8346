use Rattle.std.proofs.Common.{sym}
use Rattle.flow_lint.proofs.Standing.{member_stands}
use Rattle.flow_lint.proofs.node.Node.member.Goals as goal

pub returns-in_ok-inner-in-Some-clause-fits : goal.returns-in_ok-inner-in-Some-clause-fits
returns-in_ok-inner-in-Some-clause-fits c =
    let made = c.in_ok-inner-in-Some.ensures in
    member_stands _ _ _ _ _ _ _ _ c.requires (sym c.in-Some.ensures) c.in_ok-from_str-in-Some.ensures made.path made.place
