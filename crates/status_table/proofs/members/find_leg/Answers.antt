use Rattle.std.proofs.Common.{◌≡◌, Bool, true, false, Some, None, slice_get, sym, ◌∙◌}
use Rattle.status_table.specs.Words.{Leg, board_legs, leg_standing}
use Rattle.status_table.specs.Seen.{has_role}
use Rattle.status_table.proofs.Standings.{drop_at, first_next, first_here, first_past, item_numbered}
use Rattle.status_table.proofs.members.find_leg.Goals as goal

pub returns-in_default : goal.returns-in_default
returns-in_default c =
    let legs = board_legs c.args.board.now in
    let i = c.loop-number.number in
    let test : Leg → Bool = λ x. has_role c.args.role c.args.name.now (leg_standing x) in
    let none : slice_get legs i ≡ None = sym (c.in_default.ensures ∙ item_numbered c.args.board.now i) in
    first_past test legs i _ none c.loop-number.invariant

pub returns-then-has_leg_role : goal.returns-then-has_leg_role
returns-then-has_leg_role c =
    let legs = board_legs c.args.board.now in
    let i = c.loop-number.number in
    let leg : Leg = c.in-Some.leg.now in
    let test : Leg → Bool = λ x. has_role c.args.role c.args.name.now (leg_standing x) in
    let there : slice_get legs i ≡ Some leg = sym (c.in-Some.ensures ∙ item_numbered c.args.board.now i) in
    let yes : test leg ≡ true = sym c.has_leg_role.ensures ∙ c.if-has_leg_role.true in
    first_here test legs i leg _ (drop_at legs i leg there) yes c.loop-number.invariant

pub loop-number-preserved : goal.loop-number-preserved
loop-number-preserved c =
    let legs = board_legs c.args.board.now in
    let i = c.loop-number.number in
    let leg : Leg = c.in-Some.leg.now in
    let test : Leg → Bool = λ x. has_role c.args.role c.args.name.now (leg_standing x) in
    let there : slice_get legs i ≡ Some leg = sym (c.in-Some.ensures ∙ item_numbered c.args.board.now i) in
    let no : test leg ≡ false = sym c.has_leg_role.ensures ∙ c.if-has_leg_role.false in
    first_next test legs i leg _ (drop_at legs i leg there) no c.loop-number.invariant
