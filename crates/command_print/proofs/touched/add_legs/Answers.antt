use Rattle.std.proofs.Common.{arith}
use Rattle.status_table.specs.Words.{board_legs}
use Rattle.command_print.proofs.LegTexts.{all-told, next-told, skip-to}
use Rattle.command_print.proofs.touched.add_legs.Goals as goal

pub loop-number-preserved-then-number-end : goal.loop-number-preserved-then-number-end
loop-number-preserved-then-number-end c =
    let before = board_legs c.args.boards.now.before.now in
    let legs = board_legs c.args.boards.now.board.now in
    let next = c.next_leg-number in
    let within = c.if-number-end.true in
    record {
      within = omega (arith, within);
      told = next-told before legs c.args.end c.args.first next.result c.args.text.now c.loop-number.text c.add_leg_of.new.text within
          (skip-to before legs c.args.end c.args.first c.loop-number.number next.result c.args.text.now c.loop-number.text next.ensures.after next.ensures.within
          (λ l from to. c.requires.others.legs l (next.ensures.apart l from to)) c.loop-number.invariant.told)
          c.in_ok-add_leg_of.ensures;
    }

pub loop-number-preserved : goal.loop-number-preserved
loop-number-preserved c =
    let before = board_legs c.args.boards.now.before.now in
    let legs = board_legs c.args.boards.now.board.now in
    let next = c.next_leg-number in
    record {
      within = next.ensures.within;
      told = skip-to before legs c.args.end c.args.first c.loop-number.number next.result c.args.text.now c.loop-number.text next.ensures.after next.ensures.within
          (λ l from to. c.requires.others.legs l (next.ensures.apart l from to)) c.loop-number.invariant.told;
    }

pub returns : goal.returns
returns c =
    all-told (board_legs c.args.boards.now.before.now) (board_legs c.args.boards.now.board.now) c.args.end c.args.first c.loop-number.number c.args.text.now
    c.loop-number.text c.loop-number-test.false c.loop-number.invariant.told
