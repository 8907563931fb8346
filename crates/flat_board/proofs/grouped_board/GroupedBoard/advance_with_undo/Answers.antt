use Rattle.std.proofs.Common.{refl}
use Rattle.flat_board.specs.Words.{Event, done_of}
use Rattle.flat_board.proofs.Playing.{led_unasked}
use Rattle.flat_board.proofs.grouped_board.GroupedBoard.advance_with_undo.Goals as goal

pub returns-in-Begin-clause-follows : goal.returns-in-Begin-clause-follows
returns-in-Begin-clause-follows c =
    led_unasked c.args.self.now c.begin_unasked.new.self c.args.entry.worker c.args.entry.event (Event.Begin c.in-Begin.leg) (done_of c.begin_unasked.result) c.begin_unasked.result c.in-Begin.is refl refl c.begin_unasked.ensures

pub returns-in-End-clause-follows : goal.returns-in-End-clause-follows
returns-in-End-clause-follows c =
    led_unasked c.args.self.now c.end_unasked.new.self c.args.entry.worker c.args.entry.event (Event.End c.in-End.leg c.in-End.answer) (done_of c.end_unasked.result) c.end_unasked.result c.in-End.is refl refl c.end_unasked.ensures
