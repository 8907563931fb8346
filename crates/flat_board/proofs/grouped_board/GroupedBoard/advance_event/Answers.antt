use Rattle.std.proofs.Common.{refl}
use Rattle.flat_board.specs.Words.{Event}
use Rattle.flat_board.proofs.Playing.{led_unasked}
use Rattle.flat_board.proofs.grouped_board.GroupedBoard.advance_event.Goals as goal

pub returns-in-Begin : goal.returns-in-Begin
returns-in-Begin c = record {
  follows = led_unasked c.args.self.now c.begin_unasked.new.self c.args.entry.worker c.args.entry.event (Event.Begin c.in-Begin.leg) c.done.result c.begin_unasked.result c.in-Begin.is c.done.ensures refl c.begin_unasked.ensures;
}

pub returns-in-End : goal.returns-in-End
returns-in-End c = record {
  follows = led_unasked c.args.self.now c.end_unasked.new.self c.args.entry.worker c.args.entry.event (Event.End c.in-End.leg c.in-End.answer) c.done-in-End.result c.end_unasked.result c.in-End.is c.done-in-End.ensures refl c.end_unasked.ensures;
}
