use Rattle.std.proofs.Common.{subst}
use Rattle.flat_board.specs.Words.{Play, Plays, Stays}
use Rattle.flat_board.proofs.Playing.{plays_unasked, sound_after, stays_after}
use Rattle.flat_board.proofs.flat_board.FlatBoardTable.advance.Goals as goal

pub invariant_of-self : goal.invariant_of-self
invariant_of-self c =
    let follows = c.advance_event.ensures.follows in
    sound_after c.self.inside.play c.advance_event.new.self c.args.entry.worker c.args.entry.event c.if-entry-gt15.false c.self.invariant follows.answer follows.follows

pub returns-clause-plays : goal.returns-clause-plays
returns-clause-plays c =
    subst (λ (s : Play). Plays s.plan s.board c.args.entry c.advance_event.result c.advance_event.new.self.state.board) c.self.view_is
    (plays_unasked c.self.inside.play c.advance_event.new.self c.args.entry
    c.advance_event.result c.if-entry-gt15.false c.advance_event.ensures.follows)

pub returns-clause-in_play : goal.returns-clause-in_play
returns-clause-in_play c =
    let follows = c.advance_event.ensures.follows in
    (sound_after c.self.inside.play c.advance_event.new.self c.args.entry.worker c.args.entry.event c.if-entry-gt15.false c.self.invariant follows.answer follows.follows).in_play

pub returns-clause-ended_stays : goal.returns-clause-ended_stays
returns-clause-ended_stays c =
    let follows = c.advance_event.ensures.follows in
    subst (λ (s : Play). Stays s.board c.advance_event.new.self.state.board) c.self.view_is
    (stays_after c.self.inside.play c.advance_event.new.self c.args.entry.worker c.args.entry.event c.if-entry-gt15.false c.self.invariant follows.answer follows.follows)
