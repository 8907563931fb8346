use Rattle.std.proofs.Common.{◌≡◌, subst, IfOk}
use Rattle.flat_board.specs.Words.{Play, Plays, Stays, board_before, done_of}
use Rattle.flat_board.proofs.Back.{fits_unasked}
use Rattle.flat_board.proofs.Playing.{plays_unasked, sound_after, stays_after}
use Rattle.flat_board.proofs.flat_board.FlatBoardReversible.advance_with_undo.Goals as goal

pub invariant_of-self : goal.invariant_of-self
invariant_of-self c =
    let follows = c.advance_with_undo.ensures.follows in
    sound_after c.self.inside.play c.advance_with_undo.new.self c.args.entry.worker c.args.entry.event c.if-entry-gt15.false c.self.invariant follows.answer follows.follows

pub returns-clause-plays : goal.returns-clause-plays
returns-clause-plays c =
    subst (λ (s : Play). Plays s.plan s.board c.args.entry (done_of c.advance_with_undo.result) c.advance_with_undo.new.self.state.board) c.self.view_is
    (plays_unasked c.self.inside.play c.advance_with_undo.new.self c.args.entry
    (done_of c.advance_with_undo.result) c.if-entry-gt15.false c.advance_with_undo.ensures.follows)

pub returns-clause-in_play : goal.returns-clause-in_play
returns-clause-in_play c =
    let follows = c.advance_with_undo.ensures.follows in
    (sound_after c.self.inside.play c.advance_with_undo.new.self c.args.entry.worker c.args.entry.event c.if-entry-gt15.false c.self.invariant follows.answer follows.follows).in_play

pub returns-clause-ended_stays : goal.returns-clause-ended_stays
returns-clause-ended_stays c =
    let follows = c.advance_with_undo.ensures.follows in
    subst (λ (s : Play). Stays s.board c.advance_with_undo.new.self.state.board) c.self.view_is
    (stays_after c.self.inside.play c.advance_with_undo.new.self c.args.entry.worker c.args.entry.event c.if-entry-gt15.false c.self.invariant follows.answer follows.follows)

pub returns-clause-fits : goal.returns-clause-fits
returns-clause-fits c =
    fits_unasked c.self.inside.play c.advance_with_undo.new.self c.args.entry.worker c.args.entry.event c.if-entry-gt15.false c.self.invariant c.advance_with_undo.result c.advance_with_undo.ensures.follows
    c.advance_with_undo.ensures.back c.advance_with_undo.ensures.cell

pub returns-clause-before : goal.returns-clause-before
returns-clause-before c =
    subst (λ (s : Play). IfOk c.advance_with_undo.result (λ undo. board_before undo c.advance_with_undo.new.self.state.board ≡ s.board)) c.self.view_is c.advance_with_undo.ensures.back
