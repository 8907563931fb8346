use Rattle.std.proofs.Common.{◌≡◌, subst, IfOk}
use Rattle.flat_board.specs.Words.{Play, Stays, answer_of, board_before}
use Rattle.flat_board.proofs.Back.{fits_all}
use Rattle.flat_board.proofs.Playing.{sound_after, stays_after}
use Rattle.flat_board.proofs.flat_board.FlatBoardReversible.apply_with_undo.Goals as goal

pub invariant_of-self : goal.invariant_of-self
invariant_of-self c =
    sound_after c.self.inside.play c.play_with_undo.new.self c.args.entry.worker c.args.entry.event c.if-entry-gt15.false c.self.invariant (answer_of c.play_with_undo.result) c.play_with_undo.ensures.follows

pub returns-clause-in_play : goal.returns-clause-in_play
returns-clause-in_play c =
    (sound_after c.self.inside.play c.play_with_undo.new.self c.args.entry.worker c.args.entry.event c.if-entry-gt15.false c.self.invariant (answer_of c.play_with_undo.result) c.play_with_undo.ensures.follows).in_play

pub returns-clause-ended_stays : goal.returns-clause-ended_stays
returns-clause-ended_stays c =
    subst (λ (s : Play). Stays s.board c.play_with_undo.new.self.state.board) c.self.view_is
    (stays_after c.self.inside.play c.play_with_undo.new.self c.args.entry.worker c.args.entry.event c.if-entry-gt15.false c.self.invariant (answer_of c.play_with_undo.result) c.play_with_undo.ensures.follows)

pub returns-clause-fits : goal.returns-clause-fits
returns-clause-fits c =
    fits_all c.self.inside.play c.play_with_undo.new.self c.args.entry.worker c.args.entry.event c.if-entry-gt15.false c.self.invariant c.play_with_undo.result c.play_with_undo.ensures.follows
    c.play_with_undo.ensures.back c.play_with_undo.ensures.cell

pub returns-clause-before : goal.returns-clause-before
returns-clause-before c =
    subst (λ (s : Play). IfOk c.play_with_undo.result (λ both. board_before both.1 c.play_with_undo.new.self.state.board ≡ s.board)) c.self.view_is c.play_with_undo.ensures.back
