use Rattle.std.proofs.Common.{subst}
use Rattle.flat_board.specs.Words.{Play, Stays}
use Rattle.flat_board.proofs.Playing.{sound_after, stays_after}
use Rattle.flat_board.proofs.flat_board.FlatBoardTable.apply.Goals as goal

pub invariant_of-self : goal.invariant_of-self
invariant_of-self c =
    sound_after c.self.inside.play c.play_asked.new.self c.args.entry.worker c.args.entry.event c.if-entry-gt15.false c.self.invariant c.play_asked.result c.play_asked.ensures.follows

pub returns-clause-in_play : goal.returns-clause-in_play
returns-clause-in_play c =
    (sound_after c.self.inside.play c.play_asked.new.self c.args.entry.worker c.args.entry.event c.if-entry-gt15.false c.self.invariant c.play_asked.result c.play_asked.ensures.follows).in_play

pub returns-clause-ended_stays : goal.returns-clause-ended_stays
returns-clause-ended_stays c =
    subst (λ (s : Play). Stays s.board c.play_asked.new.self.state.board) c.self.view_is
    (stays_after c.self.inside.play c.play_asked.new.self c.args.entry.worker c.args.entry.event c.if-entry-gt15.false c.self.invariant c.play_asked.result c.play_asked.ensures.follows)
