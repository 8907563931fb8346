use Rattle.std.proofs.Common.{subst, sym}
use Rattle.flat_board.specs.Words.{Fits, Play}
use Rattle.flat_board.proofs.Back.{sound_before}
use Rattle.flat_board.proofs.flat_board.FlatBoardReversible.revert.Goals as goal

pub take_back-requires : goal.take_back-requires
take_back-requires c =
    let fits = subst (λ (s : Play). Fits c.args.undo s.plan s.board) (sym c.self.view_is) c.requires in
    (fits.kept c.self.inside.play.groups c.names_ascend.ensures c.self.invariant.kept c.self.invariant.names).once

pub invariant_of-self : goal.invariant_of-self
invariant_of-self c =
    let fits = subst (λ (s : Play). Fits c.args.undo s.plan s.board) (sym c.self.view_is) c.requires in
    sound_before c.self.inside.play c.take_back.new.self c.args.undo c.names_ascend.ensures c.self.invariant fits
    c.take_back.ensures.plan c.take_back.ensures.board c.take_back.ensures.groups
