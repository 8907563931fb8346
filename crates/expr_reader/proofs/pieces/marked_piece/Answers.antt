-- A text may be cut after its mark.
use Rattle.expr_reader.proofs.MarkPlaces.{mark_cut}
use Rattle.expr_reader.proofs.pieces.marked_piece.Goals as goal

pub split_at-requires : goal.split_at-requires
split_at-requires c = mark_cut c.args.text.now c.utf8.text c.requires.mark
