-- The test passes where a mark stands.
use Rattle.expr_reader.proofs.MarkPlaces.{marker_found, marker_held}
use Rattle.expr_reader.proofs.templates.marker_test.Goals as goal

pub returns : goal.returns
returns c = λ text. (marker_found text, marker_held text)
