use Rattle.matrix_expand.proofs.Overlays.{original_stays as proof}
use Rattle.matrix_expand.proofs.laws.originals_stay.Goals as goal

pub returns : goal.returns
returns c = proof
