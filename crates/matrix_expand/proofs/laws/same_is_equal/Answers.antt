use Rattle.matrix_expand.proofs.SameValues.{same_is_equal as proof}
use Rattle.matrix_expand.proofs.laws.same_is_equal.Goals as goal

pub returns : goal.returns
returns c = proof
