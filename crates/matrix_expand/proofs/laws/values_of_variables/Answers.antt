use Rattle.matrix_expand.proofs.Values.{values_of_variables as proof}
use Rattle.matrix_expand.proofs.laws.values_of_variables.Goals as goal

pub returns : goal.returns
returns c = proof
