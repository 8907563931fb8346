use Rattle.expr_value.proofs.Mirror.{equality_is_symmetric}
use Rattle.expr_value.proofs.laws.equality_is_symmetric.Goals as goal

pub returns : goal.returns
returns c = equality_is_symmetric
