use Rattle.expr_value.proofs.Mirror.{inequality_is_opposite}
use Rattle.expr_value.proofs.laws.inequality_is_opposite.Goals as goal

pub returns : goal.returns
returns c = inequality_is_opposite
