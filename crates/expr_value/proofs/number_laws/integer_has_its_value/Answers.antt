use Rattle.expr_value.proofs.JsonNumbers.{integer_has_its_value}
use Rattle.expr_value.proofs.number_laws.integer_has_its_value.Goals as goal

pub returns : goal.returns
returns c = integer_has_its_value
