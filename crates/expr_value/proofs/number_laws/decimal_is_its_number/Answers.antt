use Rattle.expr_value.proofs.JsonNumbers.{decimal_is_its_number}
use Rattle.expr_value.proofs.number_laws.decimal_is_its_number.Goals as goal

pub returns : goal.returns
returns c = decimal_is_its_number
