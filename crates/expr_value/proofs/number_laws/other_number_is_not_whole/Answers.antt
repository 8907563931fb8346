use Rattle.expr_value.proofs.JsonNumbers.{other_number_is_not_whole}
use Rattle.expr_value.proofs.number_laws.other_number_is_not_whole.Goals as goal

pub returns : goal.returns
returns c = other_number_is_not_whole
