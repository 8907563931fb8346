use Rattle.expr_value.proofs.JsonNumbers.{other_text_is_no_number}
use Rattle.expr_value.proofs.number_laws.other_text_is_no_number.Goals as goal

pub returns : goal.returns
returns c = other_text_is_no_number
