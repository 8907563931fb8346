use Rattle.expr_value.proofs.OrderedValues.{value_is_ordered}
use Rattle.expr_value.proofs.evaluation_laws.values_have_ordered_keys.Goals as goal

pub returns : goal.returns
returns c = value_is_ordered
