use Rattle.expr_value.proofs.Statuses.{value_alike}
use Rattle.expr_value.proofs.evaluation_laws.expression_without_status.Goals as goal

pub returns : goal.returns
returns c = value_alike
