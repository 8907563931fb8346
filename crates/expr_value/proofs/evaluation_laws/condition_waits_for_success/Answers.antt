use Rattle.expr_value.proofs.Statuses.{condition_waits}
use Rattle.expr_value.proofs.evaluation_laws.condition_waits_for_success.Goals as goal

pub returns : goal.returns
returns c = condition_waits
