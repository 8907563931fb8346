use Rattle.expr_value.proofs.Statuses.{template_alike}
use Rattle.expr_value.proofs.evaluation_laws.template_without_status.Goals as goal

pub returns : goal.returns
returns c = template_alike
