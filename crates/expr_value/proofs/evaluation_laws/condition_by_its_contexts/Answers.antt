use Rattle.expr_value.proofs.Agreeing.{condition_agrees}
use Rattle.expr_value.proofs.evaluation_laws.condition_by_its_contexts.Goals as goal

pub returns : goal.returns
returns c = condition_agrees
