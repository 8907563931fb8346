use Rattle.expr_value.proofs.Agreeing.{value_agrees}
use Rattle.expr_value.proofs.evaluation_laws.expression_by_its_contexts.Goals as goal

pub returns : goal.returns
returns c = value_agrees
