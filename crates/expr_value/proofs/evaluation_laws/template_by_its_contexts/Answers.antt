use Rattle.expr_value.proofs.Agreeing.{template_agrees}
use Rattle.expr_value.proofs.evaluation_laws.template_by_its_contexts.Goals as goal

pub returns : goal.returns
returns c = template_agrees
