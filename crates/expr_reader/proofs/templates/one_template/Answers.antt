-- Reading is a function, and gives back what is spelled.
use Rattle.expr_reader.proofs.Accepts.{template_once}
use Rattle.expr_reader.proofs.templates.one_template.Goals as goal

pub returns : goal.returns
returns c = template_once
