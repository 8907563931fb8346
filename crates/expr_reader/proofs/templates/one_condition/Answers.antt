-- Reading is a function, and gives back what is spelled.
use Rattle.expr_reader.proofs.Accepts.{condition_once}
use Rattle.expr_reader.proofs.templates.one_condition.Goals as goal

pub returns : goal.returns
returns c = condition_once
