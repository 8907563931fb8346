-- Reading is a function, and gives back what is spelled.
use Rattle.expr_reader.proofs.Expressions.{spelled_once}
use Rattle.expr_reader.proofs.reader.one_reading.Goals as goal

pub returns : goal.returns
returns c = spelled_once
