-- What is read is spelled so, and the other way round.
use Rattle.expr_reader.proofs.Accepts.{conditions_are_read}
use Rattle.expr_reader.proofs.templates.condition_reading.Goals as goal

pub returns : goal.returns
returns c = conditions_are_read
