-- What is read is spelled so, and the other way round.
use Rattle.expr_reader.proofs.Accepts.{templates_are_read}
use Rattle.expr_reader.proofs.templates.template_reading.Goals as goal

pub returns : goal.returns
returns c = templates_are_read
