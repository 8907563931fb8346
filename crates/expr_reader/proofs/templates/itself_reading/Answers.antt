-- What stands for itself is spelled so.
use Rattle.expr_reader.proofs.PlainTexts.{itself_is_read}
use Rattle.expr_reader.proofs.templates.itself_reading.Goals as goal

pub returns : goal.returns
returns c = itself_is_read
