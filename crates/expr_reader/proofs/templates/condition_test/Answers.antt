-- The test passes where a condition is read.
use Rattle.expr_reader.proofs.Accepts.{condition_tested, condition_passes}
use Rattle.expr_reader.proofs.templates.condition_test.Goals as goal

pub returns : goal.returns
returns c = λ text. (condition_tested text, condition_passes text)
