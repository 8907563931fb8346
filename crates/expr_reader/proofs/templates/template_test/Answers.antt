-- The test passes where a template is read.
use Rattle.expr_reader.proofs.Accepts.{template_tested, template_passes}
use Rattle.expr_reader.proofs.templates.template_test.Goals as goal

pub returns : goal.returns
returns c = λ text. (template_tested text, template_passes text)
