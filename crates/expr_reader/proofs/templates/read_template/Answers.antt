-- What is answered, by the template that the text spells.
use Rattle.expr_reader.proofs.Accepts.{template_answered}
use Rattle.expr_reader.proofs.templates.read_template.Goals as goal

pub returns-clause-reads : goal.returns-clause-reads
returns-clause-reads c = template_answered c.args.text.now c.read_marked.result c.read_marked.ensures.found c.read_marked.ensures.only
