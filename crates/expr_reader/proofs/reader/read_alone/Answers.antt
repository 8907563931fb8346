-- What reading gives, in the words of the text's spelling.
use Rattle.expr_reader.proofs.Expressions.{answers_found, answers_only, answers_stand}
use Rattle.expr_reader.proofs.reader.read_alone.Goals as goal

pub returns-clause-found : goal.returns-clause-found
returns-clause-found c = answers_found c.args.text.now c.read_at.result c.read_at.ensures

pub returns-clause-only : goal.returns-clause-only
returns-clause-only c = answers_only c.args.text.now c.read_at.result c.read_at.ensures

pub returns-clause-stands : goal.returns-clause-stands
returns-clause-stands c = answers_stand c.args.text.now c.read_at.result c.read_at.ensures
