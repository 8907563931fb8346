use Rattle.expr_value.specs.Formatting.{texts_of}
use Rattle.expr_value.proofs.Braces.{closed_none}
use Rattle.expr_value.proofs.format.closed_piece.Goals as goal

pub returns-in-None : goal.returns-in-None
returns-in-None c = closed_none (texts_of c.args.arguments.now) c.args.text.now c.in-None.ensures
