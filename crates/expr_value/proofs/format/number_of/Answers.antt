use Rattle.expr_value.proofs.Braces.{number_read}
use Rattle.expr_value.proofs.format.number_of.Goals as goal

pub returns-in-Ok : goal.returns-in-Ok
returns-in-Ok c = rw c.in-Ok.is at (number_read c.args.digits.now c.parse.result c.parse.ensures.value.0 c.requires.digits c.requires.some)

pub returns-in-Err : goal.returns-in-Err
returns-in-Err c = rw c.in-Err.is at (number_read c.args.digits.now c.parse.result c.parse.ensures.value.0 c.requires.digits c.requires.some)
