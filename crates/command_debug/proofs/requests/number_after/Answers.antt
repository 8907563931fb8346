use Rattle.command_debug.proofs.Asked.{after_front}
use Rattle.command_debug.specs.Requests.{Writes}
use Rattle.command_debug.proofs.requests.number_after.Goals as goal

pub returns-in-Some : goal.returns-in-Some
returns-in-Some c = after_front Writes c.args.front.now c.args.text.now c.in-Some.digits.now c.number_of.result c.in-Some.ensures c.number_of.ensures
