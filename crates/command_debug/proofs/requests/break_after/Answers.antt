use Rattle.command_debug.proofs.Asked.{after_front}
use Rattle.command_debug.specs.Requests.{Names}
use Rattle.command_debug.proofs.requests.break_after.Goals as goal

pub returns-in-Some : goal.returns-in-Some
returns-in-Some c = after_front Names c.args.front.now c.args.text.now c.in-Some.name.now c.break_named.result c.in-Some.ensures c.break_named.ensures
