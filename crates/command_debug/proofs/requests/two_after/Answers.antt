use Rattle.command_debug.proofs.Asked.{after_front}
use Rattle.command_debug.specs.Requests.{WritesTwo}
use Rattle.command_debug.proofs.requests.two_after.Goals as goal

pub returns-in-Some : goal.returns-in-Some
returns-in-Some c = after_front WritesTwo c.args.front.now c.args.text.now c.in-Some.both.now c.two_numbers.result c.in-Some.ensures c.two_numbers.ensures
