use Rattle.command_debug.proofs.Asked.{no_request}
use Rattle.command_debug.proofs.requests.request_of.Goals as goal

pub returns-in-None : goal.returns-in-None
returns-in-None c = no_request c.args.line.now c.in_default.ensures c.in_default-number_after.ensures c.in_default-break_after.ensures c.in-None.ensures
