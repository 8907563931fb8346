use Rattle.command_debug.proofs.OneRequest as law
use Rattle.command_debug.proofs.debug.one_request.Goals as goal

pub returns : goal.returns
returns c = law.one_request
