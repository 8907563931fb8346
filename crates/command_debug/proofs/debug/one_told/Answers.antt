use Rattle.command_debug.proofs.OneSession as law
use Rattle.command_debug.proofs.debug.one_told.Goals as goal

pub returns : goal.returns
returns c = law.one_told
