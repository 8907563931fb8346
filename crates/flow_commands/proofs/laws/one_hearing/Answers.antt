use Rattle.flow_commands.proofs.HeardLines.{one_hearing}
use Rattle.flow_commands.proofs.laws.one_hearing.Goals as goal

pub returns : goal.returns
returns c = one_hearing
