use Rattle.flow_commands.proofs.Covering.{one_covering}
use Rattle.flow_commands.proofs.laws.one_covering.Goals as goal

pub returns : goal.returns
returns c = one_covering
