use Rattle.flow_commands.proofs.LastItems.{one_giving}
use Rattle.flow_commands.proofs.laws.one_giving.Goals as goal

pub returns : goal.returns
returns c = one_giving
