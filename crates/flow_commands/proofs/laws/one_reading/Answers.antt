use Rattle.flow_commands.proofs.Items.{one_reading}
use Rattle.flow_commands.proofs.laws.one_reading.Goals as goal

pub returns : goal.returns
returns c = one_reading
