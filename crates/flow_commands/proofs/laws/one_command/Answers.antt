use Rattle.flow_commands.proofs.HeardLines.{one_command}
use Rattle.flow_commands.proofs.laws.one_command.Goals as goal

pub returns : goal.returns
returns c = one_command
