-- The front is stripped.
use Rattle.flow_commands.proofs.Standing.{strip_front}
use Rattle.flow_commands.proofs.splits.after_front.Goals as goal

pub returns : goal.returns
returns c = strip_front c.args.front.now c.args.text.now c.strip_prefix.result c.strip_prefix.ensures.cases
