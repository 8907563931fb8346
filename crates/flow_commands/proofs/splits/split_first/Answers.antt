-- The text is split where it has the mark.
use Rattle.flow_commands.proofs.Splitting.{split_once_is}
use Rattle.flow_commands.proofs.splits.split_first.Goals as goal

pub returns : goal.returns
returns c = split_once_is c.args.mark.now c.args.text.now c.split_once.result c.requires c.split_once.ensures.cases
