use Rattle.flow_commands.proofs.FirstPlaces.{split_cuts, cut_splits}
use Rattle.flow_commands.proofs.laws.one_cut.Goals as goal

pub returns : goal.returns
returns c mark text front rest some = (split_cuts mark text front rest, cut_splits mark text front rest some)
