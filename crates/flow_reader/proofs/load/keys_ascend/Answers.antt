use Rattle.flow_model.proofs.Pairs.{Ascends-pairs_of}
use Rattle.flow_reader.proofs.SoundJobs.{map_ascends}
use Rattle.flow_reader.proofs.load.keys_ascend.Goals as goal

pub returns : goal.returns
returns c = map_ascends c.args.members.now.entries (Ascends-pairs_of _ c.iter-members.ensures.ordered)
