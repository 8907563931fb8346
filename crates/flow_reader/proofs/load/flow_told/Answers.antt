use Rattle.serde_json.specs.View.{view}
use Rattle.flow_reader.proofs.SoundJobs.{flow_sound}
use Rattle.flow_reader.proofs.load.flow_told.Goals as goal

pub new-requires : goal.new-requires
new-requires c = flow_sound c.args.path.now (view c.args.json.now) _ c.jobs_ascend.ensures c.in-Ok.ensures
