use Rattle.serde_json.specs.View.{view}
use Rattle.flow_reader.proofs.SoundRoots.{roots_sound}
use Rattle.flow_reader.proofs.load.roots_told.Goals as goal

pub returns-in-Ok-clause-rules : goal.returns-in-Ok-clause-rules
returns-in-Ok-clause-rules c = roots_sound (view c.args.json.now) c.in-Ok.roots c.in-Ok.ensures
