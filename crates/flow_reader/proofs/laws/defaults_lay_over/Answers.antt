use Rattle.flow_reader.proofs.Levels.{defaults_lay_over as proof}
use Rattle.flow_reader.proofs.laws.defaults_lay_over.Goals as goal

pub returns : goal.returns
returns c = proof
