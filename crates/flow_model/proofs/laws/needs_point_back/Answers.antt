use Rattle.flow_model.proofs.JobNumbers.{needs_back}
use Rattle.flow_model.proofs.laws.needs_point_back.Goals as goal

pub returns : goal.returns
returns c = needs_back c.tests_tell.ensures
