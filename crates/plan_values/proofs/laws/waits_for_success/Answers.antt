use Rattle.plan_values.proofs.Lawful.{waits_for_success}
use Rattle.plan_values.proofs.laws.waits_for_success.Goals as goal

pub returns : goal.returns
returns c = waits_for_success
