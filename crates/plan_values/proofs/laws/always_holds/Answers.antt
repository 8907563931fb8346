use Rattle.plan_values.proofs.Lawful.{always_holds}
use Rattle.plan_values.proofs.laws.always_holds.Goals as goal

pub returns : goal.returns
returns c = always_holds c.condition_reading.ensures
