use Rattle.plan_values.proofs.Lawful.{levels_stay_in_order}
use Rattle.plan_values.proofs.laws.levels_stay_in_order.Goals as goal

pub returns : goal.returns
returns c = levels_stay_in_order
