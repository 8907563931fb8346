use Rattle.plan_values.proofs.Lawful.{truth_is_itself}
use Rattle.plan_values.proofs.laws.truth_is_itself.Goals as goal

pub returns : goal.returns
returns c = truth_is_itself
