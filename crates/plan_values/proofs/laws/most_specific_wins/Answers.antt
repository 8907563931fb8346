use Rattle.plan_values.proofs.Lawful.{most_specific_wins}
use Rattle.plan_values.proofs.laws.most_specific_wins.Goals as goal

pub returns : goal.returns
returns c = most_specific_wins
