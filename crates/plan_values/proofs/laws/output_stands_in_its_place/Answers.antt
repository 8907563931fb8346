use Rattle.plan_values.proofs.Lawful.{output_stands_in_its_place}
use Rattle.plan_values.proofs.laws.output_stands_in_its_place.Goals as goal

pub returns : goal.returns
returns c = output_stands_in_its_place
