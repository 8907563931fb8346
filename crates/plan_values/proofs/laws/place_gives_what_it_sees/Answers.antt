use Rattle.plan_values.proofs.Sighting.{seen_value}
use Rattle.plan_values.proofs.laws.place_gives_what_it_sees.Goals as goal

pub returns : goal.returns
returns c = seen_value
