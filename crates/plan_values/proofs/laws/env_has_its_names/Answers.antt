use Rattle.plan_values.proofs.Lawful.{env_has_its_names}
use Rattle.plan_values.proofs.laws.env_has_its_names.Goals as goal

pub returns : goal.returns
returns c = env_has_its_names
