use Rattle.plan_values.proofs.OwnTexts.{own_value}
use Rattle.plan_values.proofs.laws.text_is_itself.Goals as goal

pub returns : goal.returns
returns c = own_value c.itself_reading.ensures
