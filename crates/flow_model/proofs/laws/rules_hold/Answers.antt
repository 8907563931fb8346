use Rattle.flow_model.proofs.SoundRules.{plan_sound, sound_plan}
use Rattle.flow_model.proofs.laws.rules_hold.Goals as goal

pub returns : goal.returns
returns c = λ p. (plan_sound c.tests_tell.ensures p, sound_plan c.tests_tell.ensures p)
