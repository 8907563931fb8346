use Rattle.flow_model.proofs.SoundRules.{plan_sound}
use Rattle.flow_model.proofs.check.CheckedPlan.plan.Goals as goal

pub returns-clause-rules : goal.returns-clause-rules
returns-clause-rules c = plan_sound c.tests_tell.ensures c.self.inside.plan c.self.invariant
