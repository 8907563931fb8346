-- A plan that is accepted keeps the rules in their own words, and one that is refused breaks one.
use Rattle.std.proofs.Common.{◌≡◌, Option, Some, None, Result, Ok, Err}
use Rattle.flow_model.specs.Checked.{AcceptsSound, ChecksPlan}
use Rattle.flow_model.specs.Found.{Path}
use Rattle.flow_model.specs.Rules.{plan_rules}
use Rattle.flow_model.specs.Sound.{TestsTell}
use Rattle.flow_model.specs.declared.check.Broken.{Broken}
use Rattle.flow_model.specs.declared.check.Broken.TheVariants.{Rule, Memory}
use Rattle.flow_model.specs.declared.plan.Plan.{Plan}
use Rattle.flow_model.proofs.SoundRules.{plan_sound, sound_plan}

refused : (o : Option Path) (path : Path) → o ≡ Some path → o ≡ None → ⊥
refused o path e f = cc

pub accepts_sound : TestsTell → (p : Plan) (r : Result Plan Broken) → ChecksPlan p r → AcceptsSound p r
accepts_sound tests p (Ok checked) h = plan_sound tests p h
accepts_sound tests p (Err (Rule path)) h = λ s. refused (plan_rules p) path h (sound_plan tests p s)
accepts_sound tests p (Err Memory) h = tt
