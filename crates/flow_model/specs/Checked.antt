-- What the check of a plan answers.
use Rattle.std.specs.Prelude.{◌≡◌, Some, Result, Ok, Err}
use Rattle.flow_model.specs.Rules.{plan_rules, IsPlan}
use Rattle.flow_model.specs.Sound.{SoundPlan}
use Rattle.flow_model.specs.declared.check.Broken.{Broken}
use Rattle.flow_model.specs.declared.check.Broken.TheVariants.{Rule, Memory}
use Rattle.flow_model.specs.declared.plan.Plan.{Plan}

-- A plan is accepted exactly where no rule is broken, and else refused at the path of the first that is; memory may run out besides.
abbrev pub ChecksPlan : Plan → Result Plan Broken → Type 0
ChecksPlan p (Ok checked) = IsPlan p
ChecksPlan p (Err (Rule path)) = plan_rules p ≡ Some path
ChecksPlan p (Err Memory) = Unit {0}

-- In the rules' own words: a plan is accepted exactly where each rule holds.
abbrev pub AcceptsSound : Plan → Result Plan Broken → Type 0
AcceptsSound p (Ok checked) = SoundPlan p
AcceptsSound p (Err (Rule path)) = SoundPlan p → ⊥
AcceptsSound p (Err Memory) = Unit {0}
