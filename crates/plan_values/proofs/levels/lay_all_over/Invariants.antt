use Rattle.std.proofs.Common.{◌≡◌}
use Rattle.flow_model.specs.Mapping.{pairs_of}
use Rattle.plan_values.specs.Env.{laid_over}
use Rattle.plan_values.proofs.levels.lay_all_over.Given as goal

abbrev pub invariant-loop-name : goal.invariant-loop-name
invariant-loop-name g l = laid_over (pairs_of l.name-iterator) l.made ≡ laid_over l.fn.above l.fn.below
