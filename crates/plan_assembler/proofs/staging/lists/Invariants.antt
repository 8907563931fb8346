use Rattle.std.proofs.Common.{◌≡◌, ◌++◌, ◌-◌}
use Rattle.plan_assembler.specs.Staging.{stage_lists}
use Rattle.plan_assembler.proofs.staging.lists.Given as goal

abbrev pub invariant-loop-stage : goal.invariant-loop-stage
invariant-loop-stage l = l.lists.items ++ stage_lists (l.count - l.stage) l.stage l.found l.jobs ≡ stage_lists l.count 0 l.found l.jobs
