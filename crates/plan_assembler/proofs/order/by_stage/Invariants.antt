use Rattle.std.proofs.Common.{◌≡◌, ◌++◌, ◌-◌, length}
use Rattle.plan_assembler.specs.Order.{by_stage}
use Rattle.plan_assembler.proofs.order.by_stage.Given as goal

abbrev pub invariant-loop-stage : goal.invariant-loop-stage
invariant-loop-stage l = l.order.items ++ by_stage (length l.stages - l.stage) l.stage l.stages ≡ by_stage (length l.stages) 0 l.stages
