use Rattle.std.proofs.Common.{◌≡◌, ◌++◌, drop}
use Rattle.plan_assembler.specs.Order.{places_of}
use Rattle.plan_assembler.proofs.order.push_stage.Given as goal

abbrev pub invariant-loop-place : goal.invariant-loop-place
invariant-loop-place l = l.order.items ++ places_of l.stage l.place (drop l.place l.stages) ≡ l.fn.order.items ++ places_of l.stage 0 l.stages
