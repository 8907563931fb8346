use Rattle.std.proofs.Common.{◌≡◌, ◌++◌, ◌+◌, drop}
use Rattle.plan_assembler.specs.Order.{numbers_of}
use Rattle.plan_assembler.proofs.order.numbers_of.Given as goal

abbrev pub invariant-loop-place : goal.invariant-loop-place
invariant-loop-place l = l.numbers.items ++ numbers_of (l.first + l.place) (drop l.place l.order) l.needs ≡ numbers_of l.first l.order l.needs
