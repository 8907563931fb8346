use Rattle.std.proofs.Common.{◌≡◌, drop}
use Rattle.plan_assembler.specs.Texts.{of_each, of_step}
use Rattle.plan_assembler.proofs.texts.steps.Given as goal

abbrev pub invariant-loop-item : goal.invariant-loop-item
invariant-loop-item l = of_each of_step (drop l.item-index l.steps) ≡ of_each of_step l.steps
