use Rattle.std.proofs.Common.{◌≡◌, drop}
use Rattle.plan_assembler.specs.Placing.{waits}
use Rattle.plan_assembler.proofs.stages.waits.Given as goal

abbrev pub invariant-loop-need : goal.invariant-loop-need
invariant-loop-need l = waits l.found (drop l.need-index l.needs) ≡ waits l.found l.needs
