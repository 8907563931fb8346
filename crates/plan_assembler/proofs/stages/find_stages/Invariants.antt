use Rattle.plan_assembler.specs.Placing.{IsPlacing, count_open}
use Rattle.plan_assembler.proofs.stages.find_stages.Given as goal

abbrev pub invariant-loop : goal.invariant-loop
invariant-loop l = IsPlacing l.graph l.found.items

abbrev pub decreases-loop : goal.decreases-loop
decreases-loop l = count_open l.found.items
