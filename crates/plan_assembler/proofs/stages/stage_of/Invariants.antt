use Rattle.std.proofs.Common.{◌≡◌, map, max, drop}
use Rattle.plan_assembler.specs.Placing.{found_at}
use Rattle.plan_assembler.specs.Stages.{stage_after}
use Rattle.plan_assembler.proofs.stages.stage_of.Given as goal

-- the greatest so far, and that of the needs that are left
abbrev pub invariant-loop-need : goal.invariant-loop-need
invariant-loop-need l = max l.stage (stage_after (map (found_at l.found) (drop l.need-index l.needs))) ≡ stage_after (map (found_at l.found) l.needs)
