use Rattle.std.proofs.Common.{◌≡◌, map, max, drop, get_or}
use Rattle.plan_assembler.specs.Stages.{stage_after}
use Rattle.plan_assembler.proofs.staging.next_stage.Given as goal

-- the greatest so far, and that of the needs that are left
abbrev pub invariant-loop-need : goal.invariant-loop-need
invariant-loop-need l = max l.stage (stage_after (map (λ k. get_or l.found k 0) (drop l.need-index l.needs))) ≡ stage_after (map (λ k. get_or l.found k 0) l.needs)
