use Rattle.std.proofs.Common.{◌≡◌, take, map}
use Rattle.board_counters.specs.Words.{need_of, settled_jobs}
use Rattle.board_counters.proofs.need.needs_of.Given as goal

abbrev pub invariant-loop-plan : goal.invariant-loop-plan
invariant-loop-plan l = l.needs.items ≡ map (need_of l.first (settled_jobs l.run)) (take l.plan-index l.plans)
