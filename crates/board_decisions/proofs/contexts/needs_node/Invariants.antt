use Rattle.std.proofs.Common.{◌≡◌, [], drop}
use Rattle.plan_values.specs.Words.{viewed}
use Rattle.board_decisions.specs.Contexts.{with_needs}
use Rattle.board_decisions.specs.Seen.{job_seen}
use Rattle.board_decisions.proofs.contexts.needs_node.Given as goal

-- The jobs that are left, over those that were set, are all.
abbrev pub invariant-loop-need : goal.invariant-loop-need
invariant-loop-need l =
    with_needs (job_seen l.at) (drop l.need-index l.needs) (viewed l.made) ≡ with_needs (job_seen l.at) l.needs []
