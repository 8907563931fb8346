use Rattle.std.proofs.Common.{◌≡◌, [], map, drop}
use Rattle.std.specs.List.{filter_map}
use Rattle.board_decisions.specs.Contexts.{job_leg, overlaid}
use Rattle.board_decisions.proofs.contexts.job_outputs.Given as goal

-- The outputs that are left, over those that were laid, are all.
abbrev pub invariant-loop-end : goal.invariant-loop-end
invariant-loop-end l =
    overlaid (map (λ leg. leg.outputs) (filter_map (job_leg l.board l.job) (drop l.end-index l.ends))) l.made
    ≡ overlaid (map (λ leg. leg.outputs) (filter_map (job_leg l.board l.job) l.ends)) []
