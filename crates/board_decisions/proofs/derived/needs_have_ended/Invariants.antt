use Rattle.std.proofs.Common.{◌≡◌, ◌-◌, drop, map}
use Rattle.std.specs.List.{list_all}
use Rattle.board_decisions.specs.Derived.{holds_at, job_has_ended}
use Rattle.board_decisions.proofs.derived.needs_have_ended.Given as goal

abbrev pub invariant-loop-need : goal.invariant-loop-need
invariant-loop-need l =
    list_all (λ need. holds_at (map (job_has_ended l.run) l.run.jobs) (need - l.first)) (drop l.need-index l.needs)
    ≡ list_all (λ need. holds_at (map (job_has_ended l.run) l.run.jobs) (need - l.first)) l.needs
