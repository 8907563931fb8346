use Rattle.std.proofs.Common.{◌↔◌, drop}
use Rattle.board_settled.specs.Words.{AllZip, ByAnswers, LegIsSettled, job_seen, legs_from, legs_settled, needs_value}
use Rattle.board_settled.proofs.job.are_legs_settled.Given as goal

-- The legs that are left are settled where all are.
abbrev pub invariant-loop-place : goal.invariant-loop-place
invariant-loop-place g l =
    ByAnswers (g.H.StepHost.admits l.host) (g.H.StepHost.declines l.host) (λ answers.
    AllZip LegIsSettled (legs_from answers l.at.run_plan.now l.at.plan.now (needs_value (job_seen l.at)) l.first l.place (drop l.place l.at.plan.now.legs)) (drop l.place l.legs)
    ↔ AllZip LegIsSettled (legs_settled answers l.at.run_plan.now l.at.plan.now (needs_value (job_seen l.at)) l.first) l.legs)
