use Rattle.std.proofs.Common.{◌≡◌, ◌+◌, take}
use Rattle.board_settled.specs.Words.{ByAnswers}
use Rattle.board_settled.proofs.Runs.{JobsAreSettled}
use Rattle.board_settled.proofs.Numbers.{before_job}
use Rattle.board_settled.proofs.Played.{jobs_of}
use Rattle.board_settled.proofs.run.is_run_settled.Given as goal

-- The jobs so far are settled, and the number of the first leg after theirs is known.
abbrev pub invariant-loop-place : goal.invariant-loop-place
invariant-loop-place g l = record {
  number : l.next ≡ l.first + before_job l.place l.at.plan.now.jobs;
  jobs : ByAnswers (g.H.StepHost.admits l.host) (g.H.StepHost.declines l.host) (λ answers.
      JobsAreSettled (take l.place (jobs_of answers l.first l.at.plan.now)) (take l.place l.at.run.now.jobs));
}
