use Rattle.std.proofs.Common.{◌≡◌, [], length, drop}
use Rattle.board_settled.specs.Words.{ByAnswers, IsIdle, job_seen, planned, steps_from}
use Rattle.board_settled.proofs.leg.play_steps.Given as goal

-- So many steps are done, and what is settled goes on from there.
abbrev pub invariant-loop-done : goal.invariant-loop-done
invariant-loop-done g l = record {
  idle : IsIdle l.leg;
  many : length l.leg.steps ≡ l._done;
  goes_on : ByAnswers (g.H.StepHost.admits l.host) (g.H.StepHost.declines l.host) (λ answers.
      steps_from answers (planned l.spot.number (job_seen l.spot.at.now) l.spot.place) l.leg.steps (drop l._done l.spot.at.now.plan.now.steps)
      ≡ steps_from answers (planned l.spot.number (job_seen l.spot.at.now) l.spot.place) [] l.spot.at.now.plan.now.steps);
}
