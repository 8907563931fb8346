-- What is found at a place, as values of the code stand for it.
use Rattle.board_decisions.specs.Place.{RunAt, JobAt, LegAt}
use Rattle.board_decisions.specs.declared.place.SeenRun.{SeenRun}
use Rattle.board_decisions.specs.declared.place.SeenJob.{SeenJob}
use Rattle.board_decisions.specs.declared.place.SeenLeg.{SeenLeg}

-- a run with its plan
abbrev pub run_seen : SeenRun → RunAt
run_seen x = record { board = x.board.now; plan = x.plan.now; run = x.run.now }

-- a job with its plan and run
abbrev pub job_seen : SeenJob → JobAt
job_seen x =
    record {
      board = x.board.now;
      place = x.place;
      run_plan = x.run_plan.now;
      plan = x.plan.now;
      run = x.run.now;
      job = x.job.now;
    }

-- a leg with its job and run
abbrev pub leg_seen : SeenLeg → LegAt
leg_seen x =
    record {
      board = x.board.now;
      place = x.place;
      run_plan = x.run_plan.now;
      job_plan = x.job_plan.now;
      run = x.run.now;
      job = x.job.now;
      leg = x.leg.now;
    }
