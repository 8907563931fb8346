-- How the jobs of a run that is Going stand, and how many of them stand how.
use Rattle.std.specs.Prelude.{ℕ, ◌==◌, ◌&&◌, ◌||◌, Bool, true, false, not, List, length, nat_lt, count_by, Option, Some, None, slice_get, if◌then◌else◌}
use Rattle.status_table.specs.Words.{Job, JobState, Outcome, Run, RunState, is_cancelled, is_failure, is_open, is_success, result_by, is_shut}
use Rattle.board_counters.specs.Counters.{is_settled, tally_of, turned}
use Rattle.board_counters.specs.declared.standing.JobStanding.{JobStanding}
use Rattle.board_counters.specs.declared.standing.JobCounter.{JobCounter}
use Rattle.board_counters.specs.declared.standing.RunTally.{RunTally}
use Rattle.board_counters.specs.declared.tally.Tally.{Tally}

-- ---- one job

-- a job that was not judged
abbrev pub is_unjudged : JobState → Bool
is_unjudged JobState.Unjudged = true
is_unjudged JobState.Open = false
is_unjudged (JobState.Shut result) = false

-- with the tally of a job's legs: whether one is Fresh, since more are not Ended than take a slot
abbrev pub has_fresh : Tally → Bool
has_fresh t = nat_lt t.used t.pending

-- whether one has failed, and one is not Ended
abbrev pub has_left : Tally → Bool
has_left t = nat_lt 0 t.failed && nat_lt 0 t.pending

-- Whether a job has ended by itself, and its result where its run is Going; whether it was not judged, and whether it is Open
-- and a leg of it may ask, or may be dropped since another has failed.
abbrev pub standing_of : Job → JobStanding
standing_of job =
    record {
      is_settled = is_settled job;
      result = result_by RunState.Going job.state job.legs;
      is_unjudged = is_unjudged job.state;
      may_ask = is_open job.state && has_fresh (tally_of job);
      may_drop = is_open job.state && has_left (tally_of job);
    }

-- how a job stands that is not there
abbrev pub no_standing : JobStanding
no_standing =
    record {
      is_settled = false;
      result = Outcome.Success;
      is_unjudged = false;
      may_ask = false;
      may_drop = false;
    }

-- ---- the same by the tally of a job's legs

-- what the ends of legs come to
abbrev pub tally_result : Tally → Outcome
tally_result t =
    if nat_lt 0 t.failed then Outcome.Failure else (if nat_lt 0 t.cancelled then Outcome.Cancelled else Outcome.Success)

-- what a job in a state comes to, with a tally
abbrev pub result_with : JobState → Tally → Outcome
result_with (JobState.Shut how) t = how
result_with JobState.Open t = tally_result t
result_with JobState.Unjudged t = tally_result t

-- how a job stands in a state, with a tally
abbrev pub standing_by : JobState → Tally → JobStanding
standing_by state t =
    record {
      is_settled = is_shut state || (t.pending == 0);
      result = result_with state t;
      is_unjudged = is_unjudged state;
      may_ask = is_open state && has_fresh t;
      may_drop = is_open state && has_left t;
    }

-- how a job stands by its tally, where both are there
abbrev pub standing_given : Option Job → Option Tally → JobStanding
standing_given None tally = no_standing
standing_given (Some job) None = no_standing
standing_given (Some job) (Some t) = standing_by job.state t

-- how the job at a place of a run stands, by a row of tallies
abbrev pub standing_read : Option Run → Option (List Tally) → ℕ → JobStanding
standing_read None row j = no_standing
standing_read (Some run) None j = no_standing
standing_read (Some run) (Some row) j = standing_given (slice_get run.jobs j) (slice_get row j)

-- ---- the jobs of a run

-- whether a job that stands so is counted
abbrev pub counts_job : JobCounter → JobStanding → Bool
counts_job JobCounter.Open s = not s.is_settled
counts_job JobCounter.Failed s = is_failure s.result
counts_job JobCounter.Cancelled s = is_cancelled s.result
counts_job JobCounter.Unsuccessful s = not (is_success s.result)
counts_job JobCounter.Unjudged s = s.is_unjudged
counts_job JobCounter.Asking s = s.may_ask
counts_job JobCounter.Dropping s = s.may_drop

-- how many of some jobs are counted
abbrev pub counted_jobs : JobCounter → List Job → ℕ
counted_jobs what jobs = count_by (λ job. counts_job what (standing_of job)) jobs

-- how the jobs of a run stand
abbrev pub run_tally : Run → RunTally
run_tally run =
    record {
      jobs = length run.jobs;
      pending = counted_jobs JobCounter.Open run.jobs;
      failed = counted_jobs JobCounter.Failed run.jobs;
      cancelled = counted_jobs JobCounter.Cancelled run.jobs;
      unsuccessful = counted_jobs JobCounter.Unsuccessful run.jobs;
      unjudged = counted_jobs JobCounter.Unjudged run.jobs;
      asking = counted_jobs JobCounter.Asking run.jobs;
      dropping = counted_jobs JobCounter.Dropping run.jobs;
    }

-- the counts where one job stood so, and now stands so
abbrev pub run_moved : JobStanding → JobStanding → RunTally → RunTally
run_moved was is t =
    record {
      jobs = t.jobs;
      pending = turned t.jobs t.pending (counts_job JobCounter.Open was) (counts_job JobCounter.Open is);
      failed = turned t.jobs t.failed (counts_job JobCounter.Failed was) (counts_job JobCounter.Failed is);
      cancelled = turned t.jobs t.cancelled (counts_job JobCounter.Cancelled was) (counts_job JobCounter.Cancelled is);
      unsuccessful = turned t.jobs t.unsuccessful (counts_job JobCounter.Unsuccessful was) (counts_job JobCounter.Unsuccessful is);
      unjudged = turned t.jobs t.unjudged (counts_job JobCounter.Unjudged was) (counts_job JobCounter.Unjudged is);
      asking = turned t.jobs t.asking (counts_job JobCounter.Asking was) (counts_job JobCounter.Asking is);
      dropping = turned t.jobs t.dropping (counts_job JobCounter.Dropping was) (counts_job JobCounter.Dropping is);
    }

-- what is counted of a run that may be there
abbrev pub run_tally_there : Option RunTally → RunTally
run_tally_there None =
    record {
      jobs = 0;
      pending = 1;
      failed = 0;
      cancelled = 0;
      unsuccessful = 0;
      unjudged = 0;
      asking = 0;
      dropping = 0;
    }
run_tally_there (Some t) = t

-- the result of a run whose jobs stand so, by whether it is told to stop
abbrev pub told_result : Bool → RunTally → Outcome
told_result stop t =
    if nat_lt 0 t.failed then Outcome.Failure
    else (if stop || nat_lt 0 t.cancelled then Outcome.Cancelled else Outcome.Success)
