-- What has ended stays as it is: how a board stands to a later one.
use Rattle.std.specs.Prelude.{◌≡◌, true}
use Rattle.std.specs.List.{AllZip}
use Rattle.plan_values.specs.Words.{Board, Job, Leg, Run}
use Rattle.board_decisions.specs.Derived.{is_closed, is_shut, is_ended, job_has_ended, job_result}

-- a leg that is Ended is as it was
abbrev pub LegStays : Leg → Leg → Type 0
LegStays old new = is_ended old.state ≡ true → new ≡ old

-- A job that is Shut is as it was, and so is each of its legs that
-- is Ended. If it has ended, so it has later, with the same result.
pub record JobStays (old_run new_run : Run) (old new : Job) : Type 0 where
  pub legs : AllZip LegStays old.legs new.legs
  pub shut : is_shut old.state ≡ true → new ≡ old
  pub ended : job_has_ended old_run old ≡ true → job_has_ended new_run new ≡ true
  pub result : job_has_ended old_run old ≡ true → job_result new_run new ≡ job_result old_run old

-- a run that is Closed is as it was, and so is what has ended of its jobs
pub record RunStays (old new : Run) : Type 0 where
  pub jobs : AllZip (JobStays old new) old.jobs new.jobs
  pub closed : is_closed old.state ≡ true → new ≡ old

-- Each leg that is Ended, each job that is Shut and each run that is Closed is as it was, and so is the
-- result of each job that has ended.
abbrev pub Stays : Board → Board → Type 0
Stays old new = AllZip RunStays old.runs new.runs
