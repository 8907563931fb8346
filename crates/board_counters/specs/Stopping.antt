-- How many legs the jobs of a run have, and how many of them are told to stop.
use Rattle.std.specs.Prelude.{ℕ, Bool, false, List, length, count_by, sum_by, Option, Some, None}
use Rattle.status_table.specs.Words.{Job, Leg, Run}
use Rattle.board_counters.specs.Counters.{turned}
use Rattle.board_counters.specs.declared.stopping.RunLegs.{RunLegs}

-- how many legs some jobs have
abbrev pub legs_of_jobs : List Job → ℕ
legs_of_jobs jobs = sum_by (λ job. length job.legs) jobs

-- how many of a job's legs are told to stop
abbrev pub told_of : Job → ℕ
told_of job = count_by (λ leg. leg.stop) job.legs

-- how many legs the jobs of a run have, and how many of these are told to
abbrev pub run_legs : Run → RunLegs
run_legs run = record { all = legs_of_jobs run.jobs; told = sum_by told_of run.jobs }

-- how many legs the jobs of a run have, of which none is told to
abbrev pub untold_legs : Run → RunLegs
untold_legs run = record { all = legs_of_jobs run.jobs; told = 0 }

-- the counts where one leg was told to or not, and now is or is not
abbrev pub told_turned : Bool → Bool → RunLegs → RunLegs
told_turned was is t = record t { told = turned t.all t.told was is }

-- whether a leg that may be there is told to stop
abbrev pub is_told : Option Leg → Bool
is_told None = false
is_told (Some leg) = leg.stop

-- what is counted of a run that may be there
abbrev pub run_legs_there : Option RunLegs → RunLegs
run_legs_there None = record { all = 0; told = 0 }
run_legs_there (Some t) = t
