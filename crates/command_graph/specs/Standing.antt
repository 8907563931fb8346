-- How runs, jobs and legs of a board stand, in one word and one colour.
use Rattle.std.specs.Prelude.{ℕ, ◌++◌, Bool, true, false, not, codes, if◌then◌else◌, List, [], Option, Some, None, slice_get}
use Rattle.std.specs.List.{list_all, list_any}
use Rattle.status_table.specs.Words.{Job, JobState, Leg, LegState, Outcome, Run, RunState, outcome_word}
use Rattle.command_graph.specs.declared.standing.Stand.{Stand}
use Rattle.command_graph.specs.declared.standing.Stand.TheVariants.{Waiting, Running, Ended}

-- ---- words and colours

abbrev pub outcome_colour : Outcome → List ℕ
outcome_colour Outcome.Success = codes "palegreen"
outcome_colour Outcome.Failure = codes "lightcoral"
outcome_colour Outcome.Cancelled = codes "khaki"
outcome_colour Outcome.Skipped = codes "lightgrey"

abbrev pub stand_word : Stand → List ℕ
stand_word Waiting = codes "waiting"
stand_word Running = codes "running"
stand_word (Ended result) = outcome_word result

abbrev pub stand_colour : Stand → List ℕ
stand_colour Waiting = codes "white"
stand_colour Running = codes "lightblue"
stand_colour (Ended result) = outcome_colour result

-- A failure may be tolerated.
abbrev pub tolerated_word : Bool → List ℕ
tolerated_word false = []
tolerated_word true = codes " tolerated"

abbrev pub leg_words : LegState → List ℕ
leg_words LegState.Fresh = codes "fresh"
leg_words LegState.Waiting = codes "waiting"
leg_words LegState.Admitted = codes "admitted"
leg_words (LegState.Running worker in_call) = codes "running"
leg_words (LegState.Ended result tolerated) = outcome_word result ++ tolerated_word tolerated

-- ---- how they stand

-- A leg has ended.
abbrev pub is_ended : LegState → Bool
is_ended LegState.Fresh = false
is_ended LegState.Waiting = false
is_ended LegState.Admitted = false
is_ended (LegState.Running worker in_call) = false
is_ended (LegState.Ended result tolerated) = true

-- A leg ended with a failure that is not tolerated.
abbrev pub has_failed : LegState → Bool
has_failed LegState.Fresh = false
has_failed LegState.Waiting = false
has_failed LegState.Admitted = false
has_failed (LegState.Running worker in_call) = false
has_failed (LegState.Ended Outcome.Success tolerated) = false
has_failed (LegState.Ended Outcome.Failure tolerated) = not tolerated
has_failed (LegState.Ended Outcome.Cancelled tolerated) = false
has_failed (LegState.Ended Outcome.Skipped tolerated) = false

-- A leg ended cancelled.
abbrev pub was_cancelled : LegState → Bool
was_cancelled LegState.Fresh = false
was_cancelled LegState.Waiting = false
was_cancelled LegState.Admitted = false
was_cancelled (LegState.Running worker in_call) = false
was_cancelled (LegState.Ended Outcome.Success tolerated) = false
was_cancelled (LegState.Ended Outcome.Failure tolerated) = false
was_cancelled (LegState.Ended Outcome.Cancelled tolerated) = true
was_cancelled (LegState.Ended Outcome.Skipped tolerated) = false

-- The legs of a job that was opened: they run until all have ended, and come to a failure before a cancellation.
abbrev pub legs_stand : List Leg → Stand
legs_stand legs =
    if list_all (λ leg. is_ended leg.state) legs then Ended
    (if list_any (λ leg. has_failed leg.state) legs then Outcome.Failure
    else (if list_any (λ leg. was_cancelled leg.state) legs then Outcome.Cancelled else Outcome.Success))
    else Running

-- A job stands as its legs do where it was opened. One that was never judged ends with its run.
abbrev pub stand_by : RunState → JobState → List Leg → Stand
stand_by run (JobState.Shut result) legs = Ended result
stand_by run JobState.Open legs = legs_stand legs
stand_by RunState.New JobState.Unjudged legs = Waiting
stand_by RunState.Waiting JobState.Unjudged legs = Waiting
stand_by RunState.Going JobState.Unjudged legs = Waiting
stand_by (RunState.Closed result) JobState.Unjudged legs = Ended result

abbrev pub job_stand : Run → Job → Stand
job_stand run job = stand_by run.state job.state job.legs

abbrev pub run_stand : RunState → Stand
run_stand RunState.New = Waiting
run_stand RunState.Waiting = Waiting
run_stand RunState.Going = Running
run_stand (RunState.Closed result) = Ended result

-- ---- at a place of a run, where there is a board

-- How the job stands.
abbrev pub stand_there : Run → Option Job → Option Stand
stand_there run None = None
stand_there run (Some job) = Some (job_stand run job)

abbrev pub stand_at : Option Run → ℕ → Option Stand
stand_at None place = None
stand_at (Some run) place = stand_there run (slice_get run.jobs place)

-- The legs of the job, if it was opened.
abbrev pub opened_legs : JobState → List Leg → List Leg
opened_legs JobState.Unjudged legs = []
opened_legs JobState.Open legs = legs
opened_legs (JobState.Shut result) legs = []

abbrev pub legs_there : Option Job → List Leg
legs_there None = []
legs_there (Some job) = opened_legs job.state job.legs

abbrev pub legs_at : Option Run → ℕ → List Leg
legs_at None place = []
legs_at (Some run) place = legs_there (slice_get run.jobs place)

-- How a run stands.
abbrev pub stand_of_run : Option Run → Option Stand
stand_of_run None = None
stand_of_run (Some run) = Some (run_stand run.state)
