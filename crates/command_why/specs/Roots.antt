-- What is asked where nothing is named: all that did not end in success.
use Rattle.std.specs.Prelude.{ℕ, ◌+◌, ◌++◌, ◌&&◌, ◌||◌, Bool, true, false, not, nat_lt, is_some, List, [], ◌∷◌, length, Option, Some, None}
use Rattle.status_table.specs.Words.{Job, Leg, LegAt, LegState, Run, is_going, is_open, is_success, job_at, job_has_ended, job_result, leg_at, run_at}
use Rattle.why_causes.specs.Causes.{asked, is_judged}
use Rattle.why_causes.specs.declared.question.Question.{Question}
use Rattle.why_notes.specs.Account.{Account}
use Rattle.command_io.specs.Runs.{has_succeeded}

-- a run that did not succeed
abbrev pub run_is_asked : Run → Bool
run_is_asked run = not (has_succeeded run.state)

-- A job that did not succeed; one that was not judged is asked where its run is Going.
abbrev pub job_is_asked : Run → Job → Bool
job_is_asked run job =
    (is_judged job.state || is_going run.state) && not (job_has_ended run job && is_success (job_result run job))

-- a leg ended with success
abbrev pub leg_succeeded : LegState → Bool
leg_succeeded LegState.Fresh = false
leg_succeeded LegState.Waiting = false
leg_succeeded LegState.Admitted = false
leg_succeeded (LegState.Running worker in_call) = false
leg_succeeded (LegState.Ended result tolerated) = is_success result

-- a leg of an open job that did not succeed
abbrev pub leg_is_asked : Job → Leg → Bool
leg_is_asked job leg = is_open job.state && not (leg_succeeded leg.state)

-- the jobs of runs that did not succeed, of which the first has this number
abbrev pub jobs_left : ℕ → List Run → List Question
jobs_left n [] = []
jobs_left n (run ∷ runs) =
    asked Question.Job n (job_is_asked run) run.jobs ++ jobs_left (n + length run.jobs) runs

-- the legs of jobs that did not succeed, of which the first has this number
abbrev pub legs_left : ℕ → List Job → List Question
legs_left n [] = []
legs_left n (job ∷ jobs) =
    asked Question.Leg n (leg_is_asked job) job.legs ++ legs_left (n + length job.legs) jobs

-- how many legs some jobs have
abbrev pub legs_count : List Job → ℕ
legs_count [] = 0
legs_count (job ∷ jobs) = length job.legs + legs_count jobs

-- the same of the jobs of runs
abbrev pub run_legs_left : ℕ → List Run → List Question
run_legs_left n [] = []
run_legs_left n (run ∷ runs) = legs_left n run.jobs ++ run_legs_left (n + legs_count run.jobs) runs

-- the runs, the jobs and then the legs that did not succeed
abbrev pub all_left : List Run → List Question
all_left runs = asked Question.Run 0 run_is_asked runs ++ (jobs_left 0 runs ++ run_legs_left 0 runs)

-- ---- what is named

-- a leg is there, and its job has a step at this place
abbrev pub has_step : ℕ → Option LegAt → Bool
has_step s None = false
has_step s (Some at) = nat_lt s (length at.job_plan.steps)

-- what is named is there; that something was told to stop is not asked about
abbrev pub is_there : Account → Question → Bool
is_there a (Question.Run r) = is_some (run_at a.plan a.board r)
is_there a (Question.Job j) = is_some (job_at a.plan a.board j)
is_there a (Question.Leg l) = is_some (leg_at a.plan a.board l)
is_there a (Question.Step l s) = has_step s (leg_at a.plan a.board l)
is_there a (Question.Stop who) = false

-- the roots of the tree, if what is named is there
abbrev pub named_roots : Question → Bool → Option (List Question)
named_roots q false = None
named_roots q true = Some (q ∷ [])

abbrev pub roots : Account → Option Question → Option (List Question)
roots a None = Some (all_left a.board.runs)
roots a (Some q) = named_roots q (is_there a q)
