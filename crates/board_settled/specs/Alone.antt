-- What a job and its legs come to by themselves, on a board that shows what was settled before.
use Rattle.std.specs.Prelude.{◌≡◌, ◌≢◌, ℕ, ◌&&◌, false, true, Bool, List, [], length, Option, Some, None, Result, Ok, Err, option_map}
use Rattle.std.specs.List.{AllZip}
use Rattle.status_table.specs.Words.{Answer, DoneStep, Job, JobAt, JobState, Leg, LegAt, LegState, Outcome, StepCall, StepPlan, ValueFault, ancestors_status, answered_step, failed_step, is_failure, job_results, job_tolerates, leg_outputs, leg_result, needs_value, skipped_step, step_decision}
use Rattle.board_settled.specs.Agrees.{LegIsSettled}
use Rattle.board_settled.specs.Sees.{Spot}
use Rattle.board_settled.specs.Settled.{Answers, SettledLeg, SettledJob, needs_of, needs_given, status_after, steps_from}

-- ---- answers

-- These are the answers of a host: those that it admits, and none to a call that it declines.
pub record AreAnswersOf (admits : StepCall → Answer → Type 0) (declines : StepCall → Type 0) (answers : Answers) : Type 0 where
  pub admitted : (call : StepCall) (answer : Answer) → admits call answer → answers call ≡ Some answer
  pub declined : (call : StepCall) → declines call → answers call ≡ None

-- Something holds of the answers of a host, whichever function gives them.
abbrev pub ByAnswers : (StepCall → Answer → Type 0) → (StepCall → Type 0) → (Answers → Type 0) → Type 0
ByAnswers admits declines holds = (answers : Answers) → AreAnswersOf admits declines answers → holds answers

-- ---- legs

-- A success, or a failure.
abbrev pub success_if : Bool → Outcome
success_if true = Outcome.Success
success_if false = Outcome.Failure

-- A leg of a job, at a place, where it is as given.
abbrev pub leg_on : JobAt → ℕ → Leg → LegAt
leg_on at k leg =
    record {
      board = at.board;
      place = record { run = at.place.run; job = at.place.job; leg = k };
      run_plan = at.run_plan;
      job_plan = at.plan;
      run = at.run;
      job = at.job;
      leg = leg;
    }

-- A leg of a job as it is planned, by its number and its place.
abbrev pub planned : ℕ → JobAt → ℕ → Spot
planned number at k =
    record { number = number; run = at.run_plan; job = at.plan; place = k; needs = needs_value at }

-- No run is told to stop, and no other leg is beside.
pub record IsAlone (at : JobAt) : Type 0 where
  pub goes : at.run.stop ≡ false
  pub no_others : at.job.legs ≡ []

-- A leg with its worker, which is idle, and that is not told to stop.
pub record IsIdle (leg : Leg) : Type 0 where
  pub state : leg.state ≡ LegState.Running 0 false
  pub goes : leg.stop ≡ false

-- What the next step comes to by what is decided of it.
abbrev pub step_comes : Answers → LegAt → Result (Option StepCall) ValueFault → Option DoneStep
step_comes answers at (Ok None) = Some skipped_step
step_comes answers at (Ok (Some call)) = option_map (answered_step at) (answers call)
step_comes answers at (Err fault) = Some (failed_step at)

-- What the next step of a leg comes to.
abbrev pub next_comes : Answers → ℕ → LegAt → StepPlan → Option DoneStep
next_comes answers l at step = step_comes answers at (step_decision l at step)

-- The steps that are settled of a leg are all of its steps, and these are done; or they are not all.
abbrev pub StepsCome : Answers → Spot → Option Leg → Type 0
StepsCome answers spot (Some leg) =
    IsIdle leg × (leg.steps ≡ steps_from answers spot [] spot.job.steps)
    × (length leg.steps ≡ length spot.job.steps)
StepsCome answers spot None = length (steps_from answers spot [] spot.job.steps) ≢ length spot.job.steps

-- A leg is Ended as another would end now, with the same steps and the outputs that it would give.
pub record EndsAs (at : LegAt) (leg : Leg) : Type 0 where
  pub state : leg.state ≡ LegState.Ended (leg_result at) (is_failure (leg_result at) && job_tolerates at)
  pub steps : at.leg.steps ≡ leg.steps
  pub outputs : leg_outputs at ≡ leg.outputs

-- ---- jobs

-- What a job looks at is as settled, by the settled jobs before it. The first job of its run has this number.
pub record SeesSettled (first : ℕ) (before : List SettledJob) (at : JobAt) : Type 0 where
  pub given : needs_given before at.plan ≡ true
  pub needs : needs_value at ≡ needs_of at.run_plan before at.plan
  pub status : ancestors_status first at.run_plan.jobs (job_results at.run) at.place.job ≡ status_after at.run_plan before at.plan

-- A job was opened, and its legs are Ended as settled.
pub record IsOpened (given : List SettledLeg) (job : Job) : Type 0 where
  pub state : job.state ≡ JobState.Open
  pub legs : AllZip LegIsSettled given job.legs
