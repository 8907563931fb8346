-- Laws of the call that a step makes: the variables that it is given, and the inputs of its action.
use Rattle.std.specs.Prelude.{◌≡◌, ℕ, List, [], ◌∷◌, Option, Some, None, Ok}
use Rattle.status_table.specs.Words.{Ascends, Board, CallWork, DoneStep, Each, Env, Event, IfCalled, JobPlan, LegAt, Plan, RunPlan, StepCall, StepPlan, TextPlace, Work, env_value, laid_over, leg_at, next_step, or_below, row, seen_from, set_over, value_at}

-- ---- plans whose maps name each key once, in the byte order of the keys; a `Mapping` never does otherwise

-- the inputs of an action do
abbrev pub WorkInOrder : Work → Type 0
WorkInOrder (Work.Run dir run shell) = Unit {0}
WorkInOrder (Work.Uses uses given) = Ascends given

-- the variables and the inputs of a step do
pub record StepInOrder (step : StepPlan) : Type 0 where
  pub env : Ascends step.env
  pub work : WorkInOrder step.work

-- the variables of a job do, and what its steps have
pub record JobInOrder (job : JobPlan) : Type 0 where
  pub env : Ascends job.env
  pub steps : Each StepInOrder job.steps

-- the variables of a workflow do, and what its jobs have
pub record RunInOrder (run : RunPlan) : Type 0 where
  pub env : Ascends run.env
  pub jobs : Each JobInOrder run.jobs

-- those of each run do
abbrev pub PlanInOrder : Plan → Type 0
PlanInOrder p = Each RunInOrder p.runs

-- ---- laws

-- The inputs of an action are named in order, each once.
abbrev pub AskedInOrder : CallWork → Type 0
AskedInOrder (CallWork.Script text shell dir) = Unit {0}
AskedInOrder (CallWork.Uses uses inputs) = Ascends inputs

-- A call names each variable once, in the byte order of the names, and each input likewise.
pub record CallInOrder (call : StepCall) : Type 0 where
  pub env : Ascends call.env
  pub work : AskedInOrder call.work

-- Each call that a legal Begin makes is one such.
abbrev pub CallsAreInOrder : Type 0
CallsAreInOrder =
    (p : Plan) (b : Board) (worker l : ℕ)
    → PlanInOrder p → IfCalled CallInOrder (row p b worker (Event.Begin l))

-- What the last of some done steps that set a name set it to, where one did.
abbrev pub last_set : List ℕ → List DoneStep → Option (List ℕ)
last_set name [] = None
last_set name (done ∷ later) = or_below (last_set name later) (value_at name done.env)

-- What each of some done steps set names each variable once, in the byte order of the names; a `Mapping` never does
-- otherwise.
abbrev pub SetInOrder : List DoneStep → Type 0
SetInOrder steps = Each (λ done. Ascends done.env) steps

-- The variables of a call are those of four levels: of the workflow, which see no variables, of the job,
-- which see none, what the done steps of the leg set, and of the step, which see those of the three. The most
-- specific level that has a name gives its value, of the done steps the last that set it, and a name that
-- none of them has is not there.
pub record MostSpecificIsGiven (at : LegAt) (step : StepPlan) (call : StepCall) : Type 0 where
  pub workflow : Env
  pub job : Env
  pub own : Env
  pub workflow_is : env_value (seen_from at TextPlace.WorkflowEnv []) at.run_plan.env ≡ Ok workflow
  pub job_is : env_value (seen_from at TextPlace.JobEnv []) at.job_plan.env ≡ Ok job
  pub own_is :
      env_value (seen_from at TextPlace.StepEnv (set_over at.leg.steps (laid_over job workflow))) step.env ≡ Ok own
  pub given : (name : List ℕ)
      → value_at name call.env
      ≡ or_below (value_at name own) (or_below (last_set name at.leg.steps)
      (or_below (value_at name job) (value_at name workflow)))

-- That is so of each call that a legal Begin makes of the next step of a leg.
abbrev pub CallsAreMostSpecific : Type 0
CallsAreMostSpecific =
    (p : Plan) (b : Board) (worker l : ℕ) (at : LegAt) (step : StepPlan)
    → PlanInOrder p → SetInOrder at.leg.steps → leg_at p b l ≡ Some at → next_step at ≡ Some step
    → IfCalled (MostSpecificIsGiven at step) (row p b worker (Event.Begin l))
