-- What holds of each run, job and leg in play beside what is settled, and what is known of their plan.
use Rattle.std.proofs.Common.{◌≡◌, ℕ, zero, suc, ◌+◌, ◌-◌, Bool, true, false, List, [], ◌∷◌, ◌++◌, Option, Some, None, Ok, length, take, drop, slice_get, ap, sym, refl, ◌∙◌, arith, append-nil, append_assoc, nat_lt}
use Rattle.board_settled.specs.Words.{Answers, Board, DoneStep, IsFree, IsPlan, Job, JobAt, JobPlan, JobState, Lawful, Leg, LegState, NeedsPointBack, Outcome, Plan, Run, RunPlan, RunState, SettledJob, SettledLeg, Spot, StepCall, StepPlan, finish_of, first_job, is_closed, is_ended, is_open, job_at, job_settled, jobs_from, legs_settled, needs_have_ended, needs_of, next_call, opened, run_after, shut, spot_at, steps_from}
use Rattle.board_settled.proofs.Numbers.{before_run, before_job}
use Rattle.std.proofs.lemmas.Bool.{le-leb}
use Rattle.status_table.proofs.Found.{job_stands}
use Rattle.board_decisions.proofs.Lists.{same_some}
use Rattle.status_table.proofs.Turns.{Fits}
use Rattle.board_settled.proofs.Lists.{all-of}
use Rattle.board_settled.proofs.Needs.{IsOrdered}

-- ---- legs

-- a leg that has not asked
abbrev pub fresh_leg : Leg
fresh_leg = record { state = LegState.Fresh; stop = false; group = None; steps = []; outputs = [] }

-- a job that was judged
abbrev pub is_judged : JobState → Bool
is_judged JobState.Unjudged = false
is_judged other = true

-- a call of a leg is open, for its next step
pub record InCall (spot : Spot) (done : List DoneStep) (call : Option StepCall) : Type 0 where
  pub step : StepPlan
  pub planned : slice_get spot.job.steps (length done) ≡ Some step
  pub asked : StepCall
  pub is_open : call ≡ Some asked
  pub is_next : next_call spot done step ≡ Ok (Some asked)

-- where a leg is in a call
abbrev pub CallStands : Spot → List DoneStep → Option StepCall → LegState → Type 0
CallStands spot done call (LegState.Running worker true) = InCall spot done call
CallStands spot done call other = Unit {0}

-- a leg that is Ended has done all its steps, and ended as is settled
pub record EndsRightly (spot : Spot) (leg : Leg) (result : Outcome) (tolerated : Bool) : Type 0 where
  pub all : length leg.steps ≡ length spot.job.steps
  pub finish : finish_of spot leg.steps ≡ record { result = result; tolerated = tolerated; outputs = leg.outputs }

-- A leg that is not told to stop and is in no group: what is settled goes on from the steps that it has done.
pub record LegPlayed (answers : Answers) (spot : Spot) (call : Option StepCall) (leg : Leg) : Type 0 where
  pub stop : leg.stop ≡ false
  pub group : leg.group ≡ None
  pub goes_on : steps_from answers spot leg.steps (drop (length leg.steps) spot.job.steps) ≡ steps_from answers spot [] spot.job.steps
  pub calling : CallStands spot leg.steps call leg.state
  pub ended : (result : Outcome) (tolerated : Bool) → leg.state ≡ LegState.Ended result tolerated → EndsRightly spot leg result tolerated

-- ---- jobs

-- a job is in the state into which it is settled to be judged, if it was judged
abbrev pub StateStands : SettledJob → List SettledLeg → JobState → Type 0
StateStands given legs JobState.Unjudged = Unit {0}
StateStands given legs JobState.Open = given ≡ opened legs
StateStands given legs (JobState.Shut result) = given ≡ shut result

-- A job, by those of its run that are settled before it, and the number of its first leg.
pub record JobPlayed (answers : Answers) (run : RunPlan) (before : List SettledJob) (first : ℕ) (plan : JobPlan) (calls : ℕ → Option StepCall) (job : Job) : Type 0 where
  pub state : StateStands (job_settled answers run first before plan) (legs_settled answers run plan (needs_of run before plan) first) job.state
  pub untouched : is_open job.state ≡ false → (k : ℕ) (leg : Leg) → slice_get job.legs k ≡ Some leg → leg ≡ fresh_leg
  pub legs : (k : ℕ) (leg : Leg) → slice_get job.legs k ≡ Some leg → LegPlayed answers (spot_at run plan (needs_of run before plan) first k) (calls (first + k)) leg

-- A job of a run that is Closed was judged, and each leg of it has ended if it is Open.
pub record JobOver (job : Job) : Type 0 where
  pub judged : is_judged job.state ≡ true
  pub ended : is_open job.state ≡ true → (k : ℕ) (leg : Leg) → slice_get job.legs k ≡ Some leg → is_ended leg.state ≡ true

pub judged-or : (s : JobState) → (s ≡ JobState.Unjudged → ⊥) → is_judged s ≡ true
judged-or JobState.Unjudged h = absurd (h refl)
judged-or s h = refl

-- ---- runs

-- the jobs that are settled of a run whose first leg has this number
abbrev pub jobs_of : Answers → ℕ → RunPlan → List SettledJob
jobs_of answers first run = jobs_from answers run first [] run.jobs

-- a job of such a run, at its place
abbrev pub JobPlayedAt : Answers → ℕ → RunPlan → (ℕ → Option StepCall) → ℕ → JobPlan → Job → Type 0
JobPlayedAt answers first run calls j plan job =
    JobPlayed answers run (take j (jobs_of answers first run)) (first + before_job j run.jobs) plan calls job

-- A run whose first leg has this number, not told to stop and in no group.
pub record RunPlayed (answers : Answers) (first : ℕ) (plan : RunPlan) (calls : ℕ → Option StepCall) (run : Run) : Type 0 where
  pub stop : run.stop ≡ false
  pub group : run.group ≡ None
  pub jobs : (j : ℕ) (job_plan : JobPlan) (job : Job) → slice_get plan.jobs j ≡ Some job_plan → slice_get run.jobs j ≡ Some job
      → JobPlayedAt answers first plan calls j job_plan job
  pub needs : (j : ℕ) (job_plan : JobPlan) (job : Job) → slice_get plan.jobs j ≡ Some job_plan → slice_get run.jobs j ≡ Some job
      → is_judged job.state ≡ true → needs_have_ended (job_plan.number - j) run job_plan ≡ true
  pub closed : (result : Outcome) → run.state ≡ RunState.Closed result → (run_after (jobs_of answers first plan)).result ≡ Some result
  pub over : is_closed run.state ≡ true → (j : ℕ) (job : Job) → slice_get run.jobs j ≡ Some job → JobOver job

-- each run of a list
abbrev pub Played : Answers → Plan → (ℕ → Option StepCall) → List Run → Type 0
Played answers p calls runs =
    (r : ℕ) (plan : RunPlan) (run : Run) → slice_get p.runs r ≡ Some plan → slice_get runs r ≡ Some run
    → RunPlayed answers (before_run r p.runs) plan calls run

-- ---- what is settled of a run, at a place

-- the settled jobs of a run are as many as are planned
pub jobs_size : (answers : Answers) (run : RunPlan) (first : ℕ) (before : List SettledJob) (jobs : List JobPlan) → length (jobs_from answers run first before jobs) ≡ length jobs
jobs_size answers run first before [] = refl
jobs_size answers run first before (job ∷ jobs) =
    ap suc (jobs_size answers run (first + length job.legs) (before ++ job_settled answers run first before job ∷ []) jobs)

-- the job at a place is settled by those before it
pub job_item : (answers : Answers) (run : RunPlan) (first : ℕ) (before : List SettledJob) (jobs : List JobPlan) (j : ℕ) (plan : JobPlan) → slice_get jobs j ≡ Some plan
    → slice_get (jobs_from answers run first before jobs) j
    ≡ Some (job_settled answers run (first + before_job j jobs) (before ++ take j (jobs_from answers run first before jobs)) plan)
job_item answers run first before [] j plan is = cc
job_item answers run first before (x ∷ xs) zero plan is =
    let same : x ≡ plan = cc is in
    let none : first ≡ first + 0 = omega arith in
    λ i. Some (job_settled answers run (none i) (sym (append-nil before) i) (same i))
job_item answers run first before (x ∷ xs) (suc j) plan is =
    let given : SettledJob = job_settled answers run first before x in
    let later = job_item answers run (first + length x.legs) (before ++ given ∷ []) xs j plan is in
    let number : first + length x.legs + before_job j xs ≡ first + (length x.legs + before_job j xs) = omega arith in
    let more = append_assoc before (given ∷ []) (take j (jobs_from answers run (first + length x.legs) (before ++ given ∷ []) xs)) in
    later ∙ λ i. Some (job_settled answers run (number i) (more i) plan)

-- ---- the board of what is found

pub job_board : (p : Plan) (b : Board) (n : ℕ) (at : JobAt) → job_at p b n ≡ Some at → at.board ≡ b
job_board p b n at h =
    let s = job_stands p b n at h in
    let on : JobAt = record { board = b; place = at.place; run_plan = at.run_plan; plan = at.plan; run = at.run; job = at.job } in
    let found : job_at p b n ≡ Some on = rw (s.place, s.in_plan, s.in_board, s.plan, s.job) refl in
    ap (λ (x : JobAt). x.board) (same_some at on (sym h ∙ found))

-- ---- the order of jobs

pub is_ordered : NeedsPointBack → (p : Plan) → IsPlan p → (r : ℕ) (run : RunPlan) → slice_get p.runs r ≡ Some run → IsOrdered (first_job p r) run.jobs
is_ordered law p rules r run planned = record {
  number = λ j plan is. let number = (law p rules r j run plan planned is).0 in omega (arith, number);
  needs = λ j plan is. all-of (λ need. nat_lt (need - first_job p r) j) plan.needs (λ i need at.
      let both = (law p rules r j run plan planned is).1 i need at in
      le-leb (suc (need - first_job p r)) j (omega (arith, both.0, both.1)));
}

-- ---- what is known of a board in play

pub record Stands (p : Plan) (answers : Answers) (calls : ℕ → Option StepCall) (b : Board) : Type 0 where
  pub fits : Fits p b
  pub lawful : Lawful p b
  pub played : Played answers p calls b.runs

-- what is known of a plan
pub record IsFit (p : Plan) : Type 0 where
  pub rules : IsPlan p
  pub back : NeedsPointBack
  pub free : IsFree p
