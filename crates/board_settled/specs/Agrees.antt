-- How a board agrees with what is settled, as far as the plan was played.
use Rattle.std.specs.Prelude.{◌≡◌, Bool, true, false, List, [], take, length, Some}
use Rattle.std.specs.List.{AllZip}
use Rattle.status_table.specs.Words.{Board, Each, Entry, IsPlan, Job, JobState, Leg, LegState, Outcome, Plan, Run, RunState, finished, is_open}
use Rattle.board_settled.specs.Free.{IsFree}
use Rattle.board_settled.specs.Histories.{LeadsTo}
use Rattle.board_settled.specs.Settled.{Answers, SettledLeg, SettledJob, shut, opened, SettledRun, settled}

-- The steps of a leg that are done are the first that are settled. One that is Ended has done all of them,
-- with the result, tolerated or not, and the outputs that are settled.
pub record LegAgrees (given : SettledLeg) (leg : Leg) : Type 0 where
  pub steps : leg.steps ≡ take (length leg.steps) given.steps
  pub ended : (result : Outcome) (tolerated : Bool) → leg.state ≡ LegState.Ended result tolerated
      → (leg.steps ≡ given.steps)
      × (given.finish ≡ Some (record { result = result; tolerated = tolerated; outputs = leg.outputs }))

-- A job that was judged is Shut or Open as settled, and each leg of one that is Open agrees. Of one that is
-- not, no leg has done a step.
pub record JobAgrees (given : SettledJob) (job : Job) : Type 0 where
  pub when_shut : (result : Outcome) → job.state ≡ JobState.Shut result → given ≡ shut result
  pub when_open : job.state ≡ JobState.Open
      → (legs : List SettledLeg) × (given ≡ opened legs) × AllZip LegAgrees legs job.legs
  pub else_untouched : is_open job.state ≡ false → Each (λ leg. leg.steps ≡ []) job.legs

-- Each job of a run agrees, and one that is Closed has the result that is settled.
pub record RunAgrees (given : SettledRun) (run : Run) : Type 0 where
  pub jobs : AllZip JobAgrees given.jobs run.jobs
  pub closed : (result : Outcome) → run.state ≡ RunState.Closed result → given.result ≡ Some result

-- Each run of a board agrees.
abbrev pub Agrees : List SettledRun → Board → Type 0
Agrees given b = AllZip RunAgrees given b.runs

-- ---- a board that is finished

-- A leg is Ended as settled, with all its steps.
pub record LegIsSettled (given : SettledLeg) (leg : Leg) : Type 0 where
  pub result : Outcome
  pub tolerated : Bool
  pub state : leg.state ≡ LegState.Ended result tolerated
  pub steps : leg.steps ≡ given.steps
  pub finish : given.finish ≡ Some (record { result = result; tolerated = tolerated; outputs = leg.outputs })

-- A job was judged as settled, by its state; each leg of one that was opened is Ended as settled.
abbrev pub JobIsSettled : SettledJob → List Leg → JobState → Type 0
JobIsSettled given legs JobState.Unjudged = ⊥
JobIsSettled given legs JobState.Open = (all : List SettledLeg) × (given ≡ opened all) × AllZip LegIsSettled all legs
JobIsSettled given legs (JobState.Shut result) = given ≡ shut result

-- A run is Closed as settled, with all its jobs.
pub record RunIsSettled (given : SettledRun) (run : Run) : Type 0 where
  pub jobs : AllZip (λ given job. JobIsSettled given job.legs job.state) given.jobs run.jobs
  pub result : Outcome
  pub state : run.state ≡ RunState.Closed result
  pub given_result : given.result ≡ Some result

-- The board is all of what is settled, which gives the result of each run.
abbrev pub IsSettled : List SettledRun → Board → Type 0
IsSettled given b = AllZip RunIsSettled given b.runs

-- ---- laws

-- Whatever the order of its entries, the board of a plan that is free agrees with what is settled.
abbrev pub PlaysAsSettled : Type 0
PlaysAsSettled =
    (p : Plan) → IsPlan p → IsFree p → (answers : Answers) (es : List Entry) (b : Board)
    → LeadsTo p answers es b → Agrees (settled p answers) b

-- Where each of its runs is Closed, the board is all of what is settled.
abbrev pub FinishesAsSettled : Type 0
FinishesAsSettled =
    (p : Plan) → IsPlan p → IsFree p → (answers : Answers) (es : List Entry) (b : Board)
    → LeadsTo p answers es b → finished b ≡ true → IsSettled (settled p answers) b

-- Two boards of one plan on which each run is Closed differ at most in the order in which legs ended.
abbrev pub OnlyEndsDiffer : Type 0
OnlyEndsDiffer =
    (p : Plan) → IsPlan p → IsFree p → (answers : Answers) (es other : List Entry) (b c : Board)
    → LeadsTo p answers es b → LeadsTo p answers other c → finished b ≡ true → finished c ≡ true
    → b.runs ≡ c.runs
