-- What a board has otherwise than the board before it, as lines of its text.
use Rattle.std.specs.Prelude.{◌≡◌, ℕ, ◌+◌, ◌++◌, ◌⊎◌, List, [], ◌∷◌, length, drop, String}
use Rattle.std.specs.declared.alloc.Global.{Global}
use Rattle.flow_model.specs.declared.board.Board.{Board}
use Rattle.flow_model.specs.declared.board.Run.{Run}
use Rattle.flow_model.specs.declared.board.Job.{Job}
use Rattle.flow_model.specs.declared.board.Leg.{Leg}
use Rattle.flow_model.specs.declared.board.DoneStep.{DoneStep}
use Rattle.plan_text.specs.BoardText.{Adds, ends_line, job_line, leg_line, legs_count, out_line, run_line, steps_text}

-- Words are told unless something is the same.
abbrev pub ToldUnless : Type 0 → List ℕ → List ℕ → Type 0
ToldUnless Same words told = (Same × (told ≡ [])) ⊎ ((Same → ⊥) × (told ≡ words))

-- The line of a run is that of the run before it.
pub record IsSameRun (before run : Run) : Type 0 where
  pub state : before.state ≡ run.state
  pub stop : before.stop ≡ run.stop
  pub group : before.group ≡ run.group

-- A leg is what it was: its line, how many of its steps are done, and its outputs.
pub record IsSameLeg (before leg : Leg) : Type 0 where
  pub state : before.state ≡ leg.state
  pub stop : before.stop ≡ leg.stop
  pub group : before.group ≡ leg.group
  pub steps : length before.steps ≡ length leg.steps
  pub outputs : before.outputs ≡ leg.outputs

-- The steps from a place on.
abbrev pub later_steps : ℕ → List DoneStep → List ℕ
later_steps first steps = steps_text first (drop first steps)

-- The legs that have ended since, if there are any.
abbrev pub ended_line : List ℕ → List ℕ
ended_line [] = []
ended_line (leg ∷ legs) = ends_line (leg ∷ legs)

abbrev pub later_ends : List ℕ → List ℕ → List ℕ
later_ends before ends = ended_line (drop (length before) ends)

-- Words of two parts.
abbrev pub TellsBoth : (List ℕ → Type 0) → (List ℕ → Type 0) → List ℕ → Type 0
TellsBoth First Then told = (one later : List ℕ) × First one × Then later × (told ≡ one ++ later)

-- What is told of things from a number on, each beside what it was before; `after` is the number after a thing.
abbrev pub TellsEach : {N X : Type 0} → (N → X → N) → (N → X → X → List ℕ → Type 0) → N → List X → List X → List ℕ → Type 0
TellsEach after Tells n before [] told = told ≡ []
TellsEach after Tells n [] (x ∷ xs) told = told ≡ []
TellsEach after Tells n (was ∷ before) (x ∷ xs) told = TellsBoth (Tells n was x) (TellsEach after Tells (after n x) before xs) told

-- The line of a leg, the steps that it did not have before, and its outputs.
abbrev pub leg_change : ℕ → Leg → Leg → List ℕ
leg_change l before leg = leg_line l leg ++ later_steps (length before.steps) leg.steps ++ out_line leg.outputs

abbrev pub TellsLeg : ℕ → Leg → Leg → List ℕ → Type 0
TellsLeg l before leg told = ToldUnless (IsSameLeg before leg) (leg_change l before leg) told

abbrev pub after_leg : ℕ → Leg → ℕ
after_leg l leg = l + 1

abbrev pub TellsLegs : ℕ → List Leg → List Leg → List ℕ → Type 0
TellsLegs = TellsEach after_leg TellsLeg

-- What is told of a job with a number, whose legs have the numbers from another on.
abbrev pub TellsJob : ℕ × ℕ → Job → Job → List ℕ → Type 0
TellsJob first before job told =
    TellsBoth (ToldUnless (before.state ≡ job.state) (job_line first.0 job)) (TellsLegs first.1 before.legs job.legs) told

abbrev pub after_job : ℕ × ℕ → Job → ℕ × ℕ
after_job first job = (first.0 + 1, first.1 + length job.legs)

abbrev pub TellsJobs : ℕ × ℕ → List Job → List Job → List ℕ → Type 0
TellsJobs = TellsEach after_job TellsJob

-- What is told of a run with a number, whose jobs and legs have the numbers from two others on.
abbrev pub TellsRun : ℕ × (ℕ × ℕ) → Run → Run → List ℕ → Type 0
TellsRun first before run told =
    TellsBoth (ToldUnless (IsSameRun before run) (run_line first.0 run)) (TellsJobs first.1 before.jobs run.jobs) told

abbrev pub after_jobs : ℕ × ℕ → List Job → ℕ × ℕ
after_jobs first jobs = (first.0 + length jobs, first.1 + legs_count jobs)

abbrev pub after_run : ℕ × (ℕ × ℕ) → Run → ℕ × (ℕ × ℕ)
after_run first run = (first.0 + 1, after_jobs first.1 run.jobs)

abbrev pub TellsRuns : ℕ × (ℕ × ℕ) → List Run → List Run → List ℕ → Type 0
TellsRuns = TellsEach after_run TellsRun

-- What is told of a board, beside the one before it.
abbrev pub TellsChanges : Board → Board → List ℕ → Type 0
TellsChanges before board told =
    (runs : List ℕ) × TellsRuns (0, (0, 0)) before.runs board.runs runs × (told ≡ runs ++ later_ends before.ends board.ends)

-- Words of which that holds were added to a text.
abbrev pub AddsOf : (List ℕ → Type 0) → String Global → String Global → Type 0
AddsOf Is old new = (told : List ℕ) × Is told × Adds old new told
