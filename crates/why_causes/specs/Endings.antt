-- Where a run was closed without success, or a job was skipped or cancelled in place of being opened, what brought it there is
-- named, and nothing else.
use Rattle.std.specs.Prelude.{◌≡◌, ◌≢◌, ◌+◌, ◌++◌, ◌&&◌, ℕ, true, List, [], ◌∷◌, Some, Contains, slice_get}
use Rattle.status_table.specs.Words.{Entry, IsPlan, Job, JobAt, JobPlan, JobState, Member, Outcome, Plan, RunAt, RunState, first_of, is_cancelled, job_at, job_result, job_results, needs_at, run_at}
use Rattle.why_causes.specs.Causes.{causes, job_last, run_last, stop_asked}
use Rattle.why_causes.specs.declared.question.Question.{Question}
use Rattle.why_facts.specs.declared.fact.JobFact.{JobFact}
use Rattle.why_facts.specs.declared.fact.MemberFact.{MemberFact}
use Rattle.why_facts.specs.declared.notes.JobNote.{JobNote}
use Rattle.why_facts.specs.declared.notes.MemberNote.{MemberNote}
use Rattle.why_notes.specs.Account.{Account, account_of}
use Rattle.why_notes.specs.Conditions.{waits_for_success}

-- ---- a run that its Close ended

-- The job with a number is one of a run, was judged, and has this result.
pub record HasResult (at : RunAt) (result : Outcome) (number : ℕ) : Type 0 where
  pub place : ℕ
  pub plan : JobPlan
  pub job : Job
  pub planned : slice_get at.plan.jobs place ≡ Some plan
  pub numbered : plan.number ≡ number
  pub there : slice_get at.run.jobs place ≡ Some job
  pub judged : job.state ≢ JobState.Unjudged
  pub came_to : job_result at.run job ≡ result

-- Below a run that was closed with a result stand each of its jobs with that result and no other, and, where it is cancelled,
-- that it was told to stop. At least one of these is there.
pub record NamesJobsOfResult (a : Account) (r : ℕ) (at : RunAt) (result : Outcome) : Type 0 where
  pub jobs : List Question
  pub below : causes a (Question.Run r) ≡ stop_asked (Member.Run r) (at.run.stop && is_cancelled result) ++ jobs
  pub all : (j : ℕ) → HasResult at result j → Contains jobs (Question.Job j)
  pub alone : (q : Question) → Contains jobs q → (j : ℕ) × HasResult at result j × (q ≡ Question.Job j)
  pub some : causes a (Question.Run r) ≢ []

-- What is told last of a run that was closed with a result: that its Close ended it, and then causes are named; or, which says
-- why by itself, that another took its place, or that the text of its group has no value.
abbrev pub ClosedFor : MemberFact → Outcome → Type 0 → Type 0
ClosedFor (MemberFact.Closed how) result Named = (how ≡ result) × Named
ClosedFor (MemberFact.Displaced by) result Named = result ≡ Outcome.Cancelled
ClosedFor (MemberFact.NoGroup fault) result Named = result ≡ Outcome.Failure
ClosedFor MemberFact.Admitted result Named = ⊥
ClosedFor (MemberFact.Waits holder) result Named = ⊥
ClosedFor (MemberFact.Follows before) result Named = ⊥
ClosedFor MemberFact.OwnRun result Named = ⊥
ClosedFor MemberFact.Taken result Named = ⊥
ClosedFor (MemberFact.Finished how) result Named = ⊥
ClosedFor (MemberFact.Stopped cause) result Named = ⊥

-- So it is after each record whose plan breaks no rule.
abbrev pub ClosedRunsNameJobs : Type 0
ClosedRunsNameJobs =
    (p : Plan) (es : List Entry) (a : Account) (r : ℕ) (at : RunAt) (result : Outcome) → IsPlan p → account_of p es ≡ Some a
    → run_at a.plan a.board r ≡ Some at → at.run.state ≡ RunState.Closed result → result ≢ Outcome.Success
    → (note : MemberNote) × (run_last (slice_get a.notes.runs r) ≡ Some note)
    × ClosedFor note.fact result (NamesJobsOfResult a r at result)

-- ---- a job that waits in vain for the success of what it needs

-- An ancestor of a job had no success, and each job on some way up to it had: a need of the job, or one that is so for a need
-- with success. Jobs are told by their places in the run, whose first job has the number `first`.
pub data IsMetFirst (first : ℕ) (jobs : List JobPlan) (results : List Outcome) : ℕ → ℕ → Type 0 where
  needed : {a k : ℕ} {result : Outcome} → Contains (needs_at first jobs k) a → slice_get results a ≡ Some result
      → result ≢ Outcome.Success → IsMetFirst first jobs results a k
  of_needed : {a n k : ℕ} → Contains (needs_at first jobs k) n → slice_get results n ≡ Some Outcome.Success
      → IsMetFirst first jobs results a n → IsMetFirst first jobs results a k

-- an ancestor of the job that was found by number j, by its place
abbrev pub IsFirstAbove : ℕ → JobAt → ℕ → Type 0
IsFirstAbove j at k = IsMetFirst (first_of j at) at.run_plan.jobs (job_results at.run) k at.place.job

-- Below a job stand each of its ancestors without success that is met first, thus each such need, and no other.
pub record NamesFirstAbove (a : Account) (j : ℕ) (at : JobAt) : Type 0 where
  pub all : (k : ℕ) → IsFirstAbove j at k → Contains (causes a (Question.Job j)) (Question.Job (first_of j at + k))
  pub alone : (q : Question) → Contains (causes a (Question.Job j)) q
      → (k : ℕ) × IsFirstAbove j at k × (q ≡ Question.Job (first_of j at + k))

-- So it is of a job that was skipped and whose condition waits for success, after each record whose plan breaks no rule.
abbrev pub SkippedJobsNameAncestors : Type 0
SkippedJobsNameAncestors =
    (p : Plan) (es : List Entry) (a : Account) (j : ℕ) (at : JobAt) → IsPlan p → account_of p es ≡ Some a
    → job_at a.plan a.board j ≡ Some at → at.job.state ≡ JobState.Shut Outcome.Skipped
    → waits_for_success at.plan.condition ≡ true → NamesFirstAbove a j at

-- A job that is told to have waited in vain was skipped, its condition waits for success, and an ancestor is named.
pub record WaitedInVain (a : Account) (j : ℕ) (at : JobAt) : Type 0 where
  pub skipped : at.job.state ≡ JobState.Shut Outcome.Skipped
  pub waits : waits_for_success at.plan.condition ≡ true
  pub some : causes a (Question.Job j) ≢ []

abbrev pub VainJobsNameSome : Type 0
VainJobsNameSome =
    (p : Plan) (es : List Entry) (a : Account) (j : ℕ) (at : JobAt) (note : JobNote) → IsPlan p → account_of p es ≡ Some a
    → job_at a.plan a.board j ≡ Some at → job_last (slice_get a.notes.jobs j) ≡ Some note
    → note.fact ≡ JobFact.Unsuccessful → WaitedInVain a j at

-- A job that was cancelled in place of being opened names that its run was told to stop, which it was, and nothing else.
pub record NamesStop (a : Account) (j : ℕ) (at : JobAt) : Type 0 where
  pub told : at.run.stop ≡ true
  pub named : causes a (Question.Job j) ≡ Question.Stop (Member.Run at.place.run) ∷ []

abbrev pub CancelledJobsNameTheStop : Type 0
CancelledJobsNameTheStop =
    (p : Plan) (es : List Entry) (a : Account) (j : ℕ) (at : JobAt) → IsPlan p → account_of p es ≡ Some a
    → job_at a.plan a.board j ≡ Some at → at.job.state ≡ JobState.Shut Outcome.Cancelled → NamesStop a j at

-- Runs and jobs that did not succeed name what brought them there.
pub record EndingsAreNamed : Type 0 where
  pub runs : ClosedRunsNameJobs
  pub jobs : SkippedJobsNameAncestors
  pub vain : VainJobsNameSome
  pub cancelled : CancelledJobsNameTheStop
