-- Where what became of a run, a job, a leg or a step is so: how it then stands on a board.
use Rattle.std.specs.Prelude.{◌≡◌, ℕ, pos, negsuc, zero, suc, Bool, true, false, Some, slice_get}
use Rattle.status_table.specs.Words.{Board, Job, Leg, LegState, Member, Outcome, Run, RunState, board_jobs, board_legs}
use Rattle.why_facts.specs.declared.fact.JobFact.{JobFact}
use Rattle.why_facts.specs.declared.fact.MemberFact.{MemberFact}
use Rattle.why_facts.specs.declared.fact.StepFact.{StepFact}
use Rattle.why_notes.specs.Laws.{judged_to}

-- There is a run or a leg with that number, whose state and whose stop flag are so.
abbrev pub Has : Board → Member → (RunState → Bool → Type 0) → (LegState → Bool → Type 0) → Type 0
Has b (Member.Run r) R L = (run : Run) × (slice_get b.runs r ≡ Some run) × R run.state run.stop
Has b (Member.Leg l) R L = (leg : Leg) × (slice_get (board_legs b) l ≡ Some leg) × L leg.state leg.stop

-- ---- runs and legs

-- the state of a run of which that became; some of it never becomes of a run
abbrev pub RunIs : MemberFact → RunState → Type 0
RunIs MemberFact.Admitted s = s ≡ RunState.Going
RunIs (MemberFact.Waits holder) s = s ≡ RunState.Waiting
RunIs (MemberFact.Follows before) s = s ≡ RunState.Going
RunIs (MemberFact.Displaced by) s = s ≡ RunState.Closed Outcome.Cancelled
RunIs MemberFact.OwnRun s = ⊥
RunIs (MemberFact.NoGroup f) s = s ≡ RunState.Closed Outcome.Failure
RunIs (MemberFact.Closed result) s = s ≡ RunState.Closed result
RunIs MemberFact.Taken s = ⊥
RunIs (MemberFact.Finished result) s = ⊥
RunIs (MemberFact.Stopped cause) s = ⊥

-- the state of a leg of which that became; a leg is never closed
abbrev pub LegIs : MemberFact → LegState → Type 0
LegIs MemberFact.Admitted s = s ≡ LegState.Admitted
LegIs (MemberFact.Waits holder) s = s ≡ LegState.Waiting
LegIs (MemberFact.Follows before) s = s ≡ LegState.Admitted
LegIs (MemberFact.Displaced by) s = s ≡ LegState.Ended Outcome.Cancelled false
LegIs MemberFact.OwnRun s = s ≡ LegState.Ended Outcome.Cancelled false
LegIs (MemberFact.NoGroup f) s = s ≡ LegState.Ended Outcome.Failure false
LegIs (MemberFact.Closed result) s = ⊥
LegIs MemberFact.Taken s = (worker : ℕ) × (s ≡ LegState.Running worker false)
LegIs (MemberFact.Finished result) s = (tolerated : Bool) × (s ≡ LegState.Ended result tolerated)
LegIs (MemberFact.Stopped cause) s = s ≡ LegState.Ended Outcome.Cancelled false

-- A run or a leg stands as that which became of it.
abbrev pub MemberStands : Board → Member → MemberFact → Type 0
MemberStands b who fact = Has b who (λ s told. RunIs fact s) (λ s told. LegIs fact s)

-- It was told to stop.
abbrev pub IsTold : Board → Member → Type 0
IsTold b who = Has b who (λ s told. told ≡ true) (λ s told. told ≡ true)

-- ---- jobs and steps

-- A job stands as that which became of it.
abbrev pub JobStands : Board → ℕ → JobFact → Type 0
JobStands b j fact = (job : Job) × (slice_get (board_jobs b) j ≡ Some job) × (job.state ≡ judged_to fact)

-- A leg is in a call.
abbrev pub IsCalled : Board → ℕ → Type 0
IsCalled b l =
    (leg : Leg) × (slice_get (board_legs b) l ≡ Some leg)
    × ((worker : ℕ) × (leg.state ≡ LegState.Running worker true))

-- the outcome of a step of which that became
abbrev pub outcome_told : StepFact → Outcome
outcome_told (StepFact.Exited (pos zero)) = Outcome.Success
outcome_told (StepFact.Exited (pos (suc n))) = Outcome.Failure
outcome_told (StepFact.Exited (negsuc n)) = Outcome.Failure
outcome_told StepFact.NotStarted = Outcome.Failure
outcome_told StepFact.BadOutput = Outcome.Failure
outcome_told (StepFact.Stopping cause) = Outcome.Skipped
outcome_told (StepFact.AfterFailure first) = Outcome.Skipped
outcome_told StepFact.Untrue = Outcome.Skipped
outcome_told (StepFact.Faulted text f) = Outcome.Failure
