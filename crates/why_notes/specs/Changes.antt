-- What an accepted entry makes so, and by what: each case names who and what the row of its event looks at, by the
-- definitions with which the row decides.
use Rattle.std.specs.Prelude.{ℕ, Bool, true, false, List, [], ◌∷◌, Option, Some, None, Result, Ok, Err, if◌then◌else◌}
use Rattle.status_table.specs.Words.{Answer, Board, Entrance, Event, JobAt, LegAt, Member, Outcome, Plan, Run, RunAt, RunState, Status, StepCall, StepPlan, ValueFault, first_of, first_place, holder, is_failure, is_own, is_stopping, job_at, job_condition, job_status, leg_at, leg_entrance, leg_result, leg_standing, leg_status, next_after, next_step, run_at, run_entrance, run_result, run_standing, step_decision, waiter}
use Rattle.why_facts.specs.Queues.{queues}
use Rattle.why_facts.specs.Stops.{cause_of_stop}
use Rattle.why_facts.specs.declared.fact.Change.{Change}
use Rattle.why_facts.specs.declared.fact.JobFact.{JobFact}
use Rattle.why_facts.specs.declared.fact.MemberFact.{MemberFact}
use Rattle.why_facts.specs.declared.fact.StepFact.{StepFact}
use Rattle.why_facts.specs.declared.fact.Teller.{Teller}
use Rattle.why_notes.specs.Conditions.{faulted_text, waits_in_vain}

-- ---- Open and Ask: a member enters its group

-- what a member makes so that enters a group, by who holds its name and who waits for it
abbrev pub enters_held : Member → Option ℕ → Entrance → Option Member → Option Member → List Change
enters_held m own group None waited = Change.Member m MemberFact.Admitted ∷ []
enters_held m own group (Some holds) waited =
    if is_own own holds then Change.Member m MemberFact.OwnRun ∷ [] else queues m group holds waited

-- what a member makes so that enters a group, or none
abbrev pub enters : Board → Member → Option ℕ → Option Entrance → List Change
enters b m own None = Change.Member m MemberFact.Admitted ∷ []
enters b m own (Some group) = enters_held m own group (holder b group.name) (waiter b group.name)

-- what a member makes so that enters a group whose text may have no value
abbrev pub enters_by : Board → Member → Option ℕ → Result (Option Entrance) ValueFault → List Change
enters_by b m own (Ok group) = enters b m own group
enters_by b m own (Err fault) = Change.Member m (MemberFact.NoGroup fault) ∷ []

abbrev pub opens : Board → ℕ → Option RunAt → List Change
opens b r None = []
opens b r (Some at) = enters_by b (Member.Run r) None (run_entrance at)

abbrev pub asks : Board → ℕ → Option LegAt → List Change
asks b l None = []
asks b l (Some at) = enters_by b (Member.Leg l) (Some at.place.run) (leg_entrance at)

-- ---- Judge

-- why a job was not opened, by whether its run was told to stop, and whether it waits in vain for success
abbrev pub unopened : Bool → Bool → JobFact
unopened true vain = JobFact.RunStopped
unopened false true = JobFact.Unsuccessful
unopened false false = JobFact.Untrue

-- what becomes of a job by the value of its condition
abbrev pub judged : Bool → Bool → Result Bool ValueFault → JobFact
judged stop vain (Ok true) = JobFact.Opened
judged stop vain (Ok false) = unopened stop vain
judged stop vain (Err fault) = JobFact.Faulted fault

-- what becomes of a job under a status
abbrev pub judged_under : JobAt → Status → JobFact
judged_under at status = judged at.run.stop (waits_in_vain at.plan.condition status) (job_condition at status)

abbrev pub judges : ℕ → Option JobAt → List Change
judges j None = []
judges j (Some at) = Change.Job j (judged_under at (job_status (first_of j at) at)) ∷ []

-- ---- Drop, Take, Finish and Close: what a member held passes to who waits for it

-- who waited goes on, since a member left
abbrev pub passes : Member → Option Member → List Change
passes m None = []
passes m (Some next) = Change.Member next (MemberFact.Follows m) ∷ []

abbrev pub drops : Board → ℕ → Option LegAt → List Change
drops b l None = []
drops b l (Some at) =
    Change.Member (Member.Leg l) (MemberFact.Stopped (cause_of_stop l at))
    ∷ passes (Member.Leg l) (next_after b (leg_standing at.leg))

-- how a leg ends whose steps are done, by whether it is to stop
abbrev pub finished : Bool → ℕ → LegAt → MemberFact
finished true l at = MemberFact.Stopped (cause_of_stop l at)
finished false l at = MemberFact.Finished (leg_result at)

abbrev pub finishes : Board → ℕ → Option LegAt → List Change
finishes b l None = []
finishes b l (Some at) =
    Change.Member (Member.Leg l) (finished (is_stopping at) l at)
    ∷ passes (Member.Leg l) (next_after b (leg_standing at.leg))

-- the result with which a run is closed: before it was Going it is cancelled
abbrev pub closing : RunState → Run → Outcome
closing RunState.New run = Outcome.Cancelled
closing RunState.Waiting run = Outcome.Cancelled
closing RunState.Going run = run_result run
closing (RunState.Closed result) run = result

abbrev pub closes : Board → ℕ → Option RunAt → List Change
closes b r None = []
closes b r (Some at) =
    Change.Member (Member.Run r) (MemberFact.Closed (closing at.run.state at.run))
    ∷ passes (Member.Run r) (next_after b (run_standing at.run))

-- ---- Begin and End

-- the place of the first step that counts as a failure, if there is one
abbrev pub after_failure : Option ℕ → StepFact
after_failure None = StepFact.Untrue
after_failure (Some k) = StepFact.AfterFailure k

-- why a step is skipped that waits in vain for success, by whether its leg is to stop
abbrev pub skipped_in_vain : Bool → ℕ → LegAt → StepFact
skipped_in_vain true l at = StepFact.Stopping (cause_of_stop l at)
skipped_in_vain false l at = after_failure (first_place 0 (λ step. is_failure step.conclusion) at.leg.steps)

-- why a step is skipped, by whether it waits in vain
abbrev pub skipped_by : Bool → ℕ → LegAt → StepFact
skipped_by true l at = skipped_in_vain (is_stopping at) l at
skipped_by false l at = StepFact.Untrue

abbrev pub skipped : ℕ → LegAt → StepPlan → StepFact
skipped l at step = skipped_by (waits_in_vain step.condition (leg_status at)) l at

-- what comes of a step by what is decided of it
abbrev pub begun : ℕ → LegAt → StepPlan → Result (Option StepCall) ValueFault → Change
begun l at step (Ok (Some call)) = Change.Called l
begun l at step (Ok None) = Change.Step l (skipped l at step)
begun l at step (Err fault) = Change.Step l (StepFact.Faulted (faulted_text at step) fault)

abbrev pub begins_step : ℕ → LegAt → Option StepPlan → List Change
begins_step l at None = []
begins_step l at (Some step) = begun l at step (step_decision l at step) ∷ []

abbrev pub begins : ℕ → Option LegAt → List Change
begins l None = []
begins l (Some at) = begins_step l at (next_step at)

-- how an answer ends a step
abbrev pub answered : Answer → StepFact
answered (Answer.Exit code outputs env) = StepFact.Exited code
answered Answer.NotStarted = StepFact.NotStarted
answered Answer.BadOutput = StepFact.BadOutput

-- ---- the table

-- What an event makes so on a board, where it is accepted: of its own subject first, then of who was displaced, who
-- was told to stop, and who goes on in its place.
abbrev pub changes : Plan → Board → Event → List Change
changes p b (Event.Open r) = opens b r (run_at p b r)
changes p b (Event.Judge j) = judges j (job_at p b j)
changes p b (Event.Ask l) = asks b l (leg_at p b l)
changes p b (Event.Drop l) = drops b l (leg_at p b l)
changes p b (Event.Take l) = Change.Member (Member.Leg l) MemberFact.Taken ∷ []
changes p b (Event.Begin l) = begins l (leg_at p b l)
changes p b (Event.End l a) = Change.Step l (answered a) ∷ []
changes p b (Event.Finish l) = finishes b l (leg_at p b l)
changes p b (Event.Close r) = closes b r (run_at p b r)
changes p b (Event.Cancel r) = Change.Stop (Member.Run r) Teller.Cancel ∷ []
