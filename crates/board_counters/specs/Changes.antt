-- Changes of a board, and what is counted after them.
use Rattle.std.specs.Prelude.{◌≡◌, ℕ, ◌-◌, ◌⊎◌, Bool, false, true, List, [], ◌∷◌, ◌++◌, length, take, Option, Some, None, slice_get}
use Rattle.status_table.specs.Words.{Board, Job, JobPlace, JobState, Leg, LegPlace, LegState, Run, changed, job_there, leg_there}
use Rattle.board_counters.specs.Counters.{moved, need_turned}
use Rattle.board_counters.specs.Dependents.{dependents_at}
use Rattle.board_counters.specs.Standing.{run_moved, standing_read}
use Rattle.status_table.specs.declared.change.LegChange.{LegChange}
use Rattle.board_counters.specs.declared.change.RunChange.{RunChange}
use Rattle.board_counters.specs.declared.counts.Counts.{Counts}
use Rattle.board_counters.specs.declared.need.Need.{Need}
use Rattle.board_counters.specs.declared.standing.JobStanding.{JobStanding}
use Rattle.board_counters.specs.declared.tally.Tally.{Tally}

-- ---- a run, a job or a leg

-- a run after a change, which leaves its jobs
abbrev pub run_after : RunChange → Run → Run
run_after (RunChange.State state) run = record run { state = state }
run_after (RunChange.Group state group) run = record run { state = state; group = group }
run_after (RunChange.Stop stop) run = record run { stop = stop }

-- what a run had of what is changed
abbrev pub run_before : RunChange → Run → RunChange
run_before (RunChange.State state) run = RunChange.State run.state
run_before (RunChange.Group state group) run = RunChange.Group run.state run.group
run_before (RunChange.Stop stop) run = RunChange.Stop run.stop

-- what a run had of what is changed, if it is there
abbrev pub run_was : RunChange → Option Run → RunChange
run_was how None = how
run_was how (Some run) = run_before how run

-- the state into which a leg comes; one whose stop flag is set stays in its own, for which one stands that counts like itself
abbrev pub state_in : LegChange → LegState
state_in (LegChange.State state) = state
state_in (LegChange.Group state group) = state
state_in (LegChange.Outputs state outputs) = state
state_in (LegChange.Stop stop) = LegState.Fresh

-- the stop flag that is set in a leg; where another change leaves it as it is, one stands for it that stays unset
abbrev pub stop_in : LegChange → Bool
stop_in (LegChange.State state) = false
stop_in (LegChange.Group state group) = false
stop_in (LegChange.Outputs state outputs) = false
stop_in (LegChange.Stop stop) = stop

-- what a leg had of what is changed
abbrev pub leg_before : LegChange → Leg → LegChange
leg_before (LegChange.State state) leg = LegChange.State leg.state
leg_before (LegChange.Group state group) leg = LegChange.Group leg.state leg.group
leg_before (LegChange.Outputs state outputs) leg = LegChange.Outputs leg.state leg.outputs
leg_before (LegChange.Stop stop) leg = LegChange.Stop leg.stop

-- what a leg had of what is changed, if it is there
abbrev pub leg_was : LegChange → Option Leg → LegChange
leg_was how None = how
leg_was how (Some leg) = leg_before how leg

-- the items but for the last
abbrev pub front : {A : Type 0} → List A → List A
front xs = take (length xs - 1) xs

-- a leg in a state, of which the last step is not done
abbrev pub step_taken : LegState → Leg → Leg
step_taken state leg = record leg { state = state; steps = front leg.steps }

-- the state of a job that may be there
abbrev pub job_state_of : Option Job → JobState
job_state_of None = JobState.Unjudged
job_state_of (Some job) = job.state

-- the state of the job at a place
abbrev pub job_state_there : Board → JobPlace → JobState
job_state_there b place = job_state_of (job_there b place)

-- ---- a leg of a board, and its job

-- the job of a leg, by their places
abbrev pub job_of : LegPlace → JobPlace
job_of place = record { run = place.run; job = place.job }

-- the state of a leg that may be there
abbrev pub state_of : Option Leg → LegState
state_of None = LegState.Fresh
state_of (Some leg) = leg.state

-- the state of the leg at a place
abbrev pub state_there : Board → LegPlace → LegState
state_there b place = state_of (leg_there b place)

-- the tallies where the leg at a place came from a state to another
abbrev pub retallied : LegPlace → LegState → LegState → List (List Tally) → List (List Tally)
retallied place was is tallies = changed tallies place.run (λ row. changed row place.job (moved was is))

-- the needs of a run's jobs where, for each of some places, one of those that the job there names was open or not, and
-- now is or is not
abbrev pub needs_turned : Bool → Bool → List ℕ → List Need → List Need
needs_turned was is [] needs = needs
needs_turned was is (k ∷ ks) needs = needs_turned was is ks (changed needs k (need_turned was is))

-- the needs where a job of the run at a place was settled or not, and now is or is not, which those at some places need
abbrev pub resettled : Bool → Bool → ℕ → List ℕ → List (List Need) → List (List Need)
resettled false false r places needs = needs
resettled false true r places needs = changed needs r (needs_turned true false places)
resettled true false r places needs = changed needs r (needs_turned false true places)
resettled true true r places needs = needs

-- how the job of a leg stands by the tallies of these counts
abbrev pub standing_counted : LegPlace → Option Run → Counts → JobStanding
standing_counted place run counts = standing_read run (slice_get counts.tallies place.run) place.job

-- The counts after the leg at a place came from a state to another: the tally of its job; and, as that job stands by the
-- tallies before and after, those of the jobs of its run, and what those need that need it.
pub record LegRecounted (place : LegPlace) (was is : LegState) (run : Option Run) (dependents : List (List (List ℕ))) (old new : Counts) : Type 0 where
  pub tallies : new.tallies ≡ retallied place was is old.tallies
  pub runs : new.runs ≡ changed old.runs place.run (run_moved (standing_counted place run old) (standing_counted place run new))
  pub legs : new.legs ≡ old.legs
  pub needs : new.needs ≡ resettled (standing_counted place run old).is_settled (standing_counted place run new).is_settled place.run (dependents_at dependents (job_of place)) old.needs

-- A leg that was in a state, and has come into another, or is not there.
abbrev pub CameTo : LegState → LegState → LegState → Type 0
CameTo was to is = (is ≡ to) ⊎ (is ≡ was)

-- the board with a leg noted as the last that ended
abbrev pub noted_last : Board → ℕ → Board
noted_last b l = record b { ends = b.ends ++ l ∷ [] }

-- the board with the last end taken off
abbrev pub unnoted : Board → Board
unnoted b = record b { ends = front b.ends }
