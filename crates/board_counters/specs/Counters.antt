-- What is counted beside a board: the legs of each job by how
-- they stand, and how many of the jobs that a job needs are open.
use Rattle.std.specs.Prelude.{ℕ, suc, ◌-◌, ◌==◌, ◌||◌, Bool, true, false, not, List, [], ◌∷◌, map, length, nat_lt, count_by, Option, Some, None, slice_get, if◌then◌else◌}
use Rattle.status_table.specs.Words.{Board, Job, JobPlace, JobPlan, Leg, LegState, Run, RunPlan, has_failed, holds_at, is_ended, is_shut, is_under_way, was_cancelled, ◌>>=◌}
use Rattle.board_counters.specs.declared.tally.Counter.{Counter}
use Rattle.board_counters.specs.declared.tally.Tally.{Tally}
use Rattle.board_counters.specs.declared.need.Need.{Need}

-- ---- the legs of a job

-- whether a leg in a state is counted
abbrev pub counts : Counter → LegState → Bool
counts Counter.Open state = not (is_ended state)
counts Counter.Used state = is_under_way state
counts Counter.Failed state = has_failed state
counts Counter.Cancelled state = was_cancelled state

-- how many of some legs are counted
abbrev pub counted : Counter → List Leg → ℕ
counted what legs = count_by (λ leg. counts what leg.state) legs

-- how the legs of a job stand
abbrev pub tally_of : Job → Tally
tally_of job =
    record {
      legs = length job.legs;
      pending = counted Counter.Open job.legs;
      used = counted Counter.Used job.legs;
      failed = counted Counter.Failed job.legs;
      cancelled = counted Counter.Cancelled job.legs;
    }

-- how the legs of each job of each run stand
abbrev pub tallies_of : Board → List (List Tally)
tallies_of b = map (λ run. map tally_of run.jobs) b.runs

-- a count of some of so many, where one of these was counted or not, and now is or is not
abbrev pub turned : ℕ → ℕ → Bool → Bool → ℕ
turned all n false false = n
turned all n false true = if nat_lt n all then suc n else n
turned all n true false = n - 1
turned all n true true = n

-- the counts where one leg came from a state to another
abbrev pub moved : LegState → LegState → Tally → Tally
moved was is t =
    record {
      legs = t.legs;
      pending = turned t.legs t.pending (counts Counter.Open was) (counts Counter.Open is);
      used = turned t.legs t.used (counts Counter.Used was) (counts Counter.Used is);
      failed = turned t.legs t.failed (counts Counter.Failed was) (counts Counter.Failed is);
      cancelled = turned t.legs t.cancelled (counts Counter.Cancelled was) (counts Counter.Cancelled is);
    }

-- what is counted of a job that may be there
abbrev pub tally_there : Option Tally → Tally
tally_there None = record { legs = 0; pending = 0; used = 0; failed = 0; cancelled = 0 }
tally_there (Some tally) = tally

-- ---- the needs of a job

-- whether a job has ended by itself, whatever its run: it is Shut, or all its legs are Ended
abbrev pub is_settled : Job → Bool
is_settled job = is_shut job.state || ((tally_of job).pending == 0)

-- whether each job of a run has
abbrev pub settled_jobs : Run → List Bool
settled_jobs run = map is_settled run.jobs

-- the number of the first of a run's jobs
abbrev pub first_number : List JobPlan → ℕ
first_number [] = 0
first_number (job ∷ jobs) = job.number

-- how many of some needs are of jobs of the run that have not, where its first has this number
abbrev pub open_among : ℕ → List Bool → List ℕ → ℕ
open_among first settled needs = count_by (λ need. not (holds_at settled (need - first))) needs

-- how many jobs a job names that it needs, and how many of these are open
abbrev pub need_of : ℕ → List Bool → JobPlan → Need
need_of first settled plan = record { all = length plan.needs; pending = open_among first settled plan.needs }

-- what each job of a run needs
abbrev pub run_needs : RunPlan → Run → List Need
run_needs plan run = map (need_of (first_number plan.jobs) (settled_jobs run)) plan.jobs

-- what each job of each run needs
abbrev pub needs_of : List RunPlan → List Run → List (List Need)
needs_of [] runs = []
needs_of (plan ∷ plans) [] = []
needs_of (plan ∷ plans) (run ∷ runs) = run_needs plan run ∷ needs_of plans runs

-- the need of a job where one of those that it names was open or not, and now is or is not
abbrev pub need_turned : Bool → Bool → Need → Need
need_turned was is need = record need { pending = turned need.all need.pending was is }

-- what the job at a place needs
abbrev pub needs_there : List (List Need) → JobPlace → Option Need
needs_there needs place = slice_get needs place.run >>= λ row. slice_get row place.job

-- whether a job that may be there needs none that is open
abbrev pub needs_none : Option Need → Bool
needs_none None = false
needs_none (Some need) = need.pending == 0
