-- Why a leg is to stop, in the order in which it is asked.
use Rattle.std.specs.Prelude.{ℕ, ◌-◌, ◌&&◌, Bool, true, false, nat_le, List, [], ◌∷◌, Option, Some, None, slice_get, if◌then◌else◌}
use Rattle.status_table.specs.Words.{Leg, LegAt, has_failed}
use Rattle.why_facts.specs.declared.fact.StopCause.{StopCause}

-- whether there is such a leg, and it failed
abbrev pub failed_there : Option Leg → Bool
failed_there None = false
failed_there (Some leg) = has_failed leg.state

-- whether the leg with a number is one of a job's, of which the first has the number `first`, and failed
abbrev pub failed_of : ℕ → List Leg → ℕ → Bool
failed_of first legs l = nat_le first l && failed_there (slice_get legs (l - first))

-- the first of a job's legs that failed, of the legs in the order in which they ended
abbrev pub first_failed : ℕ → List Leg → List ℕ → Option ℕ
first_failed first legs [] = None
first_failed first legs (l ∷ ends) = if failed_of first legs l then Some l else first_failed first legs ends

-- by whether the leg was told to, whether its job fails fast, and the first leg of it that failed
abbrev pub stop_by : Bool → Bool → Option ℕ → StopCause
stop_by true fast failed = StopCause.Told
stop_by false true (Some l) = StopCause.FailFast l
stop_by false true None = StopCause.RunTold
stop_by false false failed = StopCause.RunTold

-- why the leg with a number is to stop, where it is
abbrev pub cause_of_stop : ℕ → LegAt → StopCause
cause_of_stop l at =
    stop_by at.leg.stop at.job_plan.fail_fast (first_failed (l - at.place.leg) at.job.legs at.board.ends)
