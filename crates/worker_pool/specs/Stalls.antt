-- Why a plan in play may not go on: the groups of its jobs.
use Rattle.std.specs.Prelude.{◌≡◌, ◌≢◌, ℕ, List, Some, None, slice_get}
use Rattle.status_table.specs.Words.{Board, Each, LegAt, LegState, Plan, Run, RunState, leg_at}

-- A leg waits for the group with a name, which another run than the leg's own holds: it is Going, in that group.
pub record WaitsForAnotherRun (p : Plan) (b : Board) : Type 0 where
  pub leg : ℕ
  pub at : LegAt
  pub name : List ℕ
  pub other : ℕ
  pub run : Run
  pub found : leg_at p b leg ≡ Some at
  pub waits : at.leg.state ≡ LegState.Waiting
  pub wanted : at.leg.group ≡ Some name
  pub there : slice_get b.runs other ≡ Some run
  pub going : run.state ≡ RunState.Going
  pub holds : run.group ≡ Some name
  pub another : other ≢ at.place.run

-- no job of the plan has a group
abbrev pub HasNoJobGroup : Plan → Type 0
HasNoJobGroup p = Each (λ run. Each (λ job. job.group ≡ None) run.jobs) p.runs
