-- What an entry may change of a board, beside the lines of its runs: the states of jobs, or some legs.
use Rattle.std.specs.Prelude.{◌≡◌, ◌≢◌, ◌-◌, ℕ, Bool, true, false, List, [], ◌∷◌, map, take, drop, Option, Some, None, slice_get}
use Rattle.std.specs.List.{flat_map}
use Rattle.status_table.specs.Words.{Board, Event, Job, Leg, Member, Reply, Run, board_jobs, board_legs, leg_places, run_sizes, sizes}
use Rattle.plan_text.specs.Changes.{TellsLeg, after_jobs}
use Rattle.command_print.specs.declared.index.Index.{Index}
use Rattle.command_print.specs.declared.touched.Members.{Members}
use Rattle.command_print.specs.declared.touched.Touched.{Touched}

-- ---- whom an entry touches

-- Who an event is for, and whom the reply to it names.
abbrev pub members_of : Member → Reply → Members
members_of who reply =
    record { who = who; admitted = reply.admitted; displaced = reply.displaced; stopped = reply.stopped }

-- Only the state of a job changes where one is judged.
abbrev pub touched_by : Event → Reply → Touched
touched_by (Event.Open r) reply = Touched.Legs (members_of (Member.Run r) reply)
touched_by (Event.Judge j) reply = Touched.Jobs
touched_by (Event.Ask l) reply = Touched.Legs (members_of (Member.Leg l) reply)
touched_by (Event.Drop l) reply = Touched.Legs (members_of (Member.Leg l) reply)
touched_by (Event.Take l) reply = Touched.Legs (members_of (Member.Leg l) reply)
touched_by (Event.Begin l) reply = Touched.Legs (members_of (Member.Leg l) reply)
touched_by (Event.End l a) reply = Touched.Legs (members_of (Member.Leg l) reply)
touched_by (Event.Finish l) reply = Touched.Legs (members_of (Member.Leg l) reply)
touched_by (Event.Close r) reply = Touched.Legs (members_of (Member.Run r) reply)
touched_by (Event.Cancel r) reply = Touched.Legs (members_of (Member.Run r) reply)

-- Whether a reply may name others than whom the event is for.
abbrev pub names_others : Event → Bool
names_others (Event.Open r) = true
names_others (Event.Judge j) = false
names_others (Event.Ask l) = true
names_others (Event.Drop l) = true
names_others (Event.Take l) = false
names_others (Event.Begin l) = false
names_others (Event.End l a) = false
names_others (Event.Finish l) = true
names_others (Event.Close r) = true
names_others (Event.Cancel r) = false

-- ---- what stays

-- A leg is none of some members.
pub record IsApart (l : ℕ) (members : Members) : Type 0 where
  pub who : members.who ≢ Member.Leg l
  pub admitted : members.admitted ≢ Some (Member.Leg l)
  pub displaced : members.displaced ≢ Some (Member.Leg l)
  pub stopped : members.stopped ≢ Some (Member.Leg l)

-- The states of jobs stay, and all legs but those of some members.
pub record KeepsOthers (members : Members) (before board : Board) : Type 0 where
  pub states : map (λ job. job.state) (board_jobs board) ≡ map (λ job. job.state) (board_jobs before)
  pub legs : (l : ℕ) → IsApart l members → slice_get (board_legs board) l ≡ slice_get (board_legs before) l

-- What is touched is all that changes, beside the lines of runs.
abbrev pub KeepsUntouched : Touched → Board → Board → Type 0
KeepsUntouched Touched.Jobs before board =
    map (λ job. job.legs) (board_jobs board) ≡ map (λ job. job.legs) (board_jobs before)
KeepsUntouched (Touched.Legs members) before board = KeepsOthers members before board

-- ---- where runs, jobs and legs stand

-- The numbers of the first job and the first leg after each of some runs.
abbrev pub next_numbers : ℕ × ℕ → List Run → List (ℕ × ℕ)
next_numbers first [] = []
next_numbers first (run ∷ runs) = after_jobs first run.jobs ∷ next_numbers (after_jobs first run.jobs) runs

-- An index has these numbers, and the places of all legs.
pub record IsIndexOf (index : Index) (board : Board) : Type 0 where
  pub next : index.next.items ≡ next_numbers (0, 0) board.runs
  pub legs : index.legs.items ≡ leg_places board

-- A board and the one before it have one shape, and the index is that of both.
pub record StandAlike (index : Index) (before board : Board) : Type 0 where
  pub shape : run_sizes before.runs ≡ run_sizes board.runs
  pub here : IsIndexOf index board
  pub there : IsIndexOf index before

-- The legs from one number on up to another.
abbrev pub between : ℕ → ℕ → List Leg → List Leg
between from end legs = take (end - from) (drop from legs)

-- ---- a run and the one before it

-- In a run and the one before it only that differs beside their lines which is touched.
abbrev pub JobsKeep : Touched → List Job → List Job → Type 0
JobsKeep Touched.Jobs before jobs = map (λ job. job.legs) jobs ≡ map (λ job. job.legs) before
JobsKeep (Touched.Legs members) before jobs = map (λ job. job.state) jobs ≡ map (λ job. job.state) before

-- A run, whose jobs and legs have the numbers from two on, and the one before it, as they stand on their boards.
pub record RunsStand (touched : Touched) (first : ℕ × ℕ) (before board : Board) (was run : Run) : Type 0 where
  pub size : sizes was.jobs ≡ sizes run.jobs
  pub keeps : JobsKeep touched was.jobs run.jobs
  pub legs : between first.1 (after_jobs first run.jobs).1 (board_legs board) ≡ flat_map (λ job. job.legs) run.jobs
  pub legs_before : between first.1 (after_jobs first run.jobs).1 (board_legs before) ≡ flat_map (λ job. job.legs) was.jobs

-- ---- what is told on the way

-- What is told of a leg with a number, if it is there.
abbrev pub TellsFound : ℕ → Option Leg → Option Leg → List ℕ → Type 0
TellsFound l None leg told = told ≡ []
TellsFound l (Some was) None told = told ≡ []
TellsFound l (Some was) (Some leg) told = TellsLeg l was leg told
