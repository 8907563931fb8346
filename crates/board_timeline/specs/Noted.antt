-- What is noted of an entry: how that which the event is about stands on the board after it, and each member that the reply
-- names.
use Rattle.std.specs.Prelude.{ℕ, ◌&&◌, Bool, if◌then◌else◌, List, length, Option, Some, None, slice_get}
use Rattle.std.specs.List.{flat_map}
use Rattle.status_table.specs.Words.{Board, Event, JobAt, JobPlan, LegAt, Member, Plan, Reply, Run, RunPlan, is_ended, job_at, leg_at}
use Rattle.board_timeline.specs.Phases.{is_over, job_phase, leg_phase, run_phase}
use Rattle.board_timeline.specs.Rows.{displaced, new_rows, seen, told}
use Rattle.board_timeline.specs.declared.noted.About.{About}
use Rattle.board_timeline.specs.declared.noted.Track.{Track}
use Rattle.board_timeline.specs.declared.row.Row.{Row}

-- ---- the rows of a plan on whose board all is new

abbrev pub job_rows : RunPlan → List Row
job_rows run = new_rows (length run.jobs)

abbrev pub legs_of : JobPlan → List Row
legs_of job = new_rows (length job.legs)

abbrev pub leg_rows : RunPlan → List Row
leg_rows run = flat_map legs_of run.jobs

abbrev pub new_track : Plan → Track
new_track plan =
    record { runs = new_rows (length plan.runs); jobs = flat_map job_rows plan.runs; legs = flat_map leg_rows plan.runs }

-- ---- how one of them stands after the entry of a line

-- A run.
abbrev pub run_seen : ℕ → ℕ → Option Run → Track → Track
run_seen line r None track = track
run_seen line r (Some run) track = record track { runs = seen line (run_phase run.state) r track.runs }

abbrev pub run_noted : Board → ℕ → ℕ → Track → Track
run_noted board line r track = run_seen line r (slice_get board.runs r) track

-- A job.
abbrev pub job_seen : ℕ → ℕ → Option JobAt → Track → Track
job_seen line j None track = track
job_seen line j (Some at) track = record track { jobs = seen line (job_phase at.job) j track.jobs }

abbrev pub job_noted : Plan → Board → ℕ → ℕ → Track → Track
job_noted plan board line j track = job_seen line j (job_at plan board j) track

-- A leg; where it has ended, and all legs of its job have by that, its job too.
abbrev pub ends_job : LegAt → Bool
ends_job at = is_ended at.leg.state && is_over (job_phase at.job)

abbrev pub leg_seen : ℕ → ℕ → Option LegAt → Track → Track
leg_seen line l None track = track
leg_seen line l (Some at) track = record track {
  legs = seen line (leg_phase at.leg) l track.legs;
  jobs = if ends_job at then seen line (job_phase at.job) at.job_plan.number track.jobs else track.jobs;
}

abbrev pub leg_noted : Plan → Board → ℕ → ℕ → Track → Track
leg_noted plan board line l track = leg_seen line l (leg_at plan board l) track

-- ---- what an entry is about, and whom its reply names

abbrev pub touched : Event → About
touched (Event.Open r) = About.Run r
touched (Event.Judge j) = About.Job j
touched (Event.Ask l) = About.Leg l
touched (Event.Drop l) = About.Leg l
touched (Event.Take l) = About.Leg l
touched (Event.Begin l) = About.Leg l
touched (Event.End l answer) = About.Leg l
touched (Event.Finish l) = About.Leg l
touched (Event.Close r) = About.Run r
touched (Event.Cancel r) = About.Stop r

abbrev pub about_noted : Plan → Board → ℕ → About → Track → Track
about_noted plan board line (About.Run r) track = run_noted board line r track
about_noted plan board line (About.Job j) track = job_noted plan board line j track
about_noted plan board line (About.Leg l) track = leg_noted plan board line l track
about_noted plan board line (About.Stop r) track = record track { runs = told line r track.runs }

abbrev pub member_noted : Plan → Board → ℕ → Option Member → Track → Track
member_noted plan board line None track = track
member_noted plan board line (Some (Member.Run r)) track = run_noted board line r track
member_noted plan board line (Some (Member.Leg l)) track = leg_noted plan board line l track

abbrev pub member_told : ℕ → Option Member → Track → Track
member_told line None track = track
member_told line (Some (Member.Run r)) track = record track { runs = told line r track.runs }
member_told line (Some (Member.Leg l)) track = record track { legs = told line l track.legs }

abbrev pub member_displaced : ℕ → Option Member → Track → Track
member_displaced line None track = track
member_displaced line (Some (Member.Run r)) track = record track { runs = displaced line r track.runs }
member_displaced line (Some (Member.Leg l)) track = record track { legs = displaced line l track.legs }

-- ---- the entry of a line, by the board after it and the reply to it

-- How all stand that it touched.
abbrev pub all_noted : Plan → Board → ℕ → About → Reply → Track → Track
all_noted plan board line what reply track =
    member_noted plan board line reply.displaced
    (member_noted plan board line reply.admitted (about_noted plan board line what track))

-- And who was displaced or told to stop by it.
abbrev pub noted : Plan → Board → ℕ → About → Reply → Track → Track
noted plan board line what reply track =
    member_told line reply.stopped (member_displaced line reply.displaced (all_noted plan board line what reply track))
