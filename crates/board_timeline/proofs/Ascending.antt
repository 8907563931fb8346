-- The moments of each row ascend, and lie within the record.
use Rattle.std.proofs.Common.{◌≡◌, ◌==◌, ◌<◌, ◌≤◌, ◌+◌, ◌++◌, ℕ, zero, suc, Bool, true, false, if◌then◌else◌, List, [], ◌∷◌, length, Option, Some, None, Ok, Err, slice_get, refl, sym, subst, ap, arith}
use Rattle.std.specs.List.{flat_map}
use Rattle.status_table.specs.Words.{Board, Entry, JobAt, JobPlan, LegAt, Member, Plan, Reply, Row as TableRow, Run, RunPlan, changed, job_at, leg_at, new_board, put, row}
use Rattle.board_timeline.specs.Laws.{AreWithin, Ascend, IsWithin, MomentsAscend, TrackIsWithin}
use Rattle.board_timeline.specs.Noted.{about_noted, all_noted, ends_job, job_rows, job_seen, leg_rows, leg_seen, legs_of, member_displaced, member_noted, member_told, new_track, noted, run_seen, touched}
use Rattle.board_timeline.specs.Phases.{job_phase, leg_phase, run_phase}
use Rattle.board_timeline.specs.Played.{then_noted, track_from}
use Rattle.board_timeline.specs.Rows.{displaced, moment_added, new_rows, row_displaced, row_seen, row_told, seen, told}
use Rattle.board_timeline.specs.declared.noted.About.{About}
use Rattle.board_timeline.specs.declared.noted.Track.{Track}
use Rattle.board_timeline.specs.declared.phase.Moment.{Moment}
use Rattle.board_timeline.specs.declared.phase.Phase.{Phase}
use Rattle.board_timeline.specs.declared.row.Row.{Row}

-- ---- one row

one_more : (after last : ℕ) (moments : List Moment) (moment : Moment) → Ascend after last moments → last < moment.line
    → Ascend after moment.line (moments ++ moment ∷ [])
one_more after last [] moment is later = (subst (λ (n : ℕ). n < moment.line) (sym is) later, refl)
one_more after last (first ∷ moments) moment ascend later = (ascend.0, one_more first.line last moments moment ascend.1 later)

strictly : (n line : ℕ) → (n == line) ≡ false → n ≤ line → n < line
strictly n line other most = grind arith

seen_within : (line : ℕ) (phase : Phase) (r : Row) → IsWithin line r → IsWithin line (row_seen line phase r)
seen_within line phase r within = by_same (r.since == line) refl
  where
    by_same : (same : Bool) → (r.since == line) ≡ same → IsWithin line (if same then r else moment_added line phase r)
    by_same true is = within
    by_same false other =
        (one_more 1 r.since r.moments (record { line = line; phase = phase }) within.0 (strictly r.since line other within.1), at_line)
      where
        at_line : line ≤ line
        at_line = omega arith

later : (line : ℕ) (r : Row) → IsWithin line r → IsWithin (suc line) r
later line r within = (within.0, omega (arith, within.1))

-- ---- rows

changed_within : (line : ℕ) (f : Row → Row) → ((r : Row) → IsWithin line r → IsWithin line (f r)) → (rows : List Row) (n : ℕ)
    → AreWithin line rows → AreWithin line (changed rows n f)
changed_within line f keeps [] n within = within
changed_within line f keeps (r ∷ rows) zero within = (keeps r within.0, within.1)
changed_within line f keeps (r ∷ rows) (suc n) within = by_found (slice_get rows n) (changed_within line f keeps rows n within.1)
  where
    by_found : (found : Option Row) → AreWithin line (put rows n f found) → AreWithin line (put (r ∷ rows) (suc n) f found)
    by_found None others = (within.0, others)
    by_found (Some x) others = (within.0, others)

all_later : (line : ℕ) (rows : List Row) → AreWithin line rows → AreWithin (suc line) rows
all_later line [] within = within
all_later line (r ∷ rows) within = (later line r within.0, all_later line rows within.1)

seen_keeps : (line : ℕ) (phase : Phase) (n : ℕ) (rows : List Row) → AreWithin line rows → AreWithin line (seen line phase n rows)
seen_keeps line phase n rows within = changed_within line (row_seen line phase) (seen_within line phase) rows n within

told_keeps : (line n : ℕ) (rows : List Row) → AreWithin line rows → AreWithin line (told line n rows)
told_keeps line n rows within = changed_within line (row_told line) (λ r one. one) rows n within

displaced_keeps : (line n : ℕ) (rows : List Row) → AreWithin line rows → AreWithin line (displaced line n rows)
displaced_keeps line n rows within = changed_within line (row_displaced line) (λ r one. one) rows n within

-- ---- what is noted of an entry

run_keeps : (line r : ℕ) (run : Option Run) (track : Track) → TrackIsWithin line track → TrackIsWithin line (run_seen line r run track)
run_keeps line r None track within = within
run_keeps line r (Some run) track within =
    record { runs = seen_keeps line (run_phase run.state) r track.runs within.runs; jobs = within.jobs; legs = within.legs }

job_keeps : (line j : ℕ) (job : Option JobAt) (track : Track) → TrackIsWithin line track → TrackIsWithin line (job_seen line j job track)
job_keeps line j None track within = within
job_keeps line j (Some at) track within =
    record { runs = within.runs; jobs = seen_keeps line (job_phase at.job) j track.jobs within.jobs; legs = within.legs }

leg_keeps : (line l : ℕ) (leg : Option LegAt) (track : Track) → TrackIsWithin line track → TrackIsWithin line (leg_seen line l leg track)
leg_keeps line l None track within = within
leg_keeps line l (Some at) track within = by_end (ends_job at)
  where
    by_end : (ended : Bool) → TrackIsWithin line (record track {
      legs = seen line (leg_phase at.leg) l track.legs;
      jobs = if ended then seen line (job_phase at.job) at.job_plan.number track.jobs else track.jobs;
    })
    by_end true = record {
      runs = within.runs;
      jobs = seen_keeps line (job_phase at.job) at.job_plan.number track.jobs within.jobs;
      legs = seen_keeps line (leg_phase at.leg) l track.legs within.legs;
    }
    by_end false = record { runs = within.runs; jobs = within.jobs; legs = seen_keeps line (leg_phase at.leg) l track.legs within.legs }

about_keeps : (plan : Plan) (board : Board) (line : ℕ) (what : About) (track : Track) → TrackIsWithin line track
    → TrackIsWithin line (about_noted plan board line what track)
about_keeps plan board line (About.Run r) track within = run_keeps line r (slice_get board.runs r) track within
about_keeps plan board line (About.Job j) track within = job_keeps line j (job_at plan board j) track within
about_keeps plan board line (About.Leg l) track within = leg_keeps line l (leg_at plan board l) track within
about_keeps plan board line (About.Stop r) track within =
    record { runs = told_keeps line r track.runs within.runs; jobs = within.jobs; legs = within.legs }

member_keeps : (plan : Plan) (board : Board) (line : ℕ) (who : Option Member) (track : Track) → TrackIsWithin line track
    → TrackIsWithin line (member_noted plan board line who track)
member_keeps plan board line None track within = within
member_keeps plan board line (Some (Member.Run r)) track within = run_keeps line r (slice_get board.runs r) track within
member_keeps plan board line (Some (Member.Leg l)) track within = leg_keeps line l (leg_at plan board l) track within

member_told_keeps : (line : ℕ) (who : Option Member) (track : Track) → TrackIsWithin line track → TrackIsWithin line (member_told line who track)
member_told_keeps line None track within = within
member_told_keeps line (Some (Member.Run r)) track within =
    record { runs = told_keeps line r track.runs within.runs; jobs = within.jobs; legs = within.legs }
member_told_keeps line (Some (Member.Leg l)) track within =
    record { runs = within.runs; jobs = within.jobs; legs = told_keeps line l track.legs within.legs }

member_displaced_keeps : (line : ℕ) (who : Option Member) (track : Track) → TrackIsWithin line track → TrackIsWithin line (member_displaced line who track)
member_displaced_keeps line None track within = within
member_displaced_keeps line (Some (Member.Run r)) track within =
    record { runs = displaced_keeps line r track.runs within.runs; jobs = within.jobs; legs = within.legs }
member_displaced_keeps line (Some (Member.Leg l)) track within =
    record { runs = within.runs; jobs = within.jobs; legs = displaced_keeps line l track.legs within.legs }

noted_keeps : (plan : Plan) (board : Board) (line : ℕ) (what : About) (reply : Reply) (track : Track) → TrackIsWithin line track
    → TrackIsWithin line (noted plan board line what reply track)
noted_keeps plan board line what reply track within =
    let first = about_keeps plan board line what track within in
    let second = member_keeps plan board line reply.admitted (about_noted plan board line what track) first in
    let third = member_keeps plan board line reply.displaced (member_noted plan board line reply.admitted (about_noted plan board line what track)) second in
    let all = all_noted plan board line what reply track in
    member_told_keeps line reply.stopped (member_displaced line reply.displaced all) (member_displaced_keeps line reply.displaced all third)

-- ---- a record

track_later : (line : ℕ) (track : Track) → TrackIsWithin line track → TrackIsWithin (suc line) track
track_later line track within = record {
  runs = all_later line track.runs within.runs;
  jobs = all_later line track.jobs within.jobs;
  legs = all_later line track.legs within.legs;
}

same_some : (one two : Track) → Some one ≡ Some two → one ≡ two
same_some one two is = ap (λ (found : Option Track). or_first found) is
  where
    or_first : Option Track → Track
    or_first None = one
    or_first (Some x) = x

-- before each entry all lie within the line before it
from_keeps : (table plan : Plan) (board : Board) (line : ℕ) (track : Track) (es : List Entry) (end : Track) → TrackIsWithin line track
    → track_from table plan board (suc line) track es ≡ Some end → TrackIsWithin (length es + line) end
from_keeps table plan board line track [] end within is =
    subst (λ (n : ℕ). TrackIsWithin n end) none_on (subst (λ (rows : Track). TrackIsWithin line rows) (same_some track end is) within)
  where
    none_on : line ≡ 0 + line
    none_on = omega arith
from_keeps table plan board line track (e ∷ es) end within is =
    by_row (row table board e.worker e.event)
    (λ next reply ends. from_keeps table plan next (suc line) (noted plan next (suc line) (touched e.event) reply track) es end
    (noted_keeps plan next (suc line) (touched e.event) reply track (track_later line track within)) ends)
    is
  where
    Rest : Board → Reply → Option Track
    Rest next reply = track_from table plan next (suc (suc line)) (noted plan next (suc line) (touched e.event) reply track) es

    one_on : length es + suc line ≡ suc (length es) + line
    one_on = omega arith

    by_row : (found : TableRow) → ((next : Board) (reply : Reply) → Rest next reply ≡ Some end → TrackIsWithin (length es + suc line) end)
        → then_noted found Rest ≡ Some end → TrackIsWithin (suc (length es) + line) end
    by_row (Ok x) others ends = subst (λ (n : ℕ). TrackIsWithin n end) one_on (others x.0 x.1 ends)
    by_row (Err refusal) others ends = absurd (cc ends)

-- ---- the rows of a new board

new_within : (n : ℕ) → AreWithin 1 (new_rows n)
new_within zero = tt
new_within (suc n) = ((refl, first), new_within n)
  where
    first : 1 ≤ 1
    first = omega arith

both_within : (line : ℕ) (a b : List Row) → AreWithin line a → AreWithin line b → AreWithin line (a ++ b)
both_within line [] b first second = second
both_within line (r ∷ a) b first second = (first.0, both_within line a b first.1 second)

jobs_within : (runs : List RunPlan) → AreWithin 1 (flat_map job_rows runs)
jobs_within [] = tt
jobs_within (run ∷ runs) = both_within 1 (job_rows run) (flat_map job_rows runs) (new_within (length run.jobs)) (jobs_within runs)

legs_within : (jobs : List JobPlan) → AreWithin 1 (flat_map legs_of jobs)
legs_within [] = tt
legs_within (job ∷ jobs) = both_within 1 (legs_of job) (flat_map legs_of jobs) (new_within (length job.legs)) (legs_within jobs)

all_legs_within : (runs : List RunPlan) → AreWithin 1 (flat_map leg_rows runs)
all_legs_within [] = tt
all_legs_within (run ∷ runs) = both_within 1 (leg_rows run) (flat_map leg_rows runs) (legs_within run.jobs) (all_legs_within runs)

new_track_within : (plan : Plan) → TrackIsWithin 1 (new_track plan)
new_track_within plan =
    record { runs = new_within (length plan.runs); jobs = jobs_within plan.runs; legs = all_legs_within plan.runs }

pub moments_ascend : MomentsAscend
moments_ascend plan entries track is = from_keeps plan plan (new_board plan) 1 (new_track plan) entries track (new_track_within plan) is
