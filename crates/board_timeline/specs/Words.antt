-- What is said of rows, bars and marks.
use Rattle.std.specs.Prelude.{◌-◌, ◌++◌, ◌&&◌, ◌||◌, ℕ, suc, Bool, true, false, nat_le, nat_lt, if◌then◌else◌, List, [], ◌∷◌, length, codes, decimal, Option, Some, None, slice_get}
use Rattle.status_table.specs.Words.{Outcome, StepPlan, Work, outcome_word}
use Rattle.board_timeline.specs.declared.phase.Moment.{Moment}
use Rattle.board_timeline.specs.declared.phase.Phase.{Phase}
use Rattle.board_timeline.specs.declared.phase.Phase.TheVariants.{Fresh, Waiting, Admitted, Going, Taken, Calling, Done, Shut, Ended}
use Rattle.board_timeline.specs.declared.row.Row.{Row}

-- ---- words

abbrev pub tolerated_word : Bool → List ℕ
tolerated_word false = []
tolerated_word true = codes " tolerated"

-- How something stands.
abbrev pub stand_words : Phase → List ℕ
stand_words Fresh = codes "not begun"
stand_words Waiting = codes "waiting"
stand_words Admitted = codes "admitted"
stand_words Going = codes "going"
stand_words Taken = codes "running"
stand_words (Calling step) = codes "running"
stand_words (Done step outcome conclusion) = codes "running"
stand_words (Shut how) = codes "shut, " ++ outcome_word how
stand_words (Ended how tolerated) = outcome_word how ++ tolerated_word tolerated

-- ---- names

-- A byte begins a character of UTF-8, and so many bytes of a text, or more, stand before it.
abbrev pub is_past : ℕ → ℕ → ℕ → Bool
is_past limit n b = nat_le limit n && (nat_lt b 128 || nat_le 192 b)

-- What is left of a text, of which n bytes stand before, up to the first character that begins at the limit or later; dots stand
-- for the others.
abbrev pub brief_after : ℕ → ℕ → List ℕ → List ℕ
brief_after limit n [] = []
brief_after limit n (b ∷ bs) = if is_past limit n b then codes "..." else b ∷ brief_after limit (suc n) bs

abbrev pub brief : ℕ → List ℕ → List ℕ
brief limit text = brief_after limit 0 text

-- A name after a number.
abbrev pub name_words : ℕ → List ℕ → List ℕ
name_words limit name = codes " (" ++ brief limit name ++ codes ")"

-- What a row is for.
abbrev pub row_name : List ℕ → ℕ → List ℕ → List ℕ
row_name words number name = (words ++ decimal number) ++ name_words 32 name

-- ---- rows

abbrev pub phase_of : Option Moment → Phase
phase_of None = Fresh
phase_of (Some moment) = moment.phase

-- How a row stands in the end.
abbrev pub last_phase : Row → Phase
last_phase row = phase_of (slice_get row.moments (length row.moments - 1))

-- What a row says.
abbrev pub row_text : List ℕ → Row → List ℕ
row_text name row = name ++ codes ": " ++ stand_words (last_phase row)

-- ---- steps

-- A step is called by its name, else by its script, else by the action that it uses.
abbrev pub work_name : Work → List ℕ
work_name (Work.Run dir run shell) = run
work_name (Work.Uses uses given) = uses

abbrev pub step_name_or : Option (List ℕ) → Work → List ℕ
step_name_or None what = work_name what
step_name_or (Some name) what = name

abbrev pub step_name : StepPlan → List ℕ
step_name step = step_name_or step.name step.work

abbrev pub step_name_words : Option StepPlan → List ℕ
step_name_words None = []
step_name_words (Some step) = name_words 80 (step_name step)

-- The step at a place of a job.
abbrev pub step_words : List StepPlan → ℕ → List ℕ
step_words steps place = (codes "step " ++ decimal place) ++ step_name_words (slice_get steps place)

-- How a step ended.
abbrev pub step_result : Outcome → Outcome → List ℕ
step_result Outcome.Success conclusion = codes "success"
step_result Outcome.Failure Outcome.Success = codes "failure, passed over"
step_result Outcome.Failure Outcome.Failure = codes "failure"
step_result Outcome.Failure Outcome.Cancelled = codes "failure"
step_result Outcome.Failure Outcome.Skipped = codes "failure"
step_result Outcome.Cancelled conclusion = codes "cancelled"
step_result Outcome.Skipped conclusion = codes "skipped"

abbrev pub done_words : List StepPlan → ℕ → Outcome → Outcome → List ℕ
done_words steps place outcome conclusion = step_words steps place ++ (codes ": " ++ step_result outcome conclusion)

-- A call that is answered is a step that is done.
abbrev pub unanswered : List StepPlan → ℕ → List ℕ
unanswered steps place = step_words steps place ++ codes ": not answered"

abbrev pub call_words : List StepPlan → ℕ → Option Phase → List ℕ
call_words steps place None = unanswered steps place
call_words steps place (Some Fresh) = unanswered steps place
call_words steps place (Some Waiting) = unanswered steps place
call_words steps place (Some Admitted) = unanswered steps place
call_words steps place (Some Going) = unanswered steps place
call_words steps place (Some Taken) = unanswered steps place
call_words steps place (Some (Calling other)) = unanswered steps place
call_words steps place (Some (Done other outcome conclusion)) = done_words steps place outcome conclusion
call_words steps place (Some (Shut how)) = unanswered steps place
call_words steps place (Some (Ended how tolerated)) = unanswered steps place

-- ---- bars and marks

-- What a bar shows, by what came after it.
abbrev pub phase_words : List StepPlan → Phase → Option Phase → List ℕ
phase_words steps Fresh after = []
phase_words steps Waiting after = codes "waiting for its group"
phase_words steps Admitted after = codes "admitted"
phase_words steps Going after = codes "going"
phase_words steps Taken after = codes "with its worker"
phase_words steps (Calling place) after = call_words steps place after
phase_words steps (Done place outcome conclusion) after = []
phase_words steps (Shut how) after = []
phase_words steps (Ended how tolerated) after = []

-- What a mark shows.
abbrev pub moment_words : List StepPlan → Phase → List ℕ
moment_words steps Fresh = stand_words Fresh
moment_words steps Waiting = stand_words Waiting
moment_words steps Admitted = stand_words Admitted
moment_words steps Going = stand_words Going
moment_words steps Taken = stand_words Taken
moment_words steps (Calling place) = stand_words (Calling place)
moment_words steps (Done place outcome conclusion) = done_words steps place outcome conclusion
moment_words steps (Shut how) = stand_words (Shut how)
moment_words steps (Ended how tolerated) = stand_words (Ended how tolerated)

-- The lines of a bar: where nothing came after it, it goes on to the end of the record.
abbrev pub to_words : ℕ → Option Phase → List ℕ
to_words to None = codes " to the end"
to_words to (Some phase) = codes " to " ++ decimal to

abbrev pub lines_words : ℕ → ℕ → Option Phase → List ℕ
lines_words from to after = (codes ", line " ++ decimal from) ++ to_words to after

abbrev pub bar_text : List ℕ → List StepPlan → Moment → ℕ → Option Phase → List ℕ
bar_text name steps from to after =
    name ++ codes ": " ++ phase_words steps from.phase after ++ lines_words from.line to after

abbrev pub mark_text : List ℕ → List StepPlan → Moment → List ℕ
mark_text name steps moment =
    name ++ codes ": " ++ moment_words steps moment.phase ++ (codes ", line " ++ decimal moment.line)

-- What was done to a member.
abbrev pub note_text : List ℕ → List ℕ → ℕ → List ℕ
note_text name words line = name ++ (codes ": " ++ words) ++ (codes ", line " ++ decimal line)

abbrev pub numbered : List ℕ → ℕ → List ℕ
numbered words number = words ++ decimal number
