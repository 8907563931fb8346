-- The names of runs, jobs, legs and steps, beside their numbers. Names come from files: each control character is shown by
-- its picture, so that a line stays one line.
use Rattle.std.specs.Prelude.{ℕ, ◌==◌, ◌+◌, ◌++◌, nat_lt, if◌then◌else◌, List, [], ◌∷◌, codes, decimal, Option, Some, None, slice_get}
use Rattle.std.specs.List.{flat_map}
use Rattle.status_table.specs.Words.{JobAt, LegAt, Member, Plain, RunAt, StepPlan, Work, kind_of as kind_of_value, leg_at, pairs_in, run_at, text_of}
use Rattle.why_notes.specs.Account.{Account}

-- ---- texts from files

-- The control characters of ASCII have pictures of their own in Unicode: 0 to 31 from U+2400 on, and 127 has U+2421.
abbrev pub shown_byte : ℕ → List ℕ
shown_byte b =
    if nat_lt b 32 then 226 ∷ 144 ∷ (128 + b) ∷ []
    else (if b == 127 then 226 ∷ 144 ∷ 161 ∷ [] else b ∷ [])

-- a text as it is shown
abbrev pub shown : List ℕ → List ℕ
shown text = flat_map shown_byte text

-- the first line of a text
abbrev pub first_line : List ℕ → List ℕ
first_line [] = []
first_line (b ∷ bs) = if b == 10 then [] else b ∷ first_line bs

-- ---- names

-- what it is, its number, and its name
abbrev pub named : List ℕ → ℕ → List ℕ → List ℕ
named kind n name = (kind ++ decimal n) ++ (codes " (" ++ (name ++ codes ")"))

-- one that is not there has no name
abbrev pub run_name : ℕ → Option RunAt → List ℕ
run_name r None = codes "run " ++ decimal r
run_name r (Some at) = named (codes "run ") r (shown at.plan.flow)

abbrev pub job_name : ℕ → Option JobAt → List ℕ
job_name j None = codes "job " ++ decimal j
job_name j (Some at) = named (codes "job ") j (shown at.plan.name)

-- a variable of a combination with its value
abbrev pub pair_words : List ℕ × Plain → List ℕ
pair_words pair = codes ", " ++ (shown pair.0 ++ (codes " " ++ shown (text_of (kind_of_value pair.1))))

-- the name of a leg's job, and its combination
abbrev pub leg_words : LegAt → List ℕ
leg_words at = shown at.job_plan.name ++ flat_map pair_words (pairs_in (slice_get at.job_plan.legs at.place.leg))

abbrev pub leg_name : ℕ → Option LegAt → List ℕ
leg_name l None = codes "leg " ++ decimal l
leg_name l (Some at) = named (codes "leg ") l (leg_words at)

-- what a step does: its action, or the first line of its script
abbrev pub work_words : Work → List ℕ
work_words (Work.Run dir run shell) = shown (first_line run)
work_words (Work.Uses uses given) = shown uses

-- the name of a step, or else what it does
abbrev pub step_words : Option (List ℕ) → Work → List ℕ
step_words None does = work_words does
step_words (Some name) does = shown name

abbrev pub step_named : ℕ → Option StepPlan → List ℕ
step_named s None = codes "step " ++ decimal s
step_named s (Some step) = named (codes "step ") s (step_words step.name step.work)

abbrev pub step_name : ℕ → Option LegAt → List ℕ
step_name s None = codes "step " ++ decimal s
step_name s (Some at) = step_named s (slice_get at.job_plan.steps s)

-- ---- of an account

abbrev pub member_name : Account → Member → List ℕ
member_name a (Member.Run r) = run_name r (run_at a.plan a.board r)
member_name a (Member.Leg l) = leg_name l (leg_at a.plan a.board l)
