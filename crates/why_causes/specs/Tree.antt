-- The tree of what is asked: each fact on a line, and below it, one deeper, the facts that made it so. A fact that was told
-- already is not asked again.
use Rattle.std.specs.Prelude.{ℕ, zero, suc, ◌==◌, ◌++◌, ◌&&◌, Bool, true, false, List, [], ◌∷◌, length, map, replicate, if◌then◌else◌}
use Rattle.status_table.specs.Words.{Member, changed, holds_at}
use Rattle.why_causes.specs.Causes.{causes}
use Rattle.why_causes.specs.declared.question.Question.{Question}
use Rattle.why_causes.specs.declared.tree.Asked.{Asked}
use Rattle.why_causes.specs.declared.tree.Line.{Line}
use Rattle.why_causes.specs.declared.tree.Told.{Told}
use Rattle.why_notes.specs.Account.{Account}

-- ---- what was told

-- a mark is set
abbrev pub set_mark : List Bool → ℕ → List Bool
set_mark marks n = changed marks n (λ mark. true)

-- Whether a question was answered already. That a leg was told to stop, and a step, are told below one fact alone.
abbrev pub is_told : Told → Question → Bool
is_told told (Question.Run r) = holds_at told.runs r
is_told told (Question.Job j) = holds_at told.jobs j
is_told told (Question.Leg l) = holds_at told.legs l
is_told told (Question.Step l s) = false
is_told told (Question.Stop (Member.Run r)) = holds_at told.stops r
is_told told (Question.Stop (Member.Leg l)) = false

-- what is told with a question more
abbrev pub with_told : Told → Question → Told
with_told told (Question.Run r) = record told { runs = set_mark told.runs r }
with_told told (Question.Job j) = record told { jobs = set_mark told.jobs j }
with_told told (Question.Leg l) = record told { legs = set_mark told.legs l }
with_told told (Question.Step l s) = told
with_told told (Question.Stop (Member.Run r)) = record told { stops = set_mark told.stops r }
with_told told (Question.Stop (Member.Leg l)) = told

-- nothing was told
abbrev pub nothing_told : Account → Told
nothing_told a =
    record {
      runs = replicate (length a.notes.runs) false;
      jobs = replicate (length a.notes.jobs) false;
      legs = replicate (length a.notes.legs) false;
      stops = replicate (length a.notes.runs) false;
    }

-- ---- the tree

-- questions at a depth
abbrev pub at_depth : ℕ → List Question → List Asked
at_depth depth questions = map (λ q. record { depth = depth; question = q }) questions

-- the line of a question; what was told already has none at the root
abbrev pub lines_of : Asked → Bool → List Line
lines_of x above =
    if above && (x.depth == 0) then [] else (record { depth = x.depth; question = x.question; above = above }) ∷ []

-- what is asked where a question was, or was not, answered already
abbrev pub asked_below : Account → Asked → Bool → List Asked
asked_below a x true = []
asked_below a x false = at_depth (suc x.depth) (causes a x.question)

-- what is told after a question that was, or was not, answered already
abbrev pub told_after : Told → Question → Bool → Told
told_after told q true = told
told_after told q false = with_told told q

-- The lines of questions, of which so many are answered: below each one, before the others, what made it so.
abbrev pub lines : ℕ → Account → List Asked → Told → List Line
lines zero a asked told = []
lines (suc n) a [] told = []
lines (suc n) a (x ∷ asked) told =
    lines_of x (is_told told x.question)
    ++ lines n a (asked_below a x (is_told told x.question) ++ asked)
    (told_after told x.question (is_told told x.question))

-- as many as a number of 64 bits can count, which no memory holds
abbrev pub most_lines : ℕ
most_lines = 18446744073709551615

-- the tree of questions, one after the other
abbrev pub tree : Account → List Question → List Line
tree a roots = lines most_lines a (at_depth 0 roots) (nothing_told a)
