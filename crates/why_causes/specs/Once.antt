-- Nothing is asked twice: in a tree each run, job and leg, and that a run was told to stop, stands with what made it so at one
-- place at most; wherever else it is told, it is told as told already.
use Rattle.std.specs.Prelude.{◌≡◌, ◌≤◌, ℕ, ◌+◌, ◌==◌, ◌&&◌, Bool, true, false, not, is_some, List, [], ◌∷◌, Option, Some, None, slice_get}
use Rattle.status_table.specs.Words.{Member}
use Rattle.why_causes.specs.Tree.{nothing_told, tree}
use Rattle.why_causes.specs.declared.question.Question.{Question}
use Rattle.why_causes.specs.declared.tree.Line.{Line}
use Rattle.why_causes.specs.declared.tree.Told.{Told}
use Rattle.why_notes.specs.Account.{Account}

-- ---- marks

-- of what there are marks: runs, jobs, legs, and that runs were told to stop
pub data MarkKind : Type 0 where
  runs : MarkKind
  jobs : MarkKind
  legs : MarkKind
  stops : MarkKind

abbrev pub same_kind : MarkKind → MarkKind → Bool
same_kind runs runs = true
same_kind jobs jobs = true
same_kind legs legs = true
same_kind stops stops = true
same_kind _ _ = false

-- the marks of a kind
abbrev pub marks : Told → MarkKind → List Bool
marks told runs = told.runs
marks told jobs = told.jobs
marks told legs = told.legs
marks told stops = told.stops

-- The mark of a question. Steps, and that a leg was told to stop, stand below one fact alone and have none.
abbrev pub mark_of : Question → Option (MarkKind × ℕ)
mark_of (Question.Run r) = Some (runs, r)
mark_of (Question.Job j) = Some (jobs, j)
mark_of (Question.Leg l) = Some (legs, l)
mark_of (Question.Step l s) = None
mark_of (Question.Stop (Member.Run r)) = Some (stops, r)
mark_of (Question.Stop (Member.Leg l)) = None

-- the same mark
abbrev pub is_marked_by : MarkKind → ℕ → Option (MarkKind × ℕ) → Bool
is_marked_by kind n None = false
is_marked_by kind n (Some mark) = same_kind kind mark.0 && (n == mark.1)

-- ---- how often what has a mark is answered

-- a line tells the answer, and not that it was told already
abbrev pub is_answer : MarkKind → ℕ → Line → Bool
is_answer kind n line = is_marked_by kind n (mark_of line.question) && not line.above

abbrev pub one_if : Bool → ℕ
one_if false = 0
one_if true = 1

abbrev pub answers : MarkKind → ℕ → List Line → ℕ
answers kind n [] = 0
answers kind n (line ∷ lines) = one_if (is_answer kind n line) + answers kind n lines

-- Each run, job and leg of a plan, and that a run was told to stop, is answered once at most in a tree.
abbrev pub NothingIsAskedTwice : Type 0
NothingIsAskedTwice =
    (a : Account) (roots : List Question) (kind : MarkKind) (n : ℕ)
    → is_some (slice_get (marks (nothing_told a) kind) n) ≡ true → answers kind n (tree a roots) ≤ 1
