-- What is noted in the account of a record was made so by the entry at the line that is noted, and is so at the end.
use Rattle.std.specs.Prelude.{◌≡◌, ◌+◌, ◌++◌, ℕ, Contains, List, ◌∷◌, length, Some, Ok, IfSome, slice_get}
use Rattle.status_table.specs.Words.{Board, Each, Entry, Member, Plan, Reply, after, row}
use Rattle.why_facts.specs.declared.fact.Change.{Change}
use Rattle.why_facts.specs.declared.notes.JobNotes.{JobNotes}
use Rattle.why_facts.specs.declared.notes.LegNotes.{LegNotes}
use Rattle.why_facts.specs.declared.notes.Notes.{Notes}
use Rattle.why_facts.specs.declared.notes.RunNotes.{RunNotes}
use Rattle.why_facts.specs.declared.notes.StepNote.{StepNote}
use Rattle.why_notes.specs.Account.{Account, account_of}
use Rattle.why_notes.specs.Changes.{changes}
use Rattle.why_causes.specs.Agrees.{Agrees}
use Rattle.why_causes.specs.Becomes.{Becomes}
use Rattle.why_causes.specs.Stands.{IsTold}

-- Nobody had told it to stop yet, where that is the change.
abbrev pub IsNews : Board → Change → Type 0
IsNews old (Change.Member who fact) = Unit {0}
IsNews old (Change.Job j fact) = Unit {0}
IsNews old (Change.Called l) = Unit {0}
IsNews old (Change.Step l fact) = Unit {0}
IsNews old (Change.Stop who tells) = IsTold old who → ⊥

-- A change is made at a line of a record, whose plan is line 1: the entry there is accepted on the board after those
-- before it, the change is among what it makes so, was not so on that board, and is so on the one after it.
pub record MadeAt (p : Plan) (es : List Entry) (line : ℕ) (c : Change) : Type 0 where
  pub before : List Entry
  pub entry : Entry
  pub rest : List Entry
  pub old : Board
  pub new : Board
  pub reply : Reply
  pub there : es ≡ before ++ entry ∷ rest
  pub counted : line ≡ length before + 2
  pub played : after p before ≡ Some old
  pub accepted : row p old entry.worker entry.event ≡ Ok (new, reply)
  pub among : Contains (changes p old entry.event) c
  pub becomes : Becomes old new c
  pub news : IsNews old c

-- ---- what is noted, each as a change at its line

-- of a run
pub record RunHolds (P : ℕ → Change → Type 0) (r : ℕ) (notes : RunNotes) : Type 0 where
  pub last : IfSome notes.last (λ note. P note.line (Change.Member (Member.Run r) note.fact))
  pub stop : IfSome notes.stop (λ note. P note.line (Change.Stop (Member.Run r) note.teller))

-- of a job
abbrev pub JobHolds : (ℕ → Change → Type 0) → ℕ → JobNotes → Type 0
JobHolds P j notes = IfSome notes.last (λ note. P note.line (Change.Job j note.fact))

-- of a leg
pub record LegHolds (P : ℕ → Change → Type 0) (l : ℕ) (notes : LegNotes) : Type 0 where
  pub last : IfSome notes.last (λ note. P note.line (Change.Member (Member.Leg l) note.fact))
  pub stop : IfSome notes.stop (λ note. P note.line (Change.Stop (Member.Leg l) note.teller))
  pub call : IfSome notes.call (λ line. P line (Change.Called l))
  pub steps : Each (λ (note : StepNote). P note.line (Change.Step l note.fact)) notes.steps

-- Of all that is noted this holds.
pub record EachHolds (P : ℕ → Change → Type 0) (notes : Notes) : Type 0 where
  pub runs : (r : ℕ) (run : RunNotes) → slice_get notes.runs r ≡ Some run → RunHolds P r run
  pub jobs : (j : ℕ) (job : JobNotes) → slice_get notes.jobs j ≡ Some job → JobHolds P j job
  pub legs : (l : ℕ) (leg : LegNotes) → slice_get notes.legs l ≡ Some leg → LegHolds P l leg

-- All that is noted in the account of a record was made so at its line, of who told somebody to stop the first; and it is how
-- all stands on the board after the record.
pub record IsMade (p : Plan) (es : List Entry) (a : Account) : Type 0 where
  pub notes : EachHolds (MadeAt p es) a.notes
  pub agrees : Agrees a.board a.notes

abbrev pub NotesAreMade : Type 0
NotesAreMade = (p : Plan) (es : List Entry) (a : Account) → account_of p es ≡ Some a → IsMade p es a
