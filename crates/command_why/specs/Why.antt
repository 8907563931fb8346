-- What `actrun why` tells of a text: the tree that answers what is asked of its record, that what is asked about is not
-- there, or why the record is not played.
use Rattle.std.specs.Prelude.{◌≡◌, ℕ, List, codes, Option, Some, None, Result, Ok, Err, Vec}
use Rattle.std.specs.Option.{option_map}
use Rattle.std.specs.declared.alloc.Global.{Global}
use Rattle.status_table.specs.Words.{Entry, Plan}
use Rattle.why_causes.specs.Tree.{tree}
use Rattle.why_causes.specs.declared.question.Question.{Question}
use Rattle.why_causes.specs.declared.tree.Line.{Line}
use Rattle.why_notes.specs.Account.{Account, account_of}
use Rattle.command_io.specs.Records.{IsNotPlayed, IsStopped, OfRecord}
use Rattle.command_io.specs.Stream.{Stream, IsKept, IsRead}
use Rattle.command_io.specs.Tell.{Says, TellsBy}
use Rattle.command_io.specs.CommandError.{UnlessMemory, name_line}
use Rattle.command_io.specs.declared.stream.SourceFault.{SourceFault}
use Rattle.command_io.specs.declared.error.CommandError.{CommandError}
use Rattle.command_io.specs.declared.error.CommandError.TheVariants.{Io, Memory}
use Rattle.command_why.specs.Objects.{each_json, tree_json}
use Rattle.command_why.specs.Parts.{parts}
use Rattle.command_why.specs.Roots.{roots}
use Rattle.command_why.specs.Words.{tree_text}
use Rattle.command_why.specs.declared.wanted.Wanted.{Wanted}

-- ---- what a record comes to

-- the tree that answers what is asked, if that is there
abbrev pub tree_lines : Account → Option Question → Option (List Line)
tree_lines a asked = option_map (tree a) (roots a asked)

-- its text, or its objects; or the object of each part
abbrev pub explained : Account → Wanted → Option (List ℕ)
explained a (Wanted.Words asked) = option_map (tree_text a) (tree_lines a asked)
explained a (Wanted.Objects asked) = option_map (tree_json a) (tree_lines a asked)
explained a Wanted.Each = Some (each_json a (parts a))

-- The entries are legal, and this is told of the account of them.
pub record Explains (wanted : Wanted) (told : Option (List ℕ)) (plan : Plan) (entries : List Entry) : Type 0 where
  pub account : Account
  pub leads : account_of plan entries ≡ Some account
  pub tells : told ≡ explained account wanted

-- The text of a tree, or none where what is asked about is not there; or an error.
abbrev pub WhyAnswer : Type 0
WhyAnswer = Result (Option (List ℕ)) CommandError

-- An answer to what is asked of a text.
abbrev pub IsWhyAnswer : Wanted → List ℕ → WhyAnswer → Type 0
IsWhyAnswer wanted text (Ok told) = OfRecord text (Explains wanted told)
IsWhyAnswer wanted text (Err error) = UnlessMemory error (IsNotPlayed text error)

-- ---- what is left

-- Nothing stands on out, and on err that what is asked about is not there.
pub record TellsNoSuch (out out' err err' : Stream) (status : ℕ) : Type 0 where
  pub kept : IsKept out out'
  pub said : Says err err' (name_line (codes "why") (codes "NoSuch"))
  pub is : status ≡ 2

-- What is left of an answer.
abbrev pub TellsWhy : WhyAnswer → Stream → Stream → Stream → Stream → ℕ → Type 0
TellsWhy (Ok (Some text)) out out' err err' status = TellsBy 0 (Ok text) out out' err err' status
TellsWhy (Ok None) out out' err err' status = TellsNoSuch out out' err err' status
TellsWhy (Err error) out out' err err' status = TellsBy 0 (Err error) out out' err err' status

-- An answer to what was read; where only a part was read there is none but the error.
abbrev pub AnswersAsked : Wanted → Result (List ℕ) SourceFault → WhyAnswer → Type 0
AnswersAsked wanted (Ok text) answer = IsWhyAnswer wanted text answer
AnswersAsked wanted (Err SourceFault.Failed) answer = answer ≡ Err Io
AnswersAsked wanted (Err SourceFault.Memory) answer = answer ≡ Err Memory

-- What `why` leaves: it reads a text to its end, and tells an answer to what is asked of it; want of memory may always be
-- answered.
pub record WhyTells (wanted : Wanted) (input input' out out' err err' : Stream) (status : ℕ) : Type 0 where
  pub read : Result (List ℕ) SourceFault
  pub reads : IsRead input input' read
  pub answer : WhyAnswer
  pub answers : AnswersAsked wanted read answer
  pub told : TellsWhy answer out out' err err' status

-- ---- what the code answers on the way; want of memory may always be answered

-- a text that may be none
abbrev pub Told : Type 0
Told = Option (Vec ℕ Global)

-- the bytes of it
abbrev pub bytes_of : Told → Option (List ℕ)
bytes_of told = option_map (λ text. text.items) told

-- what is told of an account, unless there was no memory
abbrev pub GivesTree : Account → Wanted → Result Told CommandError → Type 0
GivesTree a wanted (Ok told) = bytes_of told ≡ explained a wanted
GivesTree a wanted (Err error) = error ≡ Memory

-- what is told of entries, or that the table refuses one of them
abbrev pub GivesWhy : Wanted → Plan → List Entry → Result Told CommandError → Type 0
GivesWhy wanted plan entries (Ok told) = Explains wanted (bytes_of told) plan entries
GivesWhy wanted plan entries (Err error) = IsStopped plan entries error

-- what is told of it, seen as an answer
abbrev pub answer_of : Result Told CommandError → WhyAnswer
answer_of (Ok told) = Ok (bytes_of told)
answer_of (Err error) = Err error
