-- What `actrun lint` tells of workflows' files: of each why it alone comes to no plan, where it comes to none, and what else
-- there is to be known of it.
use Rattle.std.specs.Prelude.{◌≡◌, ℕ, ◌++◌, codes, if◌then◌else◌, Bool, true, false, List, [], ◌∷◌, flat_map, String, Option, Some, None, Result, Ok, Err}
use Rattle.std.specs.List.{list_any}
use Rattle.std.specs.declared.alloc.Global.{Global}
use Rattle.status_table.specs.Words.{Plan}
use Rattle.flow_lint.specs.Hints.{AreHints}
use Rattle.flow_lint.specs.Notes.{IsFlowPlace, IsPlanNote}
use Rattle.flow_lint.specs.declared.note.Note.{Note}
use Rattle.flow_reader.specs.Fault.{flow_fault_name}
use Rattle.plan_assembler.specs.Faults.{plan_fault_text}
use Rattle.plan_assembler.specs.declared.choice.Choice.TheVariants.{All}
use Rattle.plan_text.specs.BoardText.{Adds}
use Rattle.command_io.specs.Files.{File, Content, AreRead, no_contexts}
use Rattle.command_io.specs.Stream.{Stream}
use Rattle.command_io.specs.Tell.{Answer, AnswersRead, Printed, TellsBy}
use Rattle.command_io.specs.declared.stream.SourceFault.{SourceFault}
use Rattle.command_io.specs.declared.error.CommandError.{CommandError}
use Rattle.command_io.specs.declared.error.CommandError.TheVariants.{NoExpression, NoValue, NoContexts, NoFlow, NotPlanned, NoPlan, NoEntry, Refused, Words, Io, Memory}
use Rattle.command_print.specs.Planning.{ComesTo, ComesToNone}
use Rattle.command_io.specs.Pictures.{HasPlainLines, line_of}

-- ---- lines

-- A place as it is shown: the whole file is a dot.
abbrev pub shown_path : List ℕ → List ℕ
shown_path [] = codes "."
shown_path (c ∷ path) = c ∷ path

-- What is told of something that is to be known of a place of a file.
abbrev pub note_words : List ℕ → Note → List ℕ
note_words file note = file ++ (codes ": " ++ (shown_path note.path ++ (codes ": " ++ note.sentence)))

abbrev pub note_line : List ℕ → Note → List ℕ
note_line file note = line_of (note_words file note)

-- What is told of that for which a file comes to no plan: `refused` and the fault's name stand before what is said.
abbrev pub refusing_words : List ℕ → List ℕ → Note → List ℕ
refusing_words file fault note =
    file ++ (codes ": " ++ (shown_path note.path ++ (codes ": refused, " ++ (fault ++ (codes ": " ++ note.sentence)))))

abbrev pub refusing_line : List ℕ → List ℕ → Note → List ℕ
refusing_line file fault note = line_of (refusing_words file fault note)

-- The name of that, as the other commands print it.
abbrev pub fault_text : CommandError → List ℕ
fault_text (NoFlow file fault) = flow_fault_name fault
fault_text (NotPlanned fault) = plan_fault_text fault
fault_text (NoExpression fault) = []
fault_text (NoValue fault) = []
fault_text (NoContexts file fault) = []
fault_text (NoPlan fault) = []
fault_text (NoEntry n) = []
fault_text (Refused n fault) = []
fault_text Words = []
fault_text Io = []
fault_text Memory = []

-- What is to be known of it in the file is told, at its place.
abbrev pub IsNoteOf : Content → CommandError → Note → Type 0
IsNoteOf file (NoFlow name fault) note = IsFlowPlace file.bytes fault note.path
IsNoteOf file (NotPlanned fault) note = IsPlanNote file.name file.bytes fault note
IsNoteOf file (NoExpression fault) note = ⊥
IsNoteOf file (NoValue fault) note = ⊥
IsNoteOf file (NoContexts name fault) note = ⊥
IsNoteOf file (NoPlan fault) note = ⊥
IsNoteOf file (NoEntry n) note = ⊥
IsNoteOf file (Refused n fault) note = ⊥
IsNoteOf file Words note = ⊥
IsNoteOf file Io note = ⊥
IsNoteOf file Memory note = ⊥

-- ---- what is told of a file

-- What refuses nothing, line by line: hints, each at a place of the file where it is so.
abbrev pub hint_lines : List ℕ → List Note → List ℕ
hint_lines file notes = flat_map (note_line file) notes

-- The file alone comes to a plan, and no line says that it is refused.
pub record IsPassed (file : Content) (text : List ℕ) : Type 0 where
  pub plan : Plan
  pub comes : ComesTo All no_contexts (file ∷ []) plan
  pub hints : List Note
  pub are : AreHints file.bytes [] hints
  pub is : text ≡ hint_lines file.name hints

-- The file alone comes to none, and the first line says why, at its place.
pub record IsRefused (file : Content) (text : List ℕ) : Type 0 where
  pub error : CommandError
  pub comes_to_none : ComesToNone All no_contexts (file ∷ []) error
  pub note : Note
  pub is_note : IsNoteOf file error note
  pub hints : List Note
  pub are : AreHints file.bytes note.path hints
  pub is : text ≡ refusing_line file.name (fault_text error) note ++ hint_lines file.name hints

-- Whether a file is refused, and the lines that are told of it.
abbrev pub Told : Type 0
Told = Bool × List ℕ

abbrev pub IsTold : Content → Told → Type 0
IsTold file (false, text) = IsPassed file text
IsTold file (true, text) = IsRefused file text

-- What is told of each of the files.
abbrev pub AreTold : List Content → List Told → Type 0
AreTold [] [] = Unit {0}
AreTold [] (told ∷ tolds) = ⊥
AreTold (file ∷ files) [] = ⊥
AreTold (file ∷ files) (told ∷ tolds) = IsTold file told × AreTold files tolds

-- ---- the command

abbrev pub lint_text : List Told → List ℕ
lint_text tolds = flat_map (λ told. told.1) tolds

-- 2 where one of the files is refused, and else 0.
abbrev pub lint_status : List Told → ℕ
lint_status tolds = if list_any (λ told. told.0) tolds then 2 else 0

-- An answer to the files, with its exit status: what is told of each, in lines without a control character.
pub record IsLint (files : List Content) (text : List ℕ) (status : ℕ) : Type 0 where
  pub tolds : List Told
  pub told : AreTold files tolds
  pub is_text : text ≡ lint_text tolds
  pub lines : HasPlainLines text
  pub is_status : status ≡ lint_status tolds

-- No error is an answer: only want of memory keeps the command from it.
abbrev pub IsLintAnswer : ℕ → List Content → Answer → Type 0
IsLintAnswer status files (Ok text) = IsLint files text status
IsLintAnswer status files (Err error) = ⊥

-- What `lint` leaves: it reads the files to their ends, and tells an answer to them; want of memory may always be answered.
pub record LintTells (files files' : List File) (out out' err err' : Stream) (status : ℕ) : Type 0 where
  pub done : ℕ
  pub read : Result (List Content) SourceFault
  pub reads : AreRead files files' read
  pub answer : Answer
  pub answers : AnswersRead (IsLintAnswer done) read answer
  pub told : TellsBy done answer out out' err err' status

-- ---- what the code answers on the way

-- Whether a file comes to a plan, or the error for which it comes to none.
abbrev pub Judges : Content → Result (Option CommandError) CommandError → Type 0
Judges file (Ok None) = (plan : Plan) × ComesTo All no_contexts (file ∷ []) plan
Judges file (Ok (Some error)) = ComesToNone All no_contexts (file ∷ []) error
Judges file (Err error) = error ≡ Memory

-- Hints of a file are added to a text.
abbrev pub AddsHints : Content → List ℕ → String Global → String Global → Type 0
AddsHints file told old new = (notes : List Note) × (AreHints file.bytes told notes × Adds old new (hint_lines file.name notes))

-- The lines of a file that passes, and of one that is refused for this error.
abbrev pub Passes : Content → List ℕ → Type 0
Passes file text = (notes : List Note) × (AreHints file.bytes [] notes × (text ≡ hint_lines file.name notes))

abbrev pub Refuses : Content → CommandError → List ℕ → Type 0
Refuses file error text =
    (note : Note) × (IsNoteOf file error note
    × ((notes : List Note) × (AreHints file.bytes note.path notes
    × (text ≡ refusing_line file.name (fault_text error) note ++ hint_lines file.name notes))))

abbrev pub IsToldOf : Content → Option CommandError → Told → Type 0
IsToldOf file None (refused, text) = (refused ≡ false) × Passes file text
IsToldOf file (Some error) (refused, text) = (refused ≡ true) × Refuses file error text

-- What is found, or want of memory.
abbrev pub FindsTold : Content → Result Told CommandError → Type 0
FindsTold file (Ok told) = IsTold file told
FindsTold file (Err error) = error ≡ Memory

abbrev pub FindTold : List Content → Result (List Told) CommandError → Type 0
FindTold files (Ok tolds) = AreTold files tolds
FindTold files (Err error) = error ≡ Memory

abbrev pub GivesLint : List Content → Result Printed CommandError → Type 0
GivesLint files (Ok both) = IsLint files both.0.items both.1
GivesLint files (Err error) = error ≡ Memory
