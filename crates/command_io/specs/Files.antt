-- Files as the words name them: what their sources show, and what is read of them.
use Rattle.std.specs.Prelude.{◌≡◌, ℕ, false, ◌⊎◌, codes, List, [], ◌∷◌, ◌++◌, Some, Result, Ok, Err}
use Rattle.command_io.specs.Stream.{Stream, IsRead}
use Rattle.command_io.specs.declared.files.NamedSource.{NamedSource}
use Rattle.command_io.specs.declared.files.OptionalFile.{OptionalFile}
use Rattle.command_io.specs.declared.files.OptionalFile.TheVariants.{Named, Absent}
use Rattle.command_io.specs.declared.stream.SourceFault.{SourceFault}

-- A file's name, and what its source shows.
pub record File : Type 0 where
  pub name : List ℕ
  pub source : Stream

-- What a source that is named shows, with its name.
abbrev pub file_seen : {S : Type 0} → (S → Stream) → NamedSource S → File
file_seen seen file = record { name = file.name; source = seen file.source }

-- A file's name, and its bytes.
pub record Content : Type 0 where
  pub name : List ℕ
  pub bytes : List ℕ

-- What is read where no file is named: an empty JSON object, and of it as of a file.
abbrev pub no_file : List ℕ
no_file = codes "{}"

abbrev pub no_contexts : Content
no_contexts = record { name = []; bytes = no_file }

-- What a file shows that words may name.
abbrev pub optional_seen : {S : Type 0} → (S → Stream) → OptionalFile S → Stream
optional_seen seen (Named file) = seen file
optional_seen seen Absent = record { bytes = Some no_file; failed = false }

-- How often its reader was asked for bytes: where none is named there is none to ask.
abbrev pub optional_reads : {S : Type 0} → (S → ℕ) → OptionalFile S → ℕ
optional_reads reads (Named file) = reads file
optional_reads reads Absent = 0

-- A file was read to its end.
pub record IsContent (old new : File) (content : Content) : Type 0 where
  pub named : content.name ≡ old.name
  pub same : new.name ≡ old.name
  pub read : IsRead old.source new.source (Ok content.bytes)

-- Each of the files was read to its end.
abbrev pub AreContents : List File → List File → List Content → Type 0
AreContents [] [] [] = Unit {0}
AreContents [] [] (content ∷ contents) = ⊥
AreContents [] (new ∷ news) contents = ⊥
AreContents (old ∷ olds) [] contents = ⊥
AreContents (old ∷ olds) (new ∷ news) [] = ⊥
AreContents (old ∷ olds) (new ∷ news) (content ∷ contents) = IsContent old new content × AreContents olds news contents

-- One of the files was not read to its end, for that fault, and those before it were.
abbrev pub IsCutShort : List File → List File → SourceFault → Type 0
IsCutShort [] news fault = ⊥
IsCutShort (old ∷ olds) [] fault = ⊥
IsCutShort (old ∷ olds) (new ∷ news) fault =
    IsRead old.source new.source (Err fault) ⊎ ((content : Content) × IsContent old new content × IsCutShort olds news fault)

-- What reading files one after the other comes to.
abbrev pub AreRead : List File → List File → Result (List Content) SourceFault → Type 0
AreRead olds news (Ok contents) = AreContents olds news contents
AreRead olds news (Err fault) = IsCutShort olds news fault

-- ---- what the code answers

-- A file is read to its end.
abbrev pub ReadsFile : File → File → Result Content SourceFault → Type 0
ReadsFile old new (Ok content) = IsContent old new content
ReadsFile old new (Err fault) = IsRead old.source new.source (Err fault)

-- A file is read to its end, and what it holds is added to others.
abbrev pub AddsFile : File → File → List Content → List Content → Result (Unit {0}) SourceFault → Type 0
AddsFile old new contents contents' (Ok done) = (content : Content) × IsContent old new content × (contents' ≡ contents ++ content ∷ [])
AddsFile old new contents contents' (Err fault) = IsRead old.source new.source (Err fault)

-- A file is read to its end, and then others.
abbrev pub ReadsFirst : File → File → List File → List File → Result (Content × List Content) SourceFault → Type 0
ReadsFirst old new olds news (Ok read) = IsContent old new read.0 × AreContents olds news read.1
ReadsFirst old new olds news (Err fault) = IsCutShort (old ∷ olds) (new ∷ news) fault
