-- Going over the files that are looked at, and telling what comes of them.
use Rattle.std.proofs.Common.{◌≡◌, ◌≤◌, ℕ, List, [], ◌∷◌, ◌++◌, length, drop, sym, subst, append-nil, true, false, Option, Some, None, Result, Ok, Err, refl}
use Rattle.std.proofs.lemmas.Bool.{true≢false}
use Rattle.std.proofs.lemmas.List.{drop_all}
use Rattle.command_io.proofs.Told.{IsKept-same}
use Rattle.command_io.specs.Files.{File, Content, AreRead}
use Rattle.command_io.specs.Stream.{Stream}
use Rattle.command_io.specs.Tell.{Answer, OrMemory, Printed, Says, TellsBy, printed_status, printed_text}
use Rattle.command_io.specs.CommandError.{line, source_error, error_status, UnlessMemory}
use Rattle.command_io.specs.declared.stream.SourceFault.{SourceFault}
use Rattle.command_io.specs.declared.error.CommandError.{CommandError}
use Rattle.command_io.proofs.Pictures.{no_lines, lines_of_one, lines_of_all, lines_of_both}
use Rattle.command_print.specs.Lint.{Told, IsTold, IsToldOf, IsPassed, IsRefused, AreTold, Judges, GivesLint, IsLintAnswer, LintTells, fault_text, hint_lines, lint_text, note_words, refusing_line, refusing_words}
use Rattle.command_io.specs.Pictures.{HasPlainLines}

-- what is told of a file by what it comes to is told of it
pub told_by_judged : (file : Content) (error : Option CommandError) (told : Told) → Judges file (Ok error) → IsToldOf file error told → IsTold file told
told_by_judged file None (false, text) judged h = record { plan = judged.0; comes = judged.1; hints = h.1.0; are = h.1.1.0; is = h.1.1.1 }
told_by_judged file None (true, text) judged h = absurd (true≢false h.0)
told_by_judged file (Some t) (false, text) judged h = absurd (true≢false (sym h.0))
told_by_judged file (Some t) (true, text) judged h =
    record {
      error = t;
      comes_to_none = judged;
      note = h.1.0;
      is_note = h.1.1.0;
      hints = h.1.1.1.0;
      are = h.1.1.1.1.0;
      is = h.1.1.1.1.1;
    }

-- This is told of the first i files: what is told of the others completes what is told of all.
pub record GoingFiles (files : List Content) (i : ℕ) (tolds : List Told) : Type 0 where
  pub made : (more : List Told) → AreTold (drop i files) more → AreTold files (tolds ++ more)

pub all_told : (files : List Content) (i : ℕ) (tolds : List Told) → length files ≤ i → GoingFiles files i tolds → AreTold files tolds
all_told files i tolds past g =
    subst (λ (l : List Told). AreTold files l) (append-nil tolds)
    (g.made [] (subst (λ (l : List Content). AreTold l []) (sym (drop_all i files past)) tt))

-- ---- lines

-- what is told of a file is told in lines
passed_lines : (file : Content) (text : List ℕ) → IsPassed file text → HasPlainLines text
passed_lines file text h = subst HasPlainLines (sym h.is) (lines_of_all (note_words file.name) h.hints)

refused_lines : (file : Content) (text : List ℕ) → IsRefused file text → HasPlainLines text
refused_lines file text h =
    subst HasPlainLines (sym h.is)
    (lines_of_both (refusing_line file.name (fault_text h.error) h.note) (hint_lines file.name h.hints)
    (lines_of_one (refusing_words file.name (fault_text h.error) h.note)) (lines_of_all (note_words file.name) h.hints))

told_in_lines : (file : Content) (told : Told) → IsTold file told → HasPlainLines told.1
told_in_lines file (false, text) is = passed_lines file text is
told_in_lines file (true, text) is = refused_lines file text is

all_in_lines : (files : List Content) (tolds : List Told) → AreTold files tolds → HasPlainLines (lint_text tolds)
all_in_lines [] [] are = no_lines
all_in_lines [] (told ∷ tolds) are = absurd are
all_in_lines (file ∷ files) [] are = absurd are
all_in_lines (file ∷ files) (told ∷ tolds) are =
    lines_of_both told.1 (lint_text tolds) (told_in_lines file told are.0) (all_in_lines files tolds are.1)

pub told_lines : (files : List Content) (tolds : List Told) (text : List ℕ) → AreTold files tolds → text ≡ lint_text tolds → HasPlainLines text
told_lines files tolds text are is = subst HasPlainLines (sym is) (all_in_lines files tolds are)

-- what the code answers is an answer
pub answered : (files : List Content) (result : Result Printed CommandError) → GivesLint files result
    → OrMemory (printed_text result) (IsLintAnswer (printed_status result) files (printed_text result))
answered files (Ok both) gives = gives
answered files (Err error) gives = subst (λ (t : CommandError). UnlessMemory t ⊥) (sym gives) tt

pub lint_told : (files files' : List File) (out out' err err' : Stream) (contents : List Content) (done : ℕ) (answer : Answer) (status : ℕ)
    → AreRead files files' (Ok contents) → OrMemory answer (IsLintAnswer done contents answer) → TellsBy done answer out out' err err' status
    → LintTells files files' out out' err err' status
lint_told files files' out out' err err' contents done answer status reads answers told =
    record { done = done; read = Ok contents; reads = reads; answer = answer; answers = answers; told = told }

-- what was not read is told as its error
pub unread_lint : (files files' : List File) (out err err' : Stream) (fault : SourceFault) (status : ℕ)
    → AreRead files files' (Err fault) → Says err err' (line (source_error fault)) → status ≡ error_status (source_error fault)
    → LintTells files files' out out err err' status
unread_lint files files' out err err' SourceFault.Failed status reads said is = record {
  done = 0;
  read = Err SourceFault.Failed;
  reads = reads;
  answer = Err (source_error SourceFault.Failed);
  answers = refl;
  told = record { kept = IsKept-same out; said = said; is = is };
}
unread_lint files files' out err err' SourceFault.Memory status reads said is = record {
  done = 0;
  read = Err SourceFault.Memory;
  reads = reads;
  answer = Err (source_error SourceFault.Memory);
  answers = refl;
  told = record { kept = IsKept-same out; said = said; is = is };
}
