-- What is shown of the lines of a log, told and written piece by piece.
use Rattle.std.proofs.Common.{◌≡◌, ℕ, ◌==◌, Bool, true, false, not, ◌&&◌, IsTrue, if◌then◌else◌, string_bytes, Option, Some, None, Ok, Err, inl, inr, List, [], ◌∷◌, ◌++◌, codes, flat_map, length, refl, sym, ap, subst, ◌∙◌, append_assoc, append-nil, arith}
use Rattle.std.proofs.lemmas.Bool.Decides.{nat_tests}
use Rattle.std.proofs.lemmas.List.Concat.{flat_map-append}
use Rattle.std.proofs.lemmas.Str.{IsUtf8-append, IsUtf8-from_is_utf8, is_utf8-from_IsUtf8}
use Rattle.std.specs.Prelude.{IsErr}
use Rattle.std.specs.Str.{IsUtf8, is_utf8}
use Rattle.std.specs.declared.alloc.AllocError.{AllocError}
use Rattle.status_table.specs.Words.{is_line, lines_of, newline, onto_first}
use Rattle.command_io.proofs.Known.{Appends-nothing, cut_within, puts_more, written_more}
use Rattle.command_io.proofs.Told.{IsKept-same, Puts-as}
use Rattle.command_io.specs.Stream.{Stream, IsCutOff, IsWritten, Puts, TakesLine, TakesLines}
use Rattle.flow_model.proofs.LineLemmas.{lines_of-line}
use Rattle.flow_model.proofs.Tests.{pair}
use Rattle.flow_commands.specs.CommandTexts.{commands, read_from}
use Rattle.flow_commands.specs.Logs.{IsPlain, Told, bytes_told, leg_masks, line_text, lines_text, lines_told, logs_text, mask_for, no_text, of_leg, told_with}
use Rattle.flow_commands.specs.Mask.{masked}
use Rattle.flow_commands.specs.Shown.{masks_added, shown}
use Rattle.flow_commands.specs.declared.line.Line.{Line}
use Rattle.flow_commands.specs.declared.logs.LogTeller.{LogTeller}
use Rattle.command_run.proofs.Telling.{begun_after, part_after}
use Rattle.command_run.specs.StepLogs.{AreAdded, BeginsWith, EndsAs, FileGives, FileIs, GetsLine, HandsOn, PutsLines, PutsLog, PutsNext, PutsText, ShowsLog, Written, behind, files_of}
use Rattle.command_run.specs.declared.log_files.LogKind.{LogKind}
use Rattle.command_run.specs.declared.log_files.LogKind.TheVariants.{NoText, Text}

-- ---- whole lines

-- what follows some bytes begins a line
abbrev pub AreWhole : List ℕ → Type 0
AreWhole bytes = (more : List ℕ) → lines_of (bytes ++ more) ≡ lines_of bytes ++ lines_of more

-- the lines of a text with a newline in it, whatever follows
cut_lines : (line : List ℕ) → (l : List ℕ) × (ls : List (List ℕ)) × ((more : List ℕ) → lines_of (line ++ newline ∷ more) ≡ l ∷ (ls ++ lines_of more))
cut_lines [] = ([], [], λ more. refl)
cut_lines (b ∷ line) =
    let (l, ls, is) = cut_lines line in
    case_of l ls is (b == newline)
  where
    case_of : (l : List ℕ) (ls : List (List ℕ)) → ((more : List ℕ) → lines_of (line ++ newline ∷ more) ≡ l ∷ (ls ++ lines_of more)) → (c : Bool)
        → (l' : List ℕ) × (ls' : List (List ℕ)) × ((more : List ℕ)
        → (if c then [] ∷ lines_of (line ++ newline ∷ more) else onto_first b (lines_of (line ++ newline ∷ more))) ≡ l' ∷ (ls' ++ lines_of more))
    case_of l ls is true = ([], l ∷ ls, λ more. ap (λ (xs : List (List ℕ)). [] ∷ xs) (is more))
    case_of l ls is false = (b ∷ l, ls, λ more. ap (onto_first b) (is more))

whole_line : (line : List ℕ) → AreWhole (line ++ newline ∷ [])
whole_line line more =
    let (l, ls, is) = cut_lines line in
    ap lines_of (append_assoc line (newline ∷ []) more) ∙ is more
    ∙ ap (λ (xs : List (List ℕ)). l ∷ (xs ++ lines_of more)) (sym (append-nil ls))
    ∙ ap (λ (xs : List (List ℕ)). xs ++ lines_of more) (sym (is []))

whole_more : (a b : List ℕ) → AreWhole a → AreWhole b → AreWhole (a ++ b)
whole_more a b first next more =
    ap lines_of (append_assoc a b more) ∙ first (b ++ more)
    ∙ ap (λ (xs : List (List ℕ)). lines_of a ++ xs) (next more)
    ∙ sym (append_assoc (lines_of a) (lines_of b) (lines_of more))
    ∙ ap (λ (xs : List (List ℕ)). xs ++ lines_of more) (sym (first b))

-- ---- lines that are read

-- a line of a text has no newline
first_line : (text line : List ℕ) (lines : List (List ℕ)) → lines_of text ≡ line ∷ lines → IsTrue (is_line line)
first_line [] line lines is = absurd (cc)
first_line (b ∷ text) line lines is = by_test (b == newline) refl (first_line text) is
  where
    onto : (b == newline) ≡ false → ((l : List ℕ) (ls : List (List ℕ)) → lines_of text ≡ l ∷ ls → IsTrue (is_line l)) → (ls : List (List ℕ)) → lines_of text ≡ ls
        → onto_first b ls ≡ line ∷ lines → IsTrue (is_line line)
    onto other rest [] of front =
        let is : b ∷ [] ≡ line = cc in
        subst (λ (l : List ℕ). IsTrue (is_line l)) is (ap (λ (c : Bool). not c && true) other)
    onto other rest (l ∷ ls) of front =
        let is : b ∷ l ≡ line = cc in
        subst (λ (x : List ℕ). IsTrue (is_line x)) is (pair (not (b == newline)) (is_line l) (ap not other) (rest l ls of))

    by_test : (c : Bool) → (b == newline) ≡ c → ((l : List ℕ) (ls : List (List ℕ)) → lines_of text ≡ l ∷ ls → IsTrue (is_line l))
        → (if c then [] ∷ lines_of text else onto_first b (lines_of text)) ≡ line ∷ lines → IsTrue (is_line line)
    by_test true of rest front =
        let is : [] ≡ line = cc in
        subst (λ (l : List ℕ). IsTrue (is_line l)) is refl
    by_test false of rest front = onto of rest (lines_of text) refl front

take_none : (known : Option (List ℕ)) → TakesLines known known []
take_none None = tt
take_none (Some held) = refl

-- one more is taken, with its newline
take_more : (known left rest : Option (List ℕ)) (text line : List ℕ) → AreWhole text → TakesLines known left (lines_of text) → TakesLine left rest line
    → TakesLines known rest (lines_of (text ++ (line ++ newline ∷ [])))
take_more None left rest text line whole before one = tt
take_more (Some held) None rest text line whole before one = absurd before
take_more (Some held) (Some more) None text line whole before one = absurd one
take_more (Some held) (Some more) (Some less) text line whole before one =
    before ∙ ap (λ (ls : List (List ℕ)). lines_of text ++ ls) one
    ∙ sym (append_assoc (lines_of text) (line ∷ []) (lines_of less))
    ∙ ap (λ (ls : List (List ℕ)). (lines_of text ++ ls) ++ lines_of less) (sym (lines_of-line line [] (first_line more line (lines_of less) one)))
    ∙ ap (λ (ls : List (List ℕ)). ls ++ lines_of less) (sym (whole (line ++ newline ∷ [])))

-- Whole lines of a log were read.
pub record ReadSoFar (first now : Stream) : Type 0 where
  pub text : List ℕ
  pub whole : AreWhole text
  pub begins : BeginsWith first text now

pub none_read : (log : Stream) → ReadSoFar log log
none_read log = record {
  text = [];
  whole = λ more. refl;
  begins = record { utf8 = ([], (refl, refl)); taken = take_none log.bytes; sound = refl };
}

pub read_more : (first now next : Stream) (piece : List ℕ) → ReadSoFar first now → GetsLine now next piece → IsUtf8 piece → ReadSoFar first next
read_more first now next piece read gets utf8 = record {
  text = read.text ++ piece;
  whole = whole_more read.text piece read.whole (subst AreWhole (sym gets.is) (whole_line gets.line));
  begins = record {
    utf8 = IsUtf8-append read.text piece read.begins.utf8 utf8;
    taken = subst (λ (p : List ℕ). TakesLines first.bytes next.bytes (lines_of (read.text ++ p))) (sym gets.is)
        (take_more first.bytes now.bytes next.bytes read.text gets.line read.whole read.begins.taken gets.read.0);
    sound = gets.read.1 ∙ read.begins.sound;
  };
}

-- a line that is no text ends what is read
pub ends_no_text : (log after : Stream) (text : List ℕ) → GetsLine log after text → (IsUtf8 text → ⊥) → EndsAs log NoText
ends_no_text log after text gets unread = (gets.line, after, gets.read, λ utf8. unread (subst IsUtf8 (sym gets.is) utf8))

-- ---- the next lines

abbrev told_by : List (List ℕ) → List ℕ → List (List ℕ) → Option (List ℕ) → List (List ℕ) → List ℕ × List (List ℕ)
told_by given text masks stop lines =
    (text ++ lines_text (shown (given ++ masks) (read_from stop lines)), masks ++ flat_map masks_added (read_from stop lines))

-- what is shown was written, or is still gathered, before what follows
hands_told : (given : List (List ℕ)) (log log' : LogTeller) (b c : Stream) (hands : HandsOn log log' b c true) (lines : List (List ℕ))
    → told_with given log lines ≡ behind hands.0 (told_with given log' lines)
hands_told given log log' b c (part, put, text, masks, stop) lines =
    ap (λ (t : List ℕ). told_by given t log.masks log.stop lines) text
    ∙ ap (λ (ms : List (List ℕ)). told_by given (part ++ string_bytes log'.shown) ms log.stop lines) (sym masks)
    ∙ ap (λ (s : Option (List ℕ)). told_by given (part ++ string_bytes log'.shown) log'.masks s lines) (sym stop)
    ∙ ap (λ (t : List ℕ). (t, log'.masks ++ flat_map masks_added (read_from log'.stop lines)))
    (append_assoc part (string_bytes log'.shown) (lines_text (shown (given ++ log'.masks) (read_from log'.stop lines))))

-- lines that were told, of which what is shown was handed on
pub next_handed : (given : List (List ℕ)) (log log' log'' : LogTeller) (next : List (List ℕ)) (b c : Stream) (going : Bool)
    → ((lines : List (List ℕ)) → told_with given log (next ++ lines) ≡ told_with given log' lines) → HandsOn log' log'' b c going
    → PutsNext given log log'' next b c (Ok going)
next_handed given log log' log'' next b c true more hands = (hands.0, hands.1, λ lines. more lines ∙ hands_told given log' log'' b c hands lines)
next_handed given log log' log'' next b c false more cut =
    let all : (told_with given log next).0 ≡ string_bytes log'.shown =
    ap (λ (ls : List (List ℕ)). (told_with given log ls).0) (sym (append-nil next)) ∙ ap (λ (t : List ℕ × List (List ℕ)). t.0) (more []) ∙ append-nil (string_bytes log'.shown) in
    subst (IsCutOff b c) (sym all) cut

-- there was no memory for them
pub next_stopped : (given : List (List ℕ)) (log log' : LogTeller) (next : List (List ℕ)) (b : Stream) (how : Written) → IsErr how → PutsNext given log log' next b b how
next_stopped given log log' next b (Err e) failed =
    let all = (told_with given log next).0 in begun_after b b b [] all all (Appends-nothing b.bytes, refl) (IsKept-same b) refl
next_stopped given log log' next b (Ok whole) failed = let no : false ≡ true = failed in absurd (cc)

-- ---- a line that is no command

-- Some of the line was shown, and a beginning of what is shown was written.
pub record ShownLine (given : List (List ℕ)) (first log : LogTeller) (line rest : List ℕ) (out out' : Stream) : Type 0 where
  pub part : List ℕ
  pub written : IsWritten out out' part
  pub is : string_bytes first.shown ++ masked (given ++ first.masks) line ≡ part ++ (string_bytes log.shown ++ masked (given ++ first.masks) rest)
  pub masks : log.masks ≡ first.masks
  pub stop : log.stop ≡ first.stop

pub line_begins : (given : List (List ℕ)) (log : LogTeller) (line : List ℕ) (out : Stream) → ShownLine given log log line line out out
line_begins given log line out = record { part = []; written = (Appends-nothing out.bytes, refl); is = refl; masks = refl; stop = refl }

-- more of it was shown
pub line_more : (given : List (List ℕ)) (first log log' : LogTeller) (line rest rest' : List ℕ) (a b : Stream) → ShownLine given first log line rest a b
    → string_bytes log'.shown ++ masked (given ++ log.masks) rest' ≡ string_bytes log.shown ++ masked (given ++ log.masks) rest
    → log'.masks ≡ log.masks → log'.stop ≡ log.stop → ShownLine given first log' line rest' a b
line_more given first log log' line rest rest' a b told more masks stop = record {
  part = told.part;
  written = told.written;
  is = told.is ∙ ap (λ (t : List ℕ). told.part ++ t)
      (sym (subst (λ (ms : List (List ℕ)).
      string_bytes log'.shown ++ masked (given ++ ms) rest' ≡ string_bytes log.shown ++ masked (given ++ ms) rest) told.masks more));
  masks = masks ∙ told.masks;
  stop = stop ∙ told.stop;
}

-- what is shown was written, or is still gathered
pub line_handed : (given : List (List ℕ)) (first log log' : LogTeller) (line rest : List ℕ) (a b c : Stream) → ShownLine given first log line rest a b
    → HandsOn log log' b c true → ShownLine given first log' line rest a c
line_handed given first log log' line rest a b c told (part, put, text, masks, stop) = record {
  part = told.part ++ part;
  written = written_more a b c told.part part told.written put;
  is = told.is ∙ ap (λ (t : List ℕ). told.part ++ (t ++ masked (given ++ first.masks) rest)) text
      ∙ ap (λ (t : List ℕ). told.part ++ t) (append_assoc part (string_bytes log'.shown) (masked (given ++ first.masks) rest))
      ∙ sym (append_assoc told.part part (string_bytes log'.shown ++ masked (given ++ first.masks) rest));
  masks = masks ∙ told.masks;
  stop = stop ∙ told.stop;
}

-- what is told of lines that begin with it
line_told : (given : List (List ℕ)) (first log : LogTeller) (line rest : List ℕ) (a b : Stream) → (told : ShownLine given first log line rest a b) → IsPlain line
    → (lines : List (List ℕ)) → told_with given first (line ∷ lines) ≡ (
      told.part ++ (string_bytes log.shown
          ++ (masked (given ++ first.masks) rest ++ (codes "\n" ++ lines_text (shown (given ++ first.masks) (read_from first.stop lines))))),
      first.masks ++ flat_map masks_added (read_from first.stop lines),
    )
line_told given first log line rest a b told plain lines =
    let reads = read_from first.stop lines in
    let adds = first.masks ++ flat_map masks_added reads in
    let by = masked (given ++ first.masks) in
    let others = lines_text (shown (given ++ first.masks) reads) in
    let start = string_bytes first.shown in
    ap (λ (ls : List Line). (start ++ lines_text (shown (given ++ first.masks) ls), first.masks ++ flat_map masks_added ls)) (plain first.stop lines)
    ∙ ap (λ (ms : List (List ℕ)). (start ++ ((by line ++ codes "\n") ++ lines_text (shown ms reads)), adds)) (append-nil (given ++ first.masks))
    ∙ ap (λ (t : List ℕ). (t, adds))
    (ap (λ (t : List ℕ). start ++ t) (append_assoc (by line) (codes "\n") others)
    ∙ sym (append_assoc start (by line) (codes "\n" ++ others))
    ∙ ap (λ (t : List ℕ). t ++ (codes "\n" ++ others)) told.is
    ∙ append_assoc told.part (string_bytes log.shown ++ by rest) (codes "\n" ++ others)
    ∙ ap (λ (t : List ℕ). told.part ++ t) (append_assoc (string_bytes log.shown) (by rest) (codes "\n" ++ others)))

nothing_left : (rest : List ℕ) → (length rest == 0) ≡ true → rest ≡ []
nothing_left [] none = refl
nothing_left (b ∷ rest) none = absurd (grind (arith, nat_tests))

-- all of it was shown, and its newline
pub line_put : (given : List (List ℕ)) (first log log' : LogTeller) (line rest : List ℕ) (a b : Stream) → ShownLine given first log line rest a b → IsPlain line
    → (length rest == 0) ≡ true → string_bytes log'.shown ≡ string_bytes log.shown ++ codes "\n" → log'.masks ≡ log.masks → log'.stop ≡ log.stop
    → PutsNext given first log' (line ∷ []) a b (Ok true)
line_put given first log log' line rest a b told plain none ends masks stop = (
  told.part,
  told.written,
  λ lines.
      let adds = first.masks ++ flat_map masks_added (read_from first.stop lines) in
      let others = lines_text (shown (given ++ first.masks) (read_from first.stop lines)) in
      line_told given first log line rest a b told plain lines
      ∙ ap (λ (r : List ℕ). (told.part ++ (string_bytes log.shown ++ (masked (given ++ first.masks) r ++ (codes "\n" ++ others))), adds)) (nothing_left rest none)
      ∙ ap (λ (t : List ℕ). (told.part ++ t, adds))
      (sym (append_assoc (string_bytes log.shown) (codes "\n") others) ∙ ap (λ (t : List ℕ). t ++ others) (sym ends))
      ∙ ap (λ (ms : List (List ℕ)). behind told.part (told_by given (string_bytes log'.shown) ms first.stop lines)) (sym (masks ∙ told.masks))
      ∙ ap (λ (s : Option (List ℕ)). behind told.part (told_by given (string_bytes log'.shown) log'.masks s lines)) (sym (stop ∙ told.stop)),
)

-- what is shown of it was cut off
pub line_cut : (given : List (List ℕ)) (first log log' : LogTeller) (line rest : List ℕ) (a b c : Stream) → ShownLine given first log line rest a b → IsPlain line
    → IsCutOff b c (string_bytes log.shown) → PutsNext given first log' (line ∷ []) a c (Ok false)
line_cut given first log log' line rest a b c told plain cut =
    cut_within a b c told.part (string_bytes log.shown) _ _ told.written (ap (λ (t : List ℕ × List (List ℕ)). t.0) (line_told given first log line rest a b told plain [])) cut

-- there was no memory for more of it
pub line_stopped : (given : List (List ℕ)) (first log log' : LogTeller) (line rest : List ℕ) (a b : Stream) (how : Written) → ShownLine given first log line rest a b
    → IsPlain line → IsErr how → PutsNext given first log' (line ∷ []) a b how
line_stopped given first log log' line rest a b (Err e) told plain failed =
    begun_after a b b told.part _ _ told.written (IsKept-same b) (ap (λ (t : List ℕ × List (List ℕ)). t.0) (line_told given first log line rest a b told plain []))
line_stopped given first log log' line rest a b (Ok whole) told plain failed = let no : false ≡ true = failed in absurd (cc)

-- ---- lines that are told and written

-- Whole lines of a log were told, and of what is shown of them a beginning was written.
pub record ToldLines (given : List (List ℕ)) (first log : LogTeller) (from to out out' : Stream) : Type 0 where
  pub read : ReadSoFar from to
  pub text : List ℕ
  pub written : IsWritten out out' text
  pub is : (lines : List (List ℕ)) → told_with given first (lines_of read.text ++ lines) ≡ behind text (told_with given log lines)

pub no_lines : (given : List (List ℕ)) (log : LogTeller) (from out : Stream) → ToldLines given log log from from out out
unfolding none_read
no_lines given log from out = record {
  read = none_read from;
  text = [];
  written = (Appends-nothing out.bytes, refl);
  is = λ lines. refl;
}

-- lines more were told
pub lines_more : (given : List (List ℕ)) (first log log' : LogTeller) (from to to' a b c : Stream) (piece : List ℕ) → ToldLines given first log from to a b
    → GetsLine to to' piece → IsUtf8 piece → PutsNext given log log' (lines_of piece) b c (Ok true) → ToldLines given first log' from to' a c
unfolding read_more
lines_more given first log log' from to to' a b c piece told gets utf8 (part, put, is) = record {
  read = read_more from to to' piece told.read gets utf8;
  text = told.text ++ part;
  written = written_more a b c told.text part told.written put;
  is = λ lines. ap (λ (xs : List (List ℕ)). told_with given first (xs ++ lines)) (told.read.whole piece)
      ∙ ap (told_with given first) (append_assoc (lines_of told.read.text) (lines_of piece) lines)
      ∙ told.is (lines_of piece ++ lines) ∙ ap (behind told.text) (is lines)
      ∙ ap (λ (t : List ℕ). (t, (told_with given log' lines).1)) (sym (append_assoc told.text part (told_with given log' lines).0));
}

-- all that is shown of the lines that were told, and the masks that they add
all_told : (given : List (List ℕ)) (first log : LogTeller) (from to a b : Stream) → (told : ToldLines given first log from to a b) → string_bytes first.shown ≡ [] → first.stop ≡ None
    → told_by given [] first.masks None (lines_of told.read.text) ≡ (told.text ++ string_bytes log.shown, log.masks)
all_told given first log from to a b told fresh going =
    ap (λ (ls : List (List ℕ)). told_by given [] first.masks None ls) (sym (append-nil (lines_of told.read.text)))
    ∙ ap (λ (t : List ℕ). told_by given t first.masks None (lines_of told.read.text ++ [])) (sym fresh)
    ∙ ap (λ (s : Option (List ℕ)). told_by given (string_bytes first.shown) first.masks s (lines_of told.read.text ++ [])) (sym going)
    ∙ told.is []
    ∙ ap (λ (ms : List (List ℕ)). (told.text ++ (string_bytes log.shown ++ []), ms)) (append-nil log.masks)
    ∙ ap (λ (t : List ℕ). (told.text ++ t, log.masks)) (append-nil (string_bytes log.shown))

-- the rest of what is shown was written, or a beginning of it
pub lines_put : (given : List (List ℕ)) (first log log' : LogTeller) (from to a b c : Stream) (whole : Bool) → ToldLines given first log from to a b
    → string_bytes first.shown ≡ [] → first.stop ≡ None → (kind : LogKind) → EndsAs to kind → Puts b c (string_bytes log.shown) whole → log'.masks ≡ log.masks
    → PutsLines from given first.masks log'.masks a c (Ok whole)
lines_put given first log log' from to a b c whole told fresh going kind ends put kept =
    let all = all_told given first log from to a b told fresh going in
    record {
      text = told.read.text;
      left = to;
      begins = told.read.begins;
      ends = λ _. (kind, ends);
      adds = λ _. kept ∙ sym (ap (λ (t : List ℕ × List (List ℕ)). t.1) all);
      puts = Puts-as a c (told.text ++ string_bytes log.shown) _ whole (puts_more a b c told.text (string_bytes log.shown) whole told.written put)
          (sym (ap (λ (t : List ℕ × List (List ℕ)). t.0) all));
    }

-- all that is told of the lines before and of the next ones
next_told : (given : List (List ℕ)) (first log : LogTeller) (from to a b : Stream) (piece : List ℕ) → (told : ToldLines given first log from to a b)
    → string_bytes first.shown ≡ [] → first.stop ≡ None
    → told_by given [] first.masks None (lines_of (told.read.text ++ piece)) ≡ behind told.text (told_with given log (lines_of piece))
next_told given first log from to a b piece told fresh going =
    ap (λ (t : List ℕ). told_by given t first.masks None (lines_of (told.read.text ++ piece))) (sym fresh)
    ∙ ap (λ (s : Option (List ℕ)). told_by given (string_bytes first.shown) first.masks s (lines_of (told.read.text ++ piece))) (sym going)
    ∙ ap (told_with given first) (told.read.whole piece) ∙ told.is (lines_of piece)

-- what is shown of the next ones was cut off
pub next_cut : (given : List (List ℕ)) (first log log' : LogTeller) (from to to' a b c : Stream) (piece : List ℕ) → ToldLines given first log from to a b
    → string_bytes first.shown ≡ [] → first.stop ≡ None → GetsLine to to' piece → IsUtf8 piece → PutsNext given log log' (lines_of piece) b c (Ok false)
    → PutsLines from given first.masks log'.masks a c (Ok false)
unfolding read_more
next_cut given first log log' from to to' a b c piece told fresh going gets utf8 cut = record {
  text = told.read.text ++ piece;
  left = to';
  begins = (read_more from to to' piece told.read gets utf8).begins;
  ends = λ no. absurd (cc);
  adds = λ no. absurd (cc);
  puts = Puts-as a c (told.text ++ (told_with given log (lines_of piece)).0) _ false
      (puts_more a b c told.text (told_with given log (lines_of piece)).0 false told.written cut)
      (sym (ap (λ (t : List ℕ × List (List ℕ)). t.0) (next_told given first log from to a b piece told fresh going)));
}

-- there was no memory for more of it
pub next_begun : (given : List (List ℕ)) (first log log' : LogTeller) (from to to' a b c : Stream) (piece : List ℕ) (how answer : Written) (e : AllocError)
    → ToldLines given first log from to a b → string_bytes first.shown ≡ [] → first.stop ≡ None → GetsLine to to' piece → IsUtf8 piece
    → PutsNext given log log' (lines_of piece) b c how → how ≡ Err e → IsErr answer → PutsLines from given first.masks log'.masks a c answer
unfolding read_more
next_begun given first log log' from to to' a b c piece how (Err e') e told fresh going gets utf8 put is failed =
    let begun = subst (PutsNext given log log' (lines_of piece) b c) is put in
    let next = (told_with given log (lines_of piece)).0 in
    record {
      text = told.read.text ++ piece;
      left = to';
      begins = (read_more from to to' piece told.read gets utf8).begins;
      ends = λ no. absurd (cc);
      adds = λ no. absurd (cc);
      puts = part_after a b c told.text next [] _ told.written begun
          (ap (λ (t : List ℕ × List (List ℕ)). t.0) (next_told given first log from to a b piece told fresh going) ∙ ap (λ (t : List ℕ). told.text ++ t) (sym (append-nil next)));
    }
next_begun given first log log' from to to' a b c piece how (Ok whole) e told fresh going gets utf8 put is failed = let no : false ≡ true = failed in absurd (cc)

-- there was no memory for more
lines_begun : (given : List (List ℕ)) (first log log' : LogTeller) (from to a b : Stream) (e : AllocError) → ToldLines given first log from to a b
    → string_bytes first.shown ≡ [] → first.stop ≡ None → PutsLines from given first.masks log'.masks a b (Err e)
lines_begun given first log log' from to a b e told fresh going = record {
  text = told.read.text;
  left = to;
  begins = told.read.begins;
  ends = λ no. absurd (cc);
  adds = λ no. absurd (cc);
  puts = begun_after a b b told.text (string_bytes log.shown) _ told.written (IsKept-same b)
      (ap (λ (t : List ℕ × List (List ℕ)). t.0) (all_told given first log from to a b told fresh going));
}

-- the same of what is answered
pub lines_stopped : (given : List (List ℕ)) (first log log' : LogTeller) (from to a b : Stream) (how : Written) → ToldLines given first log from to a b
    → string_bytes first.shown ≡ [] → first.stop ≡ None → IsErr how → PutsLines from given first.masks log'.masks a b how
lines_stopped given first log log' from to a b (Err e) told fresh going failed = lines_begun given first log log' from to a b e told fresh going
lines_stopped given first log log' from to a b (Ok whole) told fresh going failed = let no : false ≡ true = failed in absurd (cc)

-- ---- one log

-- a log that is not read
unread_log : (gives : Option (List ℕ) → Type 0) (given : List (List ℕ)) (leg : ℕ) (added : List (ℕ × List ℕ)) → gives None → ShowsLog gives given leg added added []
unread_log gives given leg added none =
    record { bytes = None; of = none; is = λ logs. ap (λ (a : List (ℕ × List ℕ)). logs_text given a logs) (append-nil added) }

-- a log that is no text
no_text_log : (gives : Option (List ℕ) → Type 0) (given : List (List ℕ)) (leg : ℕ) (added : List (ℕ × List ℕ)) (bytes : List ℕ) → gives (Some bytes) → (IsUtf8 bytes → ⊥)
    → ShowsLog gives given leg added added (line_text no_text)
no_text_log gives given leg added bytes of unread = record {
  bytes = Some bytes;
  of = of;
  is = λ logs. ap (λ (t : Told). lines_text t.0 ++ logs_text given (added ++ of_leg leg t.1) logs) (told (is_utf8 bytes) refl)
      ∙ ap (λ (a : List (ℕ × List ℕ)). line_text no_text ++ logs_text given a logs) (append-nil added);
}
  where
    told : (b : Bool) → is_utf8 bytes ≡ b
        → (if b then lines_told (leg_masks given added leg) (commands bytes) else (no_text ∷ [], [])) ≡ (no_text ∷ [], [])
    told true h = absurd (unread (IsUtf8-from_is_utf8 bytes h))
    told false h = refl

utf8_told : (masks : List (List ℕ)) (bytes : List ℕ) → IsUtf8 bytes → bytes_told masks bytes ≡ lines_told masks (commands bytes)
utf8_told masks bytes utf8 = by_test (is_utf8 bytes) (is_utf8-from_IsUtf8 bytes utf8)
  where
    by_test : (b : Bool) → b ≡ true → (if b then lines_told masks (commands bytes) else (no_text ∷ [], [])) ≡ lines_told masks (commands bytes)
    by_test true h = refl
    by_test false h = absurd (cc)

-- a log that is text
text_log : (gives : Option (List ℕ) → Type 0) (given : List (List ℕ)) (leg : ℕ) (by : ℕ → List (List ℕ)) (added : List (ℕ × List ℕ)) (bytes : List ℕ) → gives (Some bytes)
    → AreAdded by added → IsUtf8 bytes
    → ShowsLog gives given leg added (added ++ of_leg leg (flat_map masks_added (commands bytes))) (lines_text (shown (given ++ by leg) (commands bytes)))
text_log gives given leg by added bytes of kept utf8 = record {
  bytes = Some bytes;
  of = of;
  is = λ logs. ap (λ (t : Told). lines_text t.0 ++ logs_text given (added ++ of_leg leg t.1) logs) (utf8_told (leg_masks given added leg) bytes utf8)
      ∙ ap (λ (ms : List (List ℕ)). lines_text (shown (given ++ ms) (commands bytes)) ++ logs_text given (added ++ of_leg leg (flat_map masks_added (commands bytes))) logs)
      (sym (kept leg));
}

-- the masks that a leg adds are its own
for_leg : (l leg : ℕ) (c : Bool) → (l == leg) ≡ c → (more : List (List ℕ)) → flat_map (mask_for l) (of_leg leg more) ≡ (if c then more else [])
for_leg l leg true is [] = refl
for_leg l leg true is (m ∷ more) =
    ap (λ (c : Bool). (if c then m ∷ [] else []) ++ flat_map (mask_for l) (of_leg leg more)) is ∙ ap (λ (ms : List (List ℕ)). m ∷ ms) (for_leg l leg true is more)
for_leg l leg false is [] = refl
for_leg l leg false is (m ∷ more) =
    ap (λ (c : Bool). (if c then m ∷ [] else []) ++ flat_map (mask_for l) (of_leg leg more)) is ∙ for_leg l leg false is more

pub added_more : (by rest by' : ℕ → List (List ℕ)) (leg : ℕ) (added : List (ℕ × List ℕ)) (masks more : List (List ℕ)) → AreAdded by added
    → ((l : ℕ) → rest l ≡ (if l == leg then [] else by l)) → ((l : ℕ) → by' l ≡ (if l == leg then masks else rest l)) → masks ≡ by leg ++ more
    → AreAdded by' (added ++ of_leg leg more)
added_more by rest by' leg added masks more kept taken keeps are l = by_test (l == leg) refl
  where
    by_test : (c : Bool) → (l == leg) ≡ c → by' l ≡ flat_map (mask_for l) (added ++ of_leg leg more)
    by_test true is =
        let same : l ≡ leg = grind (arith, nat_tests, is) in
        keeps l ∙ ap (λ (c : Bool). if c then masks else rest l) is ∙ are ∙ ap (λ (n : ℕ). by n ++ more) (sym same)
        ∙ ap (λ (ms : List (List ℕ)). ms ++ more) (kept l)
        ∙ ap (λ (ms : List (List ℕ)). flat_map (mask_for l) added ++ ms) (sym (for_leg l leg true is more))
        ∙ sym (flat_map-append (mask_for l) added (of_leg leg more))
    by_test false is =
        keeps l ∙ ap (λ (c : Bool). if c then masks else rest l) is ∙ taken l ∙ ap (λ (c : Bool). if c then [] else by l) is ∙ kept l
        ∙ sym (append-nil (flat_map (mask_for l) added))
        ∙ ap (λ (ms : List (List ℕ)). flat_map (mask_for l) added ++ ms) (sym (for_leg l leg false is more))
        ∙ sym (flat_map-append (mask_for l) added (of_leg leg more))

-- ---- what was put of one log

-- what is known of a log
abbrev Log_gives : Type 1
Log_gives = Bool → Option (List ℕ) → Type 0

pub nothing_put : (gives : Log_gives) (given : List (List ℕ)) (leg : ℕ) (by : ℕ → List (List ℕ)) (a : Stream) → gives true None → PutsLog gives given leg by by a a (Ok true)
nothing_put gives given leg by a none added kept = (added, kept, [], unread_log (gives true) given leg added none, (Appends-nothing a.bytes, refl))

nothing_begun : (gives : Log_gives) (given : List (List ℕ)) (leg : ℕ) (by by' : ℕ → List (List ℕ)) (a : Stream) (e : AllocError) → gives false None
    → PutsLog gives given leg by by' a a (Err e)
nothing_begun gives given leg by by' a e none added kept =
    (added, [], unread_log (gives false) given leg added none, begun_after a a a [] [] [] (Appends-nothing a.bytes, refl) (IsKept-same a) refl)

-- the same of what is answered
pub nothing_stopped : (gives : Log_gives) (given : List (List ℕ)) (leg : ℕ) (by by' : ℕ → List (List ℕ)) (a : Stream) (how : Written) → gives false None → IsErr how
    → PutsLog gives given leg by by' a a how
nothing_stopped gives given leg by by' a (Err e) none failed = nothing_begun gives given leg by by' a e none
nothing_stopped gives given leg by by' a (Ok whole) none failed = let no : false ≡ true = failed in absurd (cc)

no_text_put : (gives : Log_gives) (given : List (List ℕ)) (leg : ℕ) (by : ℕ → List (List ℕ)) (a b : Stream) (whole : Bool) (bytes : List ℕ)
    → gives true (Some bytes) → gives false (Some bytes) → (IsUtf8 bytes → ⊥) → Puts a b (line_text no_text) whole → PutsLog gives given leg by by a b (Ok whole)
no_text_put gives given leg by a b true bytes of part unread put = λ added kept. (added, kept, line_text no_text, no_text_log (gives true) given leg added bytes of unread, put)
no_text_put gives given leg by a b false bytes of part unread put = λ added kept. (added, line_text no_text, no_text_log (gives false) given leg added bytes part unread, put)

-- a file in which a line is no text
pub file_no_text : {L : Type 0} (logs : Option L → List ℕ → Type 0) (seen : L → Stream) (name : List ℕ) (given : List (List ℕ)) (leg : ℕ) (by : ℕ → List (List ℕ))
    (a b : Stream) (whole : Bool) → FileIs logs seen name NoText → Puts a b (line_text no_text) whole
    → PutsLog (files_of logs seen name) given leg by by a b (Ok whole)
file_no_text {L} logs seen name given leg by a b whole (text, is) put =
    let (line, after, read, unread) = is.ends in
    let gives : FileGives logs seen name (Some (line ++ newline ∷ [])) = inl (text, is, unread) in
    no_text_put (files_of logs seen name) given leg by a b whole (line ++ newline ∷ []) gives (inl gives) unread put

-- what is known of the text that was read of a log
pub file_part : {L : Type 0} (logs : Option L → List ℕ → Type 0) (seen : L → Stream) (name : List ℕ) (log : L) (given masks masks' : List (List ℕ)) (a b : Stream)
    (how : Written) → logs (Some log) name → (put : PutsLines (seen log) given masks masks' a b how) → files_of logs seen name false (Some put.text)
file_part logs seen name log given masks masks' a b how opened put = inr (log, opened, put.left, put.begins)

pub file_whole : {L : Type 0} (logs : Option L → List ℕ → Type 0) (seen : L → Stream) (name : List ℕ) (log : L) (given masks masks' : List (List ℕ)) (a b : Stream)
    (how : Written) → logs (Some log) name → FileIs logs seen name Text → how ≡ Ok true → (put : PutsLines (seen log) given masks masks' a b how)
    → files_of logs seen name true (Some put.text)
file_whole logs seen name log given masks masks' a b how opened (text, is) whole put =
    let (kind, ends) = put.ends whole in
    inr (text, is, kind, record { log = log; opened = opened; left = put.left; begins = put.begins; ends = ends })

-- what is shown by the masks that the leg has
text_of : (gives : Option (List ℕ) → Type 0) (lines : Stream) (given masks masks' : List (List ℕ)) (leg : ℕ) (by : ℕ → List (List ℕ)) (added : List (ℕ × List ℕ)) (a b : Stream)
    (how : Written) → AreAdded by added → masks ≡ by leg → (put : PutsLines lines given masks masks' a b how) → gives (Some put.text)
    → ShowsLog gives given leg added (added ++ of_leg leg (flat_map masks_added (commands put.text))) (lines_text (shown (given ++ masks) (commands put.text)))
text_of gives lines given masks masks' leg by added a b how kept are put of =
    subst (λ (ms : List (List ℕ)).
    ShowsLog gives given leg added (added ++ of_leg leg (flat_map masks_added (commands put.text))) (lines_text (shown (given ++ ms) (commands put.text))))
    (sym are) (text_log gives given leg by added put.text of kept put.begins.utf8)

pub text_cut : (gives : Log_gives) (lines : Stream) (given masks masks' : List (List ℕ)) (leg : ℕ) (by by' : ℕ → List (List ℕ)) (a b : Stream) (how : Written) → masks ≡ by leg
    → (put : PutsLines lines given masks masks' a b how) → gives false (Some put.text) → how ≡ Ok false → PutsLog gives given leg by by' a b (Ok false)
text_cut gives lines given masks masks' leg by by' a b how are put of is added kept = (
  _,
  _,
  text_of (gives false) lines given masks masks' leg by added a b how kept are put of,
  subst (PutsText a b (lines_text (shown (given ++ masks) (commands put.text)))) is put.puts,
)

-- it was written whole, and its masks are kept, or there was no memory for them
pub text_put : (gives : Log_gives) (lines : Stream) (given masks masks' : List (List ℕ)) (leg : ℕ) (by rest by' : ℕ → List (List ℕ)) (a b : Stream) (how : Written) → masks ≡ by leg
    → ((l : ℕ) → rest l ≡ (if l == leg then [] else by l)) → ((l : ℕ) → by' l ≡ (if l == leg then masks' else rest l))
    → (put : PutsLines lines given masks masks' a b how) → gives true (Some put.text) → how ≡ Ok true → PutsLog gives given leg by by' a b (Ok true)
text_put gives lines given masks masks' leg by rest by' a b how are taken keeps put of is added kept = (
  _,
  added_more by rest by' leg added masks' (flat_map masks_added (commands put.text)) kept taken keeps
      (put.adds is ∙ ap (λ (ms : List (List ℕ)). ms ++ flat_map masks_added (commands put.text)) are),
  _,
  text_of (gives true) lines given masks masks' leg by added a b how kept are put of,
  subst (PutsText a b (lines_text (shown (given ++ masks) (commands put.text)))) is put.puts,
)

-- what is begun of it, where there was no memory for the rest, or for its masks
text_begun : (gives : Log_gives) (lines : Stream) (given masks masks' : List (List ℕ)) (leg : ℕ) (by by' : ℕ → List (List ℕ)) (a b : Stream) (how : Written) (e : AllocError)
    → masks ≡ by leg → (put : PutsLines lines given masks masks' a b how) → gives false (Some put.text)
    → PutsText a b (lines_text (shown (given ++ masks) (commands put.text))) (Err e) → PutsLog gives given leg by by' a b (Err e)
text_begun gives lines given masks masks' leg by by' a b how e are put of begun added kept =
    (_, _, text_of (gives false) lines given masks masks' leg by added a b how kept are put of, begun)

-- the same of what is answered
pub text_stopped : (gives : Log_gives) (lines : Stream) (given masks masks' : List (List ℕ)) (leg : ℕ) (by by' : ℕ → List (List ℕ)) (a b : Stream) (how answer : Written)
    (e : AllocError) → masks ≡ by leg → (put : PutsLines lines given masks masks' a b how) → gives false (Some put.text) → how ≡ Err e → IsErr answer
    → PutsLog gives given leg by by' a b answer
text_stopped gives lines given masks masks' leg by by' a b how (Err e') e are put of is failed =
    text_begun gives lines given masks masks' leg by by' a b how e' are put of
    (subst (PutsText a b (lines_text (shown (given ++ masks) (commands put.text)))) (is ∙ ap Err (one e e')) put.puts)
  where
    one : (x y : AllocError) → x ≡ y
    one x y = refl
text_stopped gives lines given masks masks' leg by by' a b how (Ok whole) e are put of is failed = let no : false ≡ true = failed in absurd (cc)

pub text_kept_not : (gives : Log_gives) (lines : Stream) (given masks masks' : List (List ℕ)) (leg : ℕ) (by by' : ℕ → List (List ℕ)) (a b : Stream) (how answer : Written)
    → masks ≡ by leg → (put : PutsLines lines given masks masks' a b how) → gives false (Some put.text) → how ≡ Ok true → IsErr answer
    → PutsLog gives given leg by by' a b answer
text_kept_not gives lines given masks masks' leg by by' a b how (Err e) are put of is failed =
    let text = lines_text (shown (given ++ masks) (commands put.text)) in
    text_begun gives lines given masks masks' leg by by' a b how e are put of
    (begun_after a b b text [] text (subst (PutsText a b text) is put.puts) (IsKept-same b) (sym (append-nil text)))
text_kept_not gives lines given masks masks' leg by by' a b how (Ok whole) are put of is failed = let no : false ≡ true = failed in absurd (cc)
