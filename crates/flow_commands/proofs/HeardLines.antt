-- The lines that a step printed, and what they are read as.
use Rattle.std.proofs.Common.{◌≡◌, ◌⊎◌, inl, inr, ℕ, zero, suc, ◌<◌, ◌≤◌, Bool, true, false, cond, Option, Some, None, List, [], ◌∷◌, ◌++◌, map, length, codes, refl, sym, ap, subst, ◌∙◌, arith, length-append}
use Rattle.std.proofs.lemmas.Slice.Eq.{bytes_eq-Decides}
use Rattle.std.specs.Str.{bytes_eq}
use Rattle.flow_model.specs.Lines.{lines_of}
use Rattle.flow_commands.specs.CommandTexts.{command_of, is_resuming, read_as, some_word, stopped_by, read_from}
use Rattle.flow_commands.specs.Laws.{IsCommand, IsNoCommand, Stops, Resumes, NoneResumes, AreRead, no_lines, plain_line, command_line, stopped_lines, stopped_to_end, OneCommand, OneHearing}
use Rattle.flow_commands.specs.declared.line.Line.{Line}
use Rattle.flow_commands.specs.declared.line.Line.TheVariants.{Plain, Command, Resume}
use Rattle.flow_commands.proofs.CommandForms.{Pairs, form_read, IsForm, read_form, resumes, resumed}

-- ---- one line

no_form : (line : List ℕ) → IsNoCommand line → command_of line ≡ None
no_form line none = by_form (command_of line) (read_form line)
  where
    by_form : (o : Option Line) → IsForm line o → o ≡ None
    by_form None is = refl
    by_form (Some (Plain text)) is = absurd is
    by_form (Some (Command name pairs message)) is = absurd (none name pairs message is)
    by_form (Some Resume) is = absurd is

-- a line is read as a command exactly where it is one
pub one_command : OneCommand
one_command line name pairs message =
    (λ is. subst (IsForm line) is (read_form line), form_read line name pairs message)

stop_word : (name : List ℕ) (pairs : Pairs) (message : List ℕ) → Stops name message → stopped_by (Command name pairs message) ≡ Some message
stop_word name pairs message h =
    ap (λ (t : Bool). cond t (some_word message) None) ((bytes_eq-Decides name (codes "stop-commands")).1 h.0) ∙ some message h.1
  where
    some : (word : List ℕ) → 0 < length word → some_word word ≡ Some word
    some [] h = absurd (omega arith)
    some (b ∷ word) h = refl

no_stop : (name : List ℕ) (pairs : Pairs) (message : List ℕ) → (Stops name message → ⊥) → stopped_by (Command name pairs message) ≡ None
no_stop name pairs message h = by_test (bytes_eq name (codes "stop-commands")) refl
  where
    none : name ≡ codes "stop-commands" → (word : List ℕ) → message ≡ word → some_word word ≡ None
    none same [] is = refl
    none same (b ∷ word) is = let size : length message ≡ length (b ∷ word) = ap length is in absurd (h (same, omega (arith, size)))

    by_test : (t : Bool) → bytes_eq name (codes "stop-commands") ≡ t → cond t (some_word message) None ≡ None
    by_test true is = none ((bytes_eq-Decides name (codes "stop-commands")).0 is) message refl
    by_test false is = refl

stops_or_not : (name message : List ℕ) → Stops name message ⊎ (Stops name message → ⊥)
stops_or_not name message = by_test (bytes_eq name (codes "stop-commands")) refl message refl
  where
    by_test : (t : Bool) → bytes_eq name (codes "stop-commands") ≡ t → (word : List ℕ) → message ≡ word → Stops name message ⊎ (Stops name message → ⊥)
    by_test false is word same = inr (λ stops. let there = (bytes_eq-Decides name (codes "stop-commands")).1 stops.0 in cc)
    by_test true is [] same = let size : length message ≡ 0 = ap length same in inr (λ stops. let some = stops.1 in omega (arith, size, some))
    by_test true is (b ∷ word) same =
        let size : length message ≡ length (b ∷ word) = ap length same in
        inl ((bytes_eq-Decides name (codes "stop-commands")).0 is, omega (arith, size))

-- ---- lines that are stopped

not_resuming : (word line : List ℕ) → (Resumes word line → ⊥) → is_resuming word line ≡ false
not_resuming word line h = by_test (is_resuming word line) refl
  where
    by_test : (t : Bool) → is_resuming word line ≡ t → t ≡ false
    by_test true is = absurd (h (resumed word line is))
    by_test false is = refl

-- as they are read
abbrev from_stopped : List ℕ → List ℕ → List (List ℕ) → Bool → List Line
from_stopped word line lines t = cond t (Resume ∷ read_from None lines) (Plain line ∷ read_from (Some word) lines)

stopped_read : (word : List ℕ) (inner : List (List ℕ)) (resuming : List ℕ) (lines : List (List ℕ)) → NoneResumes word inner → Resumes word resuming
    → read_from (Some word) (inner ++ resuming ∷ lines) ≡ map (λ text. Plain text) inner ++ Resume ∷ read_from None lines
stopped_read word [] resuming lines none h = ap (from_stopped word resuming lines) (resumes word resuming h)
stopped_read word (line ∷ inner) resuming lines none h =
    ap (from_stopped word line (inner ++ resuming ∷ lines)) (not_resuming word line none.0)
    ∙ ap (λ (r : List Line). Plain line ∷ r) (stopped_read word inner resuming lines none.1 h)

ended_read : (word : List ℕ) (inner : List (List ℕ)) → NoneResumes word inner → read_from (Some word) inner ≡ map (λ text. Plain text) inner
ended_read word [] none = refl
ended_read word (line ∷ inner) none =
    ap (from_stopped word line inner) (not_resuming word line none.0) ∙ ap (λ (r : List Line). Plain line ∷ r) (ended_read word inner none.1)

-- the first line that resumes, if one does
abbrev Resumed : List ℕ → List (List ℕ) → Type 0
Resumed word lines =
    (inner : List (List ℕ)) × (resuming : List ℕ) × (rest : List (List ℕ)) × NoneResumes word inner × Resumes word resuming
    × (lines ≡ inner ++ resuming ∷ rest)

search_end : (word : List ℕ) (lines : List (List ℕ)) → Resumed word lines ⊎ NoneResumes word lines
search_end word [] = inr tt
search_end word (line ∷ lines) = by_test (is_resuming word line) refl (search_end word lines)
  where
    by_test : (t : Bool) → is_resuming word line ≡ t → Resumed word lines ⊎ NoneResumes word lines → Resumed word (line ∷ lines) ⊎ NoneResumes word (line ∷ lines)
    by_test true is more = inl ([], line, lines, tt, resumed word line is, refl)
    by_test false is (inl found) =
        inl (line ∷ found.0, found.1, found.2, ((λ h. let there = resumes word line h in cc), found.3), found.4, ap (λ (ls : List (List ℕ)). line ∷ ls) found.5)
    by_test false is (inr none) = inr ((λ h. let there = resumes word line h in cc), none)

-- ---- all lines

-- a line as it is read, and those after it
abbrev from_line : List ℕ → List (List ℕ) → Option Line → List Line
from_line line lines o = read_as line o ∷ read_from (stopped_by (read_as line o)) lines

heard : {lines : List (List ℕ)} {read : List Line} → AreRead lines read → read_from None lines ≡ read
heard no_lines = refl
heard (plain_line {line} {lines} none more) =
    ap (from_line line lines) (no_form line none) ∙ ap (λ (r : List Line). Plain line ∷ r) (heard more)
heard (command_line {line} {name} {message} {pairs} {lines} is goes_on more) =
    ap (from_line line lines) (form_read line name pairs message is)
    ∙ ap (λ (o : Option (List ℕ)). Command name pairs message ∷ read_from o lines) (no_stop name pairs message goes_on)
    ∙ ap (λ (r : List Line). Command name pairs message ∷ r) (heard more)
heard (stopped_lines inner {line} {name} {word} {resuming} {pairs} {lines} is stops none ends more) =
    ap (from_line line (inner ++ resuming ∷ lines)) (form_read line name pairs word is)
    ∙ ap (λ (o : Option (List ℕ)). Command name pairs word ∷ read_from o (inner ++ resuming ∷ lines)) (stop_word name pairs word stops)
    ∙ ap (λ (r : List Line). Command name pairs word ∷ r) (stopped_read word inner resuming lines none ends)
    ∙ ap (λ (r : List Line). Command name pairs word ∷ (map (λ text. Plain text) inner ++ Resume ∷ r)) (heard more)
heard (stopped_to_end inner {line} {name} {word} {pairs} is stops none) =
    ap (from_line line inner) (form_read line name pairs word is)
    ∙ ap (λ (o : Option (List ℕ)). Command name pairs word ∷ read_from o inner) (stop_word name pairs word stops)
    ∙ ap (λ (r : List Line). Command name pairs word ∷ r) (ended_read word inner none)

hears_to : (n : ℕ) (lines : List (List ℕ)) → length lines ≤ n → AreRead lines (read_from None lines)
hears_to n [] h = no_lines
hears_to zero (line ∷ lines) h = absurd (omega arith)
hears_to (suc n) (line ∷ lines) h = by_form (command_of line) refl (read_form line) (hears_to n)
  where
    stopped : (name : List ℕ) (pairs : Pairs) (word : List ℕ) → IsCommand line name pairs word → Stops name word
        → ((ls : List (List ℕ)) → length ls ≤ n → AreRead ls (read_from None ls)) → Resumed word lines ⊎ NoneResumes word lines
        → AreRead (line ∷ lines) (Command name pairs word ∷ read_from (Some word) lines)
    stopped name pairs word is stops more (inl found) =
        let size : length lines ≡ length (found.0 ++ found.1 ∷ found.2) = ap length found.5 in
        subst (λ (ls : List (List ℕ)). AreRead (line ∷ ls) (Command name pairs word ∷ read_from (Some word) ls)) (sym found.5)
        (subst (λ (r : List Line). AreRead (line ∷ (found.0 ++ found.1 ∷ found.2)) (Command name pairs word ∷ r))
        (sym (stopped_read word found.0 found.1 found.2 found.3 found.4))
        (stopped_lines found.0 is stops found.3 found.4 (more found.2 (omega (arith, h, size, length-append found.0 (found.1 ∷ found.2))))))
    stopped name pairs word is stops more (inr none) =
        subst (λ (r : List Line). AreRead (line ∷ lines) (Command name pairs word ∷ r)) (sym (ended_read word lines none)) (stopped_to_end lines is stops none)

    by_stop : (name : List ℕ) (pairs : Pairs) (message : List ℕ) → IsCommand line name pairs message
        → ((ls : List (List ℕ)) → length ls ≤ n → AreRead ls (read_from None ls)) → Stops name message ⊎ (Stops name message → ⊥)
        → AreRead (line ∷ lines) (from_line line lines (Some (Command name pairs message)))
    by_stop name pairs message is more (inl stops) =
        subst (λ (o : Option (List ℕ)). AreRead (line ∷ lines) (Command name pairs message ∷ read_from o lines)) (sym (stop_word name pairs message stops))
        (stopped name pairs message is stops more (search_end message lines))
    by_stop name pairs message is more (inr goes_on) =
        subst (λ (o : Option (List ℕ)). AreRead (line ∷ lines) (Command name pairs message ∷ read_from o lines)) (sym (no_stop name pairs message goes_on))
        (command_line is goes_on (more lines (omega (arith, h))))

    by_form : (o : Option Line) → command_of line ≡ o → IsForm line o → ((ls : List (List ℕ)) → length ls ≤ n → AreRead ls (read_from None ls))
        → AreRead (line ∷ lines) (from_line line lines o)
    by_form None is form more =
        plain_line (λ name pairs message there. let found = form_read line name pairs message there in cc) (more lines (omega (arith, h)))
    by_form (Some (Plain text)) is form more = absurd form
    by_form (Some (Command name pairs message)) is form more = by_stop name pairs message form more (stops_or_not name message)
    by_form (Some Resume) is form more = absurd form

pub one_hearing : OneHearing
one_hearing text read =
    (λ same. subst (AreRead (lines_of text)) same (hears_to (length (lines_of text)) (lines_of text) (omega arith)), heard)
