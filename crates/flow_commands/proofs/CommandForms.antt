-- The command that a line is, by how it is spelled.
use Rattle.std.proofs.Common.{◌≡◌, ℕ, zero, suc, ◌+◌, ◌<◌, ◌≤◌, Bool, true, false, cond, ◌&&◌, nat_eq, nat_le, Option, Some, None, List, [], ◌∷◌, ◌++◌, length, drop, codes, refl, sym, ap, subst, ◌∙◌, arith, one-add}
use Rattle.std.proofs.lemmas.Bool.Decides.{nat_tests}
use Rattle.std.proofs.lemmas.Slice.Eq.{bytes_eq-Decides}
use Rattle.std.specs.List.{starts_with, prefix_len, list_all}
use Rattle.expr_reader.specs.Fold.{fold}
use Rattle.flow_model.proofs.Tests.{both}
use Rattle.flow_commands.specs.CommandTexts.{decoded, after_colons, is_command, keyed, pair_of, then_pairs, all_pairs, named, headed, closed, opened, command_of, is_resuming}
use Rattle.flow_commands.specs.Laws.{IsCutFirst, IsField, HasFields, one_field, first_field, HasHead, bare, with_fields, IsCommand, Resumes}
use Rattle.flow_commands.specs.Splits.{split_first, after_front, is_blank, from_text, fields_of}
use Rattle.flow_commands.specs.declared.escapes.Escapes.TheVariants.{Message, Value}
use Rattle.flow_commands.specs.declared.line.Line.{Line}
use Rattle.flow_commands.specs.declared.line.Line.TheVariants.{Plain, Command, Resume}
use Rattle.flow_commands.proofs.FirstPlaces.{begins, split_cuts, unsplit_lacks, lacks_unsplit, cut_splits}
use Rattle.flow_commands.proofs.Heads.{at_least}
use Rattle.flow_commands.proofs.Splitting.{fields_of-split, fields_of-one, split_first-shorter}
use Rattle.flow_commands.proofs.Standing.{front_parts}

-- ---- spaces and tabs before a text

-- what stands before the text is spaces and tabs
pub indented : (line : List ℕ) → (blanks : List ℕ) × (list_all is_blank blanks ≡ true) × (line ≡ blanks ++ from_text line)
indented [] = ([], refl, refl)
indented (b ∷ line) = by_test (is_blank b) refl (indented line)
  where
    by_test : (t : Bool) → is_blank b ≡ t → (blanks : List ℕ) × (list_all is_blank blanks ≡ true) × (line ≡ blanks ++ from_text line)
        → (blanks : List ℕ) × (list_all is_blank blanks ≡ true) × (b ∷ line ≡ blanks ++ drop (cond t (1 + prefix_len is_blank line) 0) (b ∷ line))
    by_test true is more =
        let past : drop (1 + prefix_len is_blank line) (b ∷ line) ≡ from_text line = ap (λ (n : ℕ). drop n (b ∷ line)) (one-add (prefix_len is_blank line)) in (
          b ∷ more.0,
          ap (λ (t : Bool). t && list_all is_blank more.0) is ∙ more.1,
          ap (λ (t : List ℕ). b ∷ t) more.2 ∙ ap (λ (t : List ℕ). b ∷ (more.0 ++ t)) (sym past),
        )
    by_test false is more = ([], refl, refl)

-- where the text begins that follows spaces and tabs
pub text_from : (blanks text : List ℕ) (c : ℕ) → list_all is_blank blanks ≡ true → is_blank c ≡ false → from_text (blanks ++ c ∷ text) ≡ c ∷ text
text_from [] text c blank other = ap (λ (t : Bool). drop (cond t (1 + prefix_len is_blank text) 0) (c ∷ text)) other
text_from (b ∷ blanks) text c blank other =
    let parts = both (is_blank b) (list_all is_blank blanks) blank in
    ap (λ (t : Bool). drop (cond t (1 + prefix_len is_blank (blanks ++ c ∷ text)) 0) (b ∷ (blanks ++ c ∷ text))) parts.0
    ∙ ap (λ (n : ℕ). drop n (b ∷ (blanks ++ c ∷ text))) (one-add (prefix_len is_blank (blanks ++ c ∷ text)))
    ∙ text_from blanks text c parts.1 other

-- what follows `::`
colons_before : (line blanks text : List ℕ) → list_all is_blank blanks ≡ true → line ≡ blanks ++ (codes "::" ++ text) → after_colons line ≡ Some text
colons_before line blanks text blank h =
    let from : from_text line ≡ codes "::" ++ text = ap from_text h ∙ text_from blanks (58 ∷ text) 58 blank refl in
    ap (after_front (codes "::")) from
    ∙ ap (λ (t : Bool). cond t (Some (drop 2 (58 ∷ 58 ∷ text))) None) (begins (58 ∷ 58 ∷ text) (codes "::") text refl)

colons_after : (line text : List ℕ) → after_colons line ≡ Some text → from_text line ≡ codes "::" ++ text
colons_after line text h = by_test (starts_with nat_eq (from_text line) (codes "::")) refl h
  where
    by_test : (t : Bool) → starts_with nat_eq (from_text line) (codes "::") ≡ t → cond t (Some (drop 2 (from_text line))) None ≡ Some text
        → from_text line ≡ codes "::" ++ text
    by_test true is k =
        let rest : drop 2 (from_text line) ≡ text = cc in
        front_parts (from_text line) (codes "::") is ∙ ap (λ (t : List ℕ). codes "::" ++ t) rest
    by_test false is k = cc

-- ---- fields

-- a field is read as its pair
field_pair : (field key value : List ℕ) → IsField field key value → pair_of field ≡ Some (fold key, decoded Value value)
field_pair field key value h =
    ap keyed (cut_splits (codes "=") field key value (omega arith) h.cut)
    ∙ ap (λ (t : Bool). cond t (Some (fold key, decoded Value value)) None) (at_least (length key) h.some)

-- what is read as a pair is a field
abbrev Keyed : List ℕ → List ℕ × List ℕ → Type 0
Keyed field pair = (key : List ℕ) × (value : List ℕ) × IsField field key value × ((fold key, decoded Value value) ≡ pair)

pair_field : (field : List ℕ) (pair : List ℕ × List ℕ) → pair_of field ≡ Some pair → Keyed field pair
pair_field field pair h = by_split (split_first (codes "=") field) refl h
  where
    by_split : (o : Option (List ℕ × List ℕ)) → split_first (codes "=") field ≡ o → keyed o ≡ Some pair → Keyed field pair
    by_split None is k = cc
    by_split (Some x) is k = by_test (nat_le 1 (length x.0)) refl k
      where
        by_test : (t : Bool) → nat_le 1 (length x.0) ≡ t → cond t (Some (fold x.0, decoded Value x.1)) None ≡ Some pair → Keyed field pair
        by_test true long m =
            (x.0, x.1, record { cut = split_cuts (codes "=") field x.0 x.1 is; some = grind (arith, nat_tests, long) }, cc)
        by_test false long m = cc

-- fields are read as their pairs
fields_read : {text : List ℕ} {pairs : List (List ℕ × List ℕ)} → HasFields text pairs → all_pairs (fields_of text) ≡ Some pairs
fields_read (one_field {text} {key} {value} lacks field) =
    ap all_pairs (fields_of-one text (lacks_unsplit (codes ",") text lacks)) ∙ ap (λ o. then_pairs o (Some [])) (field_pair text key value field)
fields_read (first_field {text} {field} {rest} {key} {value} cut is more) =
    ap all_pairs (fields_of-split text field rest (cut_splits (codes ",") text field rest (omega arith) cut))
    ∙ ap (λ o. then_pairs o (all_pairs (fields_of rest))) (field_pair field key value is)
    ∙ ap (then_pairs (Some (fold key, decoded Value value))) (fields_read more)

-- pairs that are read are those of fields, where this holds of shorter texts
fields_by : (text : List ℕ) (pairs : List (List ℕ × List ℕ))
    → ((rest : List ℕ) (ps : List (List ℕ × List ℕ)) → length rest < length text → all_pairs (fields_of rest) ≡ Some ps → HasFields rest ps)
    → all_pairs (fields_of text) ≡ Some pairs → HasFields text pairs
fields_by text pairs shorter h = by_split (split_first (codes ",") text) refl
  where
    alone : split_first (codes ",") text ≡ None → (o : Option (List ℕ × List ℕ)) → pair_of text ≡ o → then_pairs o (Some []) ≡ Some pairs → HasFields text pairs
    alone lacks None is m = cc
    alone lacks (Some pair) is m =
        let found = pair_field text pair is in
        let whole : pair ∷ [] ≡ pairs = cc in
        subst (HasFields text) (ap (λ (p : List ℕ × List ℕ). p ∷ []) found.3 ∙ whole)
        (one_field (unsplit_lacks (codes ",") text (omega arith) lacks) found.2)

    first : (field rest : List ℕ) → IsCutFirst (codes ",") text field rest → (o : Option (List ℕ × List ℕ)) → pair_of field ≡ o
        → (u : Option (List (List ℕ × List ℕ))) → ((ps : List (List ℕ × List ℕ)) → u ≡ Some ps → HasFields rest ps) → then_pairs o u ≡ Some pairs → HasFields text pairs
    first field rest cut None is u more m = cc
    first field rest cut (Some pair) is None more m = cc
    first field rest cut (Some pair) is (Some ps) more m =
        let found = pair_field field pair is in
        let whole : pair ∷ ps ≡ pairs = cc in
        subst (HasFields text) (ap (λ (p : List ℕ × List ℕ). p ∷ ps) found.3 ∙ whole) (first_field cut found.2 (more ps refl))

    by_split : (o : Option (List ℕ × List ℕ)) → split_first (codes ",") text ≡ o → HasFields text pairs
    by_split None is = alone is (pair_of text) refl (ap all_pairs (sym (fields_of-one text is)) ∙ h)
    by_split (Some x) is =
        first x.0 x.1 (split_cuts (codes ",") text x.0 x.1 is) (pair_of x.0) refl (all_pairs (fields_of x.1))
        (λ ps read. shorter x.1 ps (split_first-shorter (codes ",") text x.0 x.1 (omega arith) is) read)
        (ap all_pairs (sym (fields_of-split text x.0 x.1 is)) ∙ h)

read_fields : (n : ℕ) (text : List ℕ) (pairs : List (List ℕ × List ℕ)) → length text ≤ n → all_pairs (fields_of text) ≡ Some pairs → HasFields text pairs
read_fields zero text pairs within h = fields_by text pairs (λ rest ps less read. absurd (omega (arith, less, within))) h
read_fields (suc n) text pairs within h = fields_by text pairs (λ rest ps less read. read_fields n rest ps (omega (arith, less, within)) read) h

-- ---- commands

abbrev pub Pairs : Type 0
Pairs = List (List ℕ × List ℕ)

-- a line of the form is read as the command
named_by : (spelled name said message : List ℕ) (pairs : Pairs) → is_command name ≡ true → name ≡ fold spelled → message ≡ decoded Message said
    → named spelled (Some pairs) said ≡ Some (Command name pairs message)
named_by spelled name said message pairs one folded decodes =
    ap (λ (t : Bool). cond t (Some (Command (fold spelled) pairs (decoded Message said))) None) (ap is_command (sym folded) ∙ one)
    ∙ ap (λ (n : List ℕ). Some (Command n pairs (decoded Message said))) (sym folded)
    ∙ ap (λ (m : List ℕ). Some (Command name pairs m)) (sym decodes)

headed_by : {head spelled : List ℕ} {pairs : Pairs} (said : List ℕ) → HasHead head spelled pairs
    → headed (split_first (codes " ") head) head said ≡ named spelled (Some pairs) said
headed_by said (bare {head} lacks) = ap (λ o. headed o head said) (lacks_unsplit (codes " ") head lacks)
headed_by said (with_fields {head} {name} {fields} cut has) =
    ap (λ o. headed o head said) (cut_splits (codes " ") head name fields (omega arith) cut) ∙ ap (λ ps. named name ps said) (fields_read has)

pub form_read : (line name : List ℕ) (pairs : Pairs) (message : List ℕ) → IsCommand line name pairs message
    → command_of line ≡ Some (Command name pairs message)
form_read line name pairs message h =
    ap opened (colons_before line h.blanks h.text h.indented h.begins)
    ∙ ap closed (cut_splits (codes "::") h.text h.head h.said (omega arith) h.cut)
    ∙ headed_by h.said h.has
    ∙ named_by h.spelled name h.said message pairs h.one h.folded h.decodes

-- what a line is that is read as a command
abbrev pub IsForm : List ℕ → Option Line → Type 0
IsForm line None = Unit {0}
IsForm line (Some (Plain text)) = ⊥
IsForm line (Some (Command name pairs message)) = IsCommand line name pairs message
IsForm line (Some Resume) = ⊥

form_of : (line text head said spelled : List ℕ) (pairs : Pairs) → from_text line ≡ codes "::" ++ text → IsCutFirst (codes "::") text head said
    → HasHead head spelled pairs → IsForm line (named spelled (Some pairs) said)
form_of line text head said spelled pairs from cut has = by_test (is_command (fold spelled)) refl
  where
    by_test : (t : Bool) → is_command (fold spelled) ≡ t → IsForm line (cond t (Some (Command (fold spelled) pairs (decoded Message said))) None)
    by_test true is =
        let before = indented line in
        record {
          blanks = before.0;
          text = text;
          head = head;
          said = said;
          spelled = spelled;
          indented = before.1;
          begins = before.2 ∙ ap (λ (t : List ℕ). before.0 ++ t) from;
          cut = cut;
          has = has;
          one = is;
          folded = refl;
          decodes = refl;
        }
    by_test false is = tt

headed_form : (line text head said : List ℕ) → from_text line ≡ codes "::" ++ text → IsCutFirst (codes "::") text head said
    → (o : Option (List ℕ × List ℕ)) → split_first (codes " ") head ≡ o → IsForm line (headed o head said)
headed_form line text head said from cut None is =
    form_of line text head said head [] from cut (bare (unsplit_lacks (codes " ") head (omega arith) is))
headed_form line text head said from cut (Some x) is = by_fields (all_pairs (fields_of x.1)) refl
  where
    by_fields : (u : Option Pairs) → all_pairs (fields_of x.1) ≡ u → IsForm line (named x.0 u said)
    by_fields None read = tt
    by_fields (Some ps) read =
        form_of line text head said x.0 ps from cut
        (with_fields (split_cuts (codes " ") head x.0 x.1 is) (read_fields (length x.1) x.1 ps (omega arith) read))

closed_form : (line text : List ℕ) → from_text line ≡ codes "::" ++ text
    → (o : Option (List ℕ × List ℕ)) → split_first (codes "::") text ≡ o → IsForm line (closed o)
closed_form line text from None is = tt
closed_form line text from (Some x) is =
    headed_form line text x.0 x.1 from (split_cuts (codes "::") text x.0 x.1 is) (split_first (codes " ") x.0) refl

pub read_form : (line : List ℕ) → IsForm line (command_of line)
read_form line = by_colons (after_colons line) refl
  where
    by_colons : (o : Option (List ℕ)) → after_colons line ≡ o → IsForm line (opened o)
    by_colons None is = tt
    by_colons (Some text) is = closed_form line text (colons_after line text is) (split_first (codes "::") text) refl

-- ---- the line that resumes

pub resumes : (word line : List ℕ) → Resumes word line → is_resuming word line ≡ true
resumes word line h =
    let from : from_text line ≡ codes "::" ++ (word ++ codes "::") =
    ap from_text h.spelled ∙ text_from h.blanks (58 ∷ (word ++ codes "::")) 58 h.indented refl in
    (bytes_eq-Decides (from_text line) (codes "::" ++ (word ++ codes "::"))).1 from

pub resumed : (word line : List ℕ) → is_resuming word line ≡ true → Resumes word line
resumed word line h =
    let before = indented line in
    record {
      blanks = before.0;
      indented = before.1;
      spelled = before.2 ∙ ap (λ (t : List ℕ). before.0 ++ t) ((bytes_eq-Decides (from_text line) (codes "::" ++ (word ++ codes "::"))).0 h);
    }
