-- The lines of a log that are told, one more.
use Rattle.std.proofs.Common.{◌≡◌, ◌==◌, ℕ, Bool, true, false, not, true≢false, if◌then◌else◌, codes, string_bytes, Option, Some, None, List, [], ◌∷◌, ◌++◌, flat_map, refl, sym, ap, ◌∙◌, append_assoc}
use Rattle.std.proofs.lemmas.List.Concat.{flat_map-append}
use Rattle.std.specs.Str.{is_utf8}
use Rattle.flow_model.specs.Lines.{lines_of, newline, onto_first}
use Rattle.flow_commands.specs.CommandTexts.{commands, is_resuming, opened, read_as, read_from, stopped_by}
use Rattle.flow_commands.specs.Logs.{bytes_told, leg_masks, line_text, lines_text, lines_told, logs_text, no_text, of_leg, told_with}
use Rattle.flow_commands.specs.Shown.{line_shown, masked_line, masks_added, shown}
use Rattle.flow_commands.specs.Splits.{after_front, from_text}
use Rattle.flow_commands.specs.declared.line.Line.{Line}
use Rattle.flow_commands.specs.declared.line.Line.TheVariants.{Plain, Resume}
use Rattle.flow_commands.specs.declared.logs.LogTeller.{LogTeller}
use Rattle.flow_commands.proofs.Commanding.{resumes_not}

-- ---- a line without colons

not_resuming : (line word : List ℕ) (lines : List (List ℕ)) (b : Bool) → b ≡ false
    → (if b then Resume ∷ read_from None lines else Plain line ∷ read_from (Some word) lines) ≡ Plain line ∷ read_from (Some word) lines
not_resuming line word lines true h = absurd (cc)
not_resuming line word lines false h = refl

-- it is plain, wherever it stands
pub plain_line : (line : List ℕ) → after_front (codes "::") (from_text line) ≡ None → (stop : Option (List ℕ)) (lines : List (List ℕ))
    → read_from stop (line ∷ lines) ≡ Plain line ∷ read_from stop lines
plain_line line none None lines = ap (λ o. read_as line (opened o) ∷ read_from (stopped_by (read_as line (opened o))) lines) none
plain_line line none (Some word) lines =
    not_resuming line word lines (is_resuming word line) (resumes_not (codes "::") (from_text line) (word ++ codes "::") none)

-- ---- a text of one line

some_line : (ends : Bool) (b : ℕ) (lines : List (List ℕ)) → (if ends then [] ∷ lines else onto_first b lines) ≡ [] → ⊥
some_line true b lines is = cc
some_line false b [] is = cc
some_line false b (line ∷ lines) is = cc

no_lines : (text : List ℕ) → lines_of text ≡ [] → text ≡ []
no_lines [] is = refl
no_lines (b ∷ text) is = absurd (some_line (b == newline) b (lines_of text) is)

same_first : (x y : List ℕ) (xs ys : List (List ℕ)) → x ∷ xs ≡ y ∷ ys → x ≡ y
same_first x y xs ys is = cc

same_others : (x y : List ℕ) (xs ys : List (List ℕ)) → x ∷ xs ≡ y ∷ ys → xs ≡ ys
same_others x y xs ys is = cc

-- nothing follows its first line
pub one_line : (text first rest line : List ℕ) → lines_of text ≡ first ∷ lines_of rest → lines_of text ≡ line ∷ [] → (first ≡ line) × (rest ≡ [])
one_line text first rest line cut is = (
  same_first first line (lines_of rest) [] (sym cut ∙ is),
  no_lines rest (same_others first line (lines_of rest) [] (sym cut ∙ is)),
)

pub is_set : (c d : Bool) → d ≡ not c → d ≡ false → c ≡ true
is_set true d is unset = refl
is_set false d is unset = absurd (true≢false (sym is ∙ unset))

-- ---- one line more

text_told : (given masks masks' : List (List ℕ)) (text text' : List ℕ) (read : Line) (rest : List Line)
    → text' ≡ text ++ lines_text (masked_line (given ++ masks) (line_shown read)) → masks' ≡ masks ++ masks_added read
    → text ++ lines_text (shown (given ++ masks) (read ∷ rest)) ≡ text' ++ lines_text (shown (given ++ masks') rest)
text_told given masks masks' text text' read rest shows adds =
    let first = masked_line (given ++ masks) (line_shown read) in
    let others = shown ((given ++ masks) ++ masks_added read) rest in
    ap (λ (t : List ℕ). text ++ t) (flat_map-append line_text first others)
    ∙ sym (append_assoc text (lines_text first) (lines_text others))
    ∙ ap (λ (t : List ℕ). t ++ lines_text others) (sym shows)
    ∙ ap (λ (ms : List (List ℕ)). text' ++ lines_text (shown ms rest))
    (append_assoc given masks (masks_added read) ∙ ap (λ (ms : List (List ℕ)). given ++ ms) (sym adds))

-- a line was told: what is shown of it was added, and its masks
pub line_told : (given : List (List ℕ)) (old new : LogTeller) (line : List ℕ) (read : Line)
    → ((lines : List (List ℕ)) → read_from old.stop (line ∷ lines) ≡ read ∷ read_from new.stop lines)
    → string_bytes new.shown ≡ string_bytes old.shown ++ lines_text (masked_line (given ++ old.masks) (line_shown read))
    → new.masks ≡ old.masks ++ masks_added read
    → (lines : List (List ℕ)) → told_with given old (line ∷ lines) ≡ told_with given new lines
line_told given old new line read reads shows adds lines =
    let rest = read_from new.stop lines in
    ap (λ (ls : List Line). (string_bytes old.shown ++ lines_text (shown (given ++ old.masks) ls), old.masks ++ flat_map masks_added ls)) (reads lines)
    ∙ ap (λ (t : List ℕ). (t, old.masks ++ (masks_added read ++ flat_map masks_added rest)))
    (text_told given old.masks new.masks (string_bytes old.shown) (string_bytes new.shown) read rest shows adds)
    ∙ ap (λ (ms : List (List ℕ)). (string_bytes new.shown ++ lines_text (shown (given ++ new.masks) rest), ms))
    (sym (append_assoc old.masks (masks_added read) (flat_map masks_added rest)) ∙ ap (λ (ms : List (List ℕ)). ms ++ flat_map masks_added rest) (sym adds))
