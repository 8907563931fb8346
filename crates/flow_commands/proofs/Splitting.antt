-- Texts split at marks, and into lines.
use Rattle.std.proofs.Common.{◌≡◌, ℕ, zero, suc, ◌+◌, ◌<◌, ◌≤◌, Bool, true, false, cond, ◌&&◌, nat_eq, ◌==◌, Option, Some, None, List, [], ◌∷◌, ◌++◌, length, take, drop, refl, sym, ap, ◌∙◌, length-drop, length-append, arith}
use Rattle.std.proofs.lemmas.Bool.{cond-true, cond-false}
use Rattle.std.proofs.lemmas.Bool.Decides.{Decides-eqb, nat_tests}
use Rattle.std.proofs.lemmas.Slice.Eq.{starts_is}
use Rattle.std.specs.Option.{option_map, MatchOption}
use Rattle.std.specs.Borrow.{Bor}
use Rattle.std.specs.List.{starts_with}
use Rattle.std.specs.Str.Pattern.{FindsText, LacksTextAt, SplitsAroundMatch}
use Rattle.flow_model.specs.Lines.{onto_first, lines_of}
use Rattle.flow_commands.specs.Splits.{split_first, onto_front, fields_of}

lacks_front : (mark text : List ℕ) → LacksTextAt mark text 0 → (t : Bool) → starts_with nat_eq text mark ≡ t → t ≡ false
lacks_front mark text lacks true is = absurd (lacks (drop (length mark) text) ((starts_is Decides-eqb text mark (starts_with nat_eq text mark) refl).0 is))
lacks_front mark text lacks false is = refl

not_front : (mark text : List ℕ) → LacksTextAt mark text 0 → starts_with nat_eq text mark ≡ false
not_front mark text lacks = lacks_front mark text lacks (starts_with nat_eq text mark) refl

-- a text without the mark
pub split_first-none : (mark text : List ℕ) → ((i : ℕ) → i ≤ length text → LacksTextAt mark text i) → split_first mark text ≡ None
split_first-none mark [] lacks = refl
split_first-none mark (b ∷ text) lacks =
    cond-false (starts_with nat_eq (b ∷ text) mark) (Some ([], drop (length mark) (b ∷ text))) (onto_front b (split_first mark text))
    (not_front mark (b ∷ text) (lacks 0 (omega arith)))
    ∙ ap (onto_front b) (split_first-none mark text (λ i within. lacks (suc i) (omega arith)))

-- a text with the mark at a place, and at none before
pub split_first-at : (mark text : List ℕ) (i j : ℕ) → 0 < length mark → j ≡ i + length mark → i < length text
    → ((k : ℕ) → k < i → LacksTextAt mark text k) → drop i text ≡ mark ++ drop j text → split_first mark text ≡ Some (take i text, drop j text)
split_first-at mark [] i j some ends within lacks at = absurd (omega arith)
split_first-at mark (b ∷ text) zero j some ends within lacks at =
    let size : length mark ≡ j = omega arith in
    cond-true (starts_with nat_eq (b ∷ text) mark) (Some ([], drop (length mark) (b ∷ text))) (onto_front b (split_first mark text))
    ((starts_is Decides-eqb (b ∷ text) mark (starts_with nat_eq (b ∷ text) mark) refl).1 (drop j (b ∷ text)) at)
    ∙ ap (λ (n : ℕ). Some ([], drop n (b ∷ text))) size
split_first-at mark (b ∷ text) (suc i) zero some ends within lacks at = absurd (omega arith)
split_first-at mark (b ∷ text) (suc i) (suc j) some ends within lacks at =
    cond-false (starts_with nat_eq (b ∷ text) mark) (Some ([], drop (length mark) (b ∷ text))) (onto_front b (split_first mark text))
    (not_front mark (b ∷ text) (lacks 0 (omega arith)))
    ∙ ap (onto_front b) (split_first-at mark text i j some (omega arith) (omega arith) (λ k before. lacks (suc k) (omega arith)) at)

-- ---- lines

begins_byte : (c b : ℕ) (text : List ℕ) → starts_with nat_eq (b ∷ text) (c ∷ []) ≡ (b == c)
begins_byte c b text = same (c == b) (b == c) refl refl
  where
    same : (t u : Bool) → (c == b) ≡ t → (b == c) ≡ u → (t && true) ≡ u
    same true true h k = refl
    same true false h k = absurd (grind (arith, nat_tests))
    same false true h k = absurd (grind (arith, nat_tests))
    same false false h k = refl

begins_newline : (b : ℕ) (text : List ℕ) → starts_with nat_eq (b ∷ text) (10 ∷ []) ≡ (b == 10)
begins_newline b text = begins_byte 10 b text

-- how the parts of a text between bytes c go on
abbrev CutsAt : ℕ → (List ℕ → List (List ℕ)) → Type 0
CutsAt c parts = (b : ℕ) (text : List ℕ) → parts (b ∷ text) ≡ cond (b == c) ([] ∷ parts text) (onto_first b (parts text))

-- the first part of a text that has the byte
parts_split : (c : ℕ) (parts : List ℕ → List (List ℕ)) → CutsAt c parts → (text part rest : List ℕ) → split_first (c ∷ []) text ≡ Some (part, rest)
    → parts text ≡ part ∷ parts rest
parts_split c parts cuts [] part rest h = cc
parts_split c parts cuts (b ∷ text) part rest h =
    cuts b text
    ∙ by_test (starts_with nat_eq (b ∷ text) (c ∷ [])) (b == c) refl refl h
    (λ k. later (split_first (c ∷ []) text) refl k (λ x is. parts_split c parts cuts text x.0 x.1 is))
  where
    later : (o : Option (List ℕ × List ℕ)) → split_first (c ∷ []) text ≡ o → onto_front b o ≡ Some (part, rest)
        → ((x : List ℕ × List ℕ) → split_first (c ∷ []) text ≡ Some (x.0, x.1) → parts text ≡ x.0 ∷ parts x.1)
        → onto_first b (parts text) ≡ part ∷ parts rest
    later None is k more = cc
    later (Some x) is k more =
        let p : (b ∷ x.0, x.1) ≡ (part, rest) = cc in
        ap (onto_first b) (more x is) ∙ ap (λ (y : List ℕ × List ℕ). y.0 ∷ parts y.1) p

    by_test : (t u : Bool) → starts_with nat_eq (b ∷ text) (c ∷ []) ≡ t → (b == c) ≡ u
        → cond t (Some ([], text)) (onto_front b (split_first (c ∷ []) text)) ≡ Some (part, rest)
        → (onto_front b (split_first (c ∷ []) text) ≡ Some (part, rest) → onto_first b (parts text) ≡ part ∷ parts rest)
        → cond u ([] ∷ parts text) (onto_first b (parts text)) ≡ part ∷ parts rest
    by_test true true is here k more = let p : ([], text) ≡ (part, rest) = cc in ap (λ (y : List ℕ × List ℕ). y.0 ∷ parts y.1) p
    by_test true false is here k more = absurd (cc (begins_byte c b text))
    by_test false true is here k more = absurd (cc (begins_byte c b text))
    by_test false false is here k more = more k

-- the first line of a text that has a newline, and the first field of one that has a comma
pub lines_of-split : (text line rest : List ℕ) → split_first (10 ∷ []) text ≡ Some (line, rest) → lines_of text ≡ line ∷ lines_of rest
lines_of-split text line rest h = parts_split 10 lines_of (λ b t. refl) text line rest h

pub fields_of-split : (text field rest : List ℕ) → split_first (44 ∷ []) text ≡ Some (field, rest) → fields_of text ≡ field ∷ fields_of rest
fields_of-split text field rest h = parts_split 44 fields_of (λ b t. refl) text field rest h

-- a text without a comma is one field
pub fields_of-one : (text : List ℕ) → split_first (44 ∷ []) text ≡ None → fields_of text ≡ text ∷ []
fields_of-one [] h = refl
fields_of-one (b ∷ text) h =
    by_test (starts_with nat_eq (b ∷ text) (44 ∷ [])) (b == 44) refl refl h
    (λ k. later (split_first (44 ∷ []) text) refl k (λ is. fields_of-one text is))
  where
    later : (o : Option (List ℕ × List ℕ)) → split_first (44 ∷ []) text ≡ o → onto_front b o ≡ None
        → (split_first (44 ∷ []) text ≡ None → fields_of text ≡ text ∷ []) → onto_first b (fields_of text) ≡ (b ∷ text) ∷ []
    later (Some x) is k more = cc
    later None is k more = ap (onto_first b) (more is)

    by_test : (t u : Bool) → starts_with nat_eq (b ∷ text) (44 ∷ []) ≡ t → (b == 44) ≡ u
        → cond t (Some ([], text)) (onto_front b (split_first (44 ∷ []) text)) ≡ None
        → (onto_front b (split_first (44 ∷ []) text) ≡ None → onto_first b (fields_of text) ≡ (b ∷ text) ∷ [])
        → cond u ([] ∷ fields_of text) (onto_first b (fields_of text)) ≡ (b ∷ text) ∷ []
    by_test true u is here k more = absurd (cc)
    by_test false true is here k more = absurd (cc (begins_byte 44 b text))
    by_test false false is here k more = more k

-- a text without a newline is one line
pub lines_of-one : (b : ℕ) (text : List ℕ) → split_first (10 ∷ []) (b ∷ text) ≡ None → lines_of (b ∷ text) ≡ (b ∷ text) ∷ []
lines_of-one b [] h = alone (starts_with nat_eq (b ∷ []) (10 ∷ [])) (b == 10) refl refl h
  where
    alone : (t u : Bool) → starts_with nat_eq (b ∷ []) (10 ∷ []) ≡ t → (b == 10) ≡ u
        → cond {A = Option (List ℕ × List ℕ)} t (Some ([], [])) None ≡ None
        → cond u ([] ∷ []) ((b ∷ []) ∷ []) ≡ (b ∷ []) ∷ []
    alone true u is here k = absurd (cc)
    alone false true is here k = absurd (cc (begins_newline b []))
    alone false false is here k = refl
lines_of-one b (c ∷ text) h =
    by_test (starts_with nat_eq (b ∷ c ∷ text) (10 ∷ [])) (b == 10) refl refl h
    (λ k. later (split_first (10 ∷ []) (c ∷ text)) refl k (λ is. lines_of-one c text is))
  where
    later : (o : Option (List ℕ × List ℕ)) → split_first (10 ∷ []) (c ∷ text) ≡ o → onto_front b o ≡ None
        → (split_first (10 ∷ []) (c ∷ text) ≡ None → lines_of (c ∷ text) ≡ (c ∷ text) ∷ [])
        → onto_first b (lines_of (c ∷ text)) ≡ (b ∷ c ∷ text) ∷ []
    later (Some x) is k more = cc
    later None is k more = ap (onto_first b) (more is)

    by_test : (t u : Bool) → starts_with nat_eq (b ∷ c ∷ text) (10 ∷ []) ≡ t → (b == 10) ≡ u
        → cond t (Some ([], drop 1 (b ∷ c ∷ text))) (onto_front b (split_first (10 ∷ []) (c ∷ text))) ≡ None
        → (onto_front b (split_first (10 ∷ []) (c ∷ text)) ≡ None → onto_first b (lines_of (c ∷ text)) ≡ (b ∷ c ∷ text) ∷ [])
        → cond u ([] ∷ lines_of (c ∷ text)) (onto_first b (lines_of (c ∷ text))) ≡ (b ∷ c ∷ text) ∷ []
    by_test true u is here k more = absurd (cc)
    by_test false true is here k more = absurd (cc (begins_newline b (c ∷ text)))
    by_test false false is here k more = more k

-- what follows the first mark is shorter
pub split_first-shorter : (mark text front rest : List ℕ) → 0 < length mark → split_first mark text ≡ Some (front, rest) → length rest < length text
split_first-shorter mark [] front rest some h = cc
split_first-shorter mark (b ∷ text) front rest some h =
    by_test (starts_with nat_eq (b ∷ text) mark) refl h
    (λ k. later (split_first mark text) refl k (λ x is. split_first-shorter mark text x.0 x.1 some is))
  where
    later : (o : Option (List ℕ × List ℕ)) → split_first mark text ≡ o → onto_front b o ≡ Some (front, rest)
        → ((x : List ℕ × List ℕ) → split_first mark text ≡ Some (x.0, x.1) → length x.1 < length text) → length rest < suc (length text)
    later None is k more = cc
    later (Some x) is k more =
        let p : (b ∷ x.0, x.1) ≡ (front, rest) = cc in
        let q : x.1 ≡ rest = ap (λ (y : List ℕ × List ℕ). y.1) p in
        let less = more x is in
        let size : length x.1 ≡ length rest = ap length q in
        omega arith

    by_test : (t : Bool) → starts_with nat_eq (b ∷ text) mark ≡ t
        → cond t (Some ([], drop (length mark) (b ∷ text))) (onto_front b (split_first mark text)) ≡ Some (front, rest)
        → (onto_front b (split_first mark text) ≡ Some (front, rest) → length rest < suc (length text))
        → length rest < suc (length text)
    by_test true is k more =
        let p : ([], drop (length mark) (b ∷ text)) ≡ (front, rest) = cc in
        let size : length (drop (length mark) (b ∷ text)) ≡ length rest = ap (λ (y : List ℕ × List ℕ). length y.1) p in
        omega (arith, size, length-drop (length mark) (b ∷ text))
    by_test false is k more = more k

-- `split_once` at a text splits at the first place of the text
pub split_once_is : (mark text : List ℕ) (r : Option (Bor (List ℕ) × Bor (List ℕ))) → 0 < length mark
    → MatchOption r (FindsText mark text None) (λ x. SplitsAroundMatch (FindsText mark) text x.0.now x.1.now)
    → option_map (λ x. (x.0.now, x.1.now)) r ≡ split_first mark text
split_once_is mark text None some h = sym (split_first-none mark text h)
split_once_is mark text (Some x) some h =
    let i = h.0 in
    let j = h.1 in
    let size : length (drop i text) ≡ length (mark ++ drop j text) = ap length h.2.1.split in
    ap (λ (y : List ℕ). Some (y, x.1.now)) h.3 ∙ ap (λ (y : List ℕ). Some (take i text, y)) h.4
    ∙ sym (split_first-at mark text i j some h.2.1.ends (omega (arith, size, length-drop i text, length-append mark (drop j text))) h.2.0 h.2.1.split)

-- a text that is not empty has a first line, and where no newline ends it, no other
pub lines_of-last : (text : List ℕ) → 0 < length text → split_first (10 ∷ []) text ≡ None → lines_of text ≡ text ∷ []
lines_of-last [] some h = absurd (omega arith)
lines_of-last (b ∷ text) some h = lines_of-one b text h
