-- Texts as they are shown: character by character, and not one control character of ASCII.
use Rattle.std.proofs.Common.{◌≡◌, ◌==◌, ◌++◌, ◌&&◌, ℕ, Bool, true, not, List, [], ◌∷◌, length, map, nat_lt, chars, IsUtf8, encode_utf8_all, refl, sym, ap, ◌∙◌, arith, append-nil}
use Rattle.std.specs.Char.{encode_utf8}
use Rattle.std.proofs.lemmas.Grind.{flat_map-append}
use Rattle.std.specs.List.{flat_map}
use Rattle.std.proofs.lemmas.List.Folds.{list_all-append}
use Rattle.std.proofs.lemmas.Str.{chars_past_char, chars-nil}
use Rattle.command_io.specs.Pictures.{picture, shown, ended, line_of, is_plain, HasPlainLines}

-- a character and what follows it
pub shown_step : (bs rest : List ℕ) (c : ℕ) → IsUtf8 bs → bs ≡ encode_utf8 c ++ rest → shown bs ≡ encode_utf8 (picture c) ++ shown rest
shown_step bs rest c text is = ap (λ (cs : List ℕ). encode_utf8_all (map picture cs)) (chars_past_char bs rest c text is)

-- nothing is shown of no text
pub shown_nothing : (bs : List ℕ) → length bs ≡ 0 → shown bs ≡ []
shown_nothing [] none = ap (λ (cs : List ℕ). encode_utf8_all (map picture cs)) chars-nil
shown_nothing (b ∷ bs) none = absurd (omega (arith, none))

-- ---- no control characters

abbrev plain : ℕ → Bool
plain b = not (nat_lt b 32) && not (b == 127)

low_picture : (c : ℕ) → nat_lt (picture c) 128 ≡ true → plain (picture c) ≡ true
low_picture c low = grind arith

pub both : (a b : List ℕ) → is_plain a ≡ true → is_plain b ≡ true → is_plain (a ++ b) ≡ true
both a b first second = list_all-append plain a b ∙ (λ i. first i && second i)

plain_character : (p : ℕ) → (nat_lt p 128 ≡ true → plain p ≡ true) → is_plain (encode_utf8 p) ≡ true
unfolding encode_utf8
plain_character p low = grind (arith, low)

plain_characters : (cs : List ℕ) → is_plain (encode_utf8_all (map picture cs)) ≡ true
plain_characters [] = refl
plain_characters (c ∷ cs) =
    both (encode_utf8 (picture c)) (encode_utf8_all (map picture cs)) (plain_character (picture c) (low_picture c)) (plain_characters cs)

pub shown_is_plain : (text : List ℕ) → is_plain (shown text) ≡ true
shown_is_plain text = plain_characters (chars text)

-- ---- lines

pub no_lines : HasPlainLines []
no_lines = ([], (refl, refl))

pub lines_of_one : (text : List ℕ) → HasPlainLines (line_of text)
lines_of_one text = (shown text ∷ [], (rw (shown_is_plain text) refl, sym (append-nil (line_of text))))

pub lines_of_both : (a b : List ℕ) → HasPlainLines a → HasPlainLines b → HasPlainLines (a ++ b)
lines_of_both a b first second = (
  first.0 ++ second.0,
  (
    list_all-append is_plain first.0 second.0 ∙ (λ i. first.1.0 i && second.1.0 i),
    (λ i. first.1.1 i ++ second.1.1 i) ∙ sym (flat_map-append ended first.0 second.0),
  ),
)

pub lines_of_all : {X : Type 0} (words : X → List ℕ) (xs : List X) → HasPlainLines (flat_map (λ x. line_of (words x)) xs)
lines_of_all words [] = no_lines
lines_of_all words (x ∷ xs) =
    lines_of_both (line_of (words x)) (flat_map (λ y. line_of (words y)) xs) (lines_of_one (words x)) (lines_of_all words xs)
