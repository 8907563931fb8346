-- A text in quotes is read as that text.
use Rattle.std.proofs.Common.{◌≡◌, ◌==◌, ◌+◌, ◌≤◌, ◌++◌, ℕ, suc, Bool, true, false, List, [], ◌∷◌, Some, None, nat_le, nat_lt, refl, sym, subst, ap, ◌∙◌, append_assoc, arith}
use Rattle.command_graph.specs.Quoted.{picture, shown, shown_text, spell, fold, is_long, row_after, spelled}
use Rattle.command_graph.specs.Reading.{plain, Read, onto, read_string, QuotedTextsAreRead, PlainTextsAreShown}

-- three bytes, one after the other, stand before the rest together
three_bytes : (a b c : ℕ) (read : Read) → onto (a ∷ []) (onto (b ∷ []) (onto (c ∷ []) read)) ≡ onto (a ∷ b ∷ c ∷ []) read
three_bytes a b c None = refl
three_bytes a b c (Some read) = refl

-- bytes that are equal by the test are equal
same : (b c : ℕ) → (b == c) ≡ true → b ≡ c
same b c h = grind arith

-- ---- bytes that stand for themselves

other_byte : (b : ℕ) (more : List ℕ) → (b == 34) ≡ false → (b == 92) ≡ false → (b == 38) ≡ false → (b == 0) ≡ false
    → read_string plain (b ∷ more) ≡ onto (b ∷ []) (read_string plain more)
other_byte b more quote backslash ampersand null = rw (quote, backslash, ampersand, null) refl

not_quote : (b : ℕ) → 128 ≤ b → (b == 34) ≡ false
not_quote b high = grind arith

not_backslash : (b : ℕ) → 128 ≤ b → (b == 92) ≡ false
not_backslash b high = grind arith

not_ampersand : (b : ℕ) → 128 ≤ b → (b == 38) ≡ false
not_ampersand b high = grind arith

not_null : (b : ℕ) → 32 ≤ b → (b == 0) ≡ false
not_null b high = grind arith

high_byte : (b : ℕ) (more : List ℕ) → 128 ≤ b → read_string plain (b ∷ more) ≡ onto (b ∷ []) (read_string plain more)
high_byte b more high =
    other_byte b more (not_quote b high) (not_backslash b high) (not_ampersand b high) (not_null b (omega (arith, high)))

picture_read : (b : ℕ) (more : List ℕ) → read_string plain (picture b ++ more) ≡ onto (picture b) (read_string plain more)
picture_read b more =
    ap (λ (read : Read). onto (226 ∷ []) (onto (144 ∷ []) read)) (high_byte (128 + b) more (omega arith))
    ∙ three_bytes 226 144 (128 + b) (read_string plain more)

-- ---- a byte as it is spelled

last_byte : (b : ℕ) (more : List ℕ) → (b == 34) ≡ false → (b == 92) ≡ false → (b == 38) ≡ false → (b == 10) ≡ false
    → read_string plain (spell b ++ more) ≡ onto (shown b) (read_string plain more)
last_byte b more quote backslash ampersand newline = by_control (nat_lt b 32) refl
  where
    by_control : (control : Bool) → nat_lt b 32 ≡ control → read_string plain (spell b ++ more) ≡ onto (shown b) (read_string plain more)
    by_control true low = rw (quote, backslash, ampersand, newline, low) (picture_read b more)
    by_control false high =
        rw (quote, backslash, ampersand, newline, high) (other_byte b more quote backslash ampersand (not_null b (grind arith)))

byte_read : (b : ℕ) (more : List ℕ) → read_string plain (spell b ++ more) ≡ onto (shown b) (read_string plain more)
byte_read b more = by_quote (b == 34) refl
  where
    by_newline : (is : Bool) → (b == 10) ≡ is → (b == 34) ≡ false → (b == 92) ≡ false → (b == 38) ≡ false
        → read_string plain (spell b ++ more) ≡ onto (shown b) (read_string plain more)
    by_newline true newline quote backslash ampersand = subst (λ (c : ℕ). read_string plain (spell c ++ more) ≡ onto (shown c) (read_string plain more)) (sym (same b 10 newline)) refl
    by_newline false newline quote backslash ampersand = last_byte b more quote backslash ampersand newline

    by_ampersand : (is : Bool) → (b == 38) ≡ is → (b == 34) ≡ false → (b == 92) ≡ false → read_string plain (spell b ++ more) ≡ onto (shown b) (read_string plain more)
    by_ampersand true ampersand quote backslash = subst (λ (c : ℕ). read_string plain (spell c ++ more) ≡ onto (shown c) (read_string plain more)) (sym (same b 38 ampersand)) refl
    by_ampersand false ampersand quote backslash = by_newline (b == 10) refl quote backslash ampersand

    by_backslash : (is : Bool) → (b == 92) ≡ is → (b == 34) ≡ false → read_string plain (spell b ++ more) ≡ onto (shown b) (read_string plain more)
    by_backslash true backslash quote = subst (λ (c : ℕ). read_string plain (spell c ++ more) ≡ onto (shown c) (read_string plain more)) (sym (same b 92 backslash)) refl
    by_backslash false backslash quote = by_ampersand (b == 38) refl quote backslash

    by_quote : (is : Bool) → (b == 34) ≡ is → read_string plain (spell b ++ more) ≡ onto (shown b) (read_string plain more)
    by_quote true quote = subst (λ (c : ℕ). read_string plain (spell c ++ more) ≡ onto (shown c) (read_string plain more)) (sym (same b 34 quote)) refl
    by_quote false quote = by_backslash (b == 92) refl quote

-- ---- a text in quotes

spelled_read : (n : ℕ) (text rest : List ℕ) → read_string plain (spelled n text ++ 34 ∷ rest) ≡ Some (shown_text text, rest)
spelled_read n [] rest = refl
spelled_read n (b ∷ bs) rest = by_fold (is_long n b) (λ m. spelled_read m bs rest)
  where
    one : (m : ℕ) → read_string plain (spelled m bs ++ 34 ∷ rest) ≡ Some (shown_text bs, rest)
        → read_string plain ((spell b ++ spelled m bs) ++ 34 ∷ rest) ≡ Some (shown_text (b ∷ bs), rest)
    one m others =
        ap (read_string plain) (append_assoc (spell b) (spelled m bs) (34 ∷ rest))
        ∙ byte_read b (spelled m bs ++ 34 ∷ rest)
        ∙ ap (onto (shown b)) others

    by_fold : (folded : Bool) → ((m : ℕ) → read_string plain (spelled m bs ++ 34 ∷ rest) ≡ Some (shown_text bs, rest))
        → read_string plain ((fold folded ++ (spell b ++ spelled (row_after folded n) bs)) ++ 34 ∷ rest) ≡ Some (shown_text (b ∷ bs), rest)
    by_fold false others = one (suc n) (others (suc n))
    by_fold true others = one 1 (others 1)

pub quoted_texts_are_read : QuotedTextsAreRead
quoted_texts_are_read text rest =
    ap (λ (words : List ℕ). read_string plain words) (append_assoc (spelled 0 text) (34 ∷ []) rest) ∙ spelled_read 0 text rest

-- ---- a text without control characters

shown_as_it_is : (b : ℕ) → nat_le 32 b ≡ true → shown b ≡ b ∷ []
shown_as_it_is b high = grind arith

pub plain_texts_are_shown : PlainTextsAreShown
plain_texts_are_shown [] h = refl
plain_texts_are_shown (b ∷ bs) h = grind (arith, shown_as_it_is b, plain_texts_are_shown bs)
