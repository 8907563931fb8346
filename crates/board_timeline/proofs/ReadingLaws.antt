-- A text between tags is read as that text.
use Rattle.std.proofs.Common.{◌≡◌, ◌==◌, ◌+◌, ◌≤◌, ◌<◌, ◌&&◌, ◌||◌, ◌++◌, ℕ, Bool, true, false, List, [], ◌∷◌, Some, None, nat_le, nat_lt, if◌then◌else◌, refl, sym, subst, ap, ◌∙◌, append_assoc, arith}
use Rattle.std.specs.List.{list_all}
use Rattle.board_timeline.specs.Escaped.{escaped_after, is_forbidden, picture, seen_after, shown, shown_after, shown_next, spell, spell_next}
use Rattle.board_timeline.specs.Reading.{plain, Read, onto, read_text, EscapedTextsAreRead, PlainTextsAreShown}

-- three bytes, one after the other, stand before the rest together
three_bytes : (a b c : ℕ) (read : Read) → onto (a ∷ []) (onto (b ∷ []) (onto (c ∷ []) read)) ≡ onto (a ∷ b ∷ c ∷ []) read
three_bytes a b c None = refl
three_bytes a b c (Some read) = refl

-- bytes that are equal by the test are equal
same : (b c : ℕ) → (b == c) ≡ true → b ≡ c
same b c h = grind arith

and_false : (t : Bool) → (t && false) ≡ false
and_false true = refl
and_false false = refl

and_left : (s t : Bool) → (s && t) ≡ true → s ≡ true
and_left true t h = refl
and_left false t h = h

and_right : (s t : Bool) → (s && t) ≡ true → t ≡ true
and_right true t h = h
and_right false t h = and_right_no t h
  where
    and_right_no : (t : Bool) → false ≡ true → t ≡ true
    and_right_no true h = refl
    and_right_no false h = h

none_left : (t : Bool) (n : ℕ) → (if t && false then n else 0) ≡ 0
none_left true n = refl
none_left false n = refl

-- ---- bytes that are no part of a character that XML forbids

free : (seen b : ℕ) → (b == 190) ≡ false → (b == 191) ≡ false → is_forbidden seen b ≡ false
free seen b first second = rw (first, second) (and_false (seen == 2))

unseen : (seen b : ℕ) → (b == 239) ≡ false → (b == 191) ≡ false → seen_after seen b ≡ 0
unseen seen b first second = rw (first, second) (none_left (seen == 1) 2)

-- ---- what is read of a byte that stands for itself

other_byte : (seen b : ℕ) (more : List ℕ) → (b == 60) ≡ false → (b == 62) ≡ false → (b == 38) ≡ false → nat_lt b 32 ≡ false → is_forbidden seen b ≡ false
    → read_text (plain seen) (b ∷ more) ≡ onto (b ∷ []) (read_text (plain (seen_after seen b)) more)
other_byte seen b more less greater ampersand high allowed = rw (less, greater, ampersand, high, allowed) refl

-- what is read of a byte after which nothing of a forbidden character was seen
lone_byte : (seen b : ℕ) (more : List ℕ) → (b == 60) ≡ false → (b == 62) ≡ false → (b == 38) ≡ false → nat_lt b 32 ≡ false
    → (b == 190) ≡ false → (b == 191) ≡ false → (b == 239) ≡ false
    → read_text (plain seen) (b ∷ more) ≡ onto (b ∷ []) (read_text (plain 0) more)
lone_byte seen b more less greater ampersand high first second third =
    other_byte seen b more less greater ampersand high (free seen b first second)
    ∙ ap (λ (n : ℕ). onto (b ∷ []) (read_text (plain n) more)) (unseen seen b third second)

is_other : (b c : ℕ) → b < c → (b == c) ≡ false
is_other b c below = grind arith

is_more : (b c : ℕ) → c < b → (b == c) ≡ false
is_more b c above = grind arith

is_high : (b : ℕ) → 32 ≤ b → nat_lt b 32 ≡ false
is_high b above = grind arith

-- the last byte of a picture
last_of_picture : (n : ℕ) (more : List ℕ) → n < 34 → read_text (plain 0) ((128 + n) ∷ more) ≡ onto ((128 + n) ∷ []) (read_text (plain 0) more)
last_of_picture n more few =
    lone_byte 0 (128 + n) more (is_more (128 + n) 60 (omega arith)) (is_more (128 + n) 62 (omega arith)) (is_more (128 + n) 38 (omega arith))
    (is_high (128 + n) (omega arith)) (is_other (128 + n) 190 (omega (arith, few))) (is_other (128 + n) 191 (omega (arith, few)))
    (is_other (128 + n) 239 (omega (arith, few)))

picture_read : (seen n : ℕ) (more : List ℕ) → n < 34
    → read_text (plain seen) (226 ∷ 144 ∷ (128 + n) ∷ more) ≡ onto (226 ∷ 144 ∷ (128 + n) ∷ []) (read_text (plain 0) more)
picture_read seen n more few =
    lone_byte seen 226 (144 ∷ (128 + n) ∷ more) refl refl refl refl refl refl refl
    ∙ ap (onto (226 ∷ [])) (lone_byte 0 144 ((128 + n) ∷ more) refl refl refl refl refl refl refl)
    ∙ ap (λ (read : Read). onto (226 ∷ []) (onto (144 ∷ []) read)) (last_of_picture n more few)
    ∙ three_bytes 226 144 (128 + n) (read_text (plain 0) more)

-- ---- a byte as it is spelled

abbrev Spelled : ℕ → ℕ → List ℕ → Type 0
Spelled seen b more = read_text (plain seen) (spell b ++ more) ≡ onto (shown b) (read_text (plain (seen_after seen b)) more)

-- nothing of a forbidden character was seen after this byte
after : (seen b : ℕ) (more : List ℕ) → (b == 239) ≡ false → (b == 191) ≡ false
    → onto (shown b) (read_text (plain 0) more) ≡ onto (shown b) (read_text (plain (seen_after seen b)) more)
after seen b more third second = ap (λ (n : ℕ). onto (shown b) (read_text (plain n) more)) (sym (unseen seen b third second))

-- a byte that has a name
less_read : (seen : ℕ) (more : List ℕ) → Spelled seen 60 more
less_read seen more = after seen 60 more refl refl

greater_read : (seen : ℕ) (more : List ℕ) → Spelled seen 62 more
greater_read seen more = after seen 62 more refl refl

ampersand_read : (seen : ℕ) (more : List ℕ) → Spelled seen 38 more
ampersand_read seen more = after seen 38 more refl refl

quote_read : (seen : ℕ) (more : List ℕ) → Spelled seen 34 more
quote_read seen more = after seen 34 more refl refl

apostrophe_read : (seen : ℕ) (more : List ℕ) → Spelled seen 39 more
apostrophe_read seen more = after seen 39 more refl refl

delete_read : (seen : ℕ) (more : List ℕ) → Spelled seen 127 more
delete_read seen more = picture_read seen 33 more (omega arith) ∙ after seen 127 more refl refl

below : (b c : ℕ) → nat_lt b c ≡ true → b < c
below b c h = grind arith

-- a control character
control_read : (seen b : ℕ) (more : List ℕ) → (b == 60) ≡ false → (b == 62) ≡ false → (b == 38) ≡ false → (b == 34) ≡ false → (b == 39) ≡ false
    → nat_lt b 32 ≡ true → Spelled seen b more
control_read seen b more less greater ampersand quote apostrophe low =
    rw (less, greater, ampersand, quote, apostrophe, low)
    (picture_read seen b more (omega (arith, below b 32 low))
    ∙ ap (λ (n : ℕ). onto (picture b) (read_text (plain n) more))
    (sym (unseen seen b (is_other b 239 (omega (arith, below b 32 low))) (is_other b 191 (omega (arith, below b 32 low))))))

-- any other
plain_read : (seen b : ℕ) (more : List ℕ) → (b == 60) ≡ false → (b == 62) ≡ false → (b == 38) ≡ false → (b == 34) ≡ false → (b == 39) ≡ false
    → nat_lt b 32 ≡ false → (b == 127) ≡ false → is_forbidden seen b ≡ false → Spelled seen b more
plain_read seen b more less greater ampersand quote apostrophe high delete allowed =
    rw (less, greater, ampersand, quote, apostrophe, high, delete) (other_byte seen b more less greater ampersand high allowed)

byte_read : (seen b : ℕ) (more : List ℕ) → is_forbidden seen b ≡ false → Spelled seen b more
byte_read seen b more allowed = by_less (b == 60) refl
  where
    at : (c : ℕ) → (b == c) ≡ true → Spelled seen c more → Spelled seen b more
    at c is read = subst (λ (d : ℕ). Spelled seen d more) (sym (same b c is)) read

    by_delete : (is : Bool) → (b == 127) ≡ is → (b == 60) ≡ false → (b == 62) ≡ false → (b == 38) ≡ false → (b == 34) ≡ false → (b == 39) ≡ false
        → nat_lt b 32 ≡ false → Spelled seen b more
    by_delete true delete less greater ampersand quote apostrophe high = at 127 delete (delete_read seen more)
    by_delete false delete less greater ampersand quote apostrophe high =
        plain_read seen b more less greater ampersand quote apostrophe high delete allowed

    by_control : (is : Bool) → nat_lt b 32 ≡ is → (b == 60) ≡ false → (b == 62) ≡ false → (b == 38) ≡ false → (b == 34) ≡ false → (b == 39) ≡ false
        → Spelled seen b more
    by_control true low less greater ampersand quote apostrophe = control_read seen b more less greater ampersand quote apostrophe low
    by_control false high less greater ampersand quote apostrophe = by_delete (b == 127) refl less greater ampersand quote apostrophe high

    by_apostrophe : (is : Bool) → (b == 39) ≡ is → (b == 60) ≡ false → (b == 62) ≡ false → (b == 38) ≡ false → (b == 34) ≡ false → Spelled seen b more
    by_apostrophe true apostrophe less greater ampersand quote = at 39 apostrophe (apostrophe_read seen more)
    by_apostrophe false apostrophe less greater ampersand quote = by_control (nat_lt b 32) refl less greater ampersand quote apostrophe

    by_quote : (is : Bool) → (b == 34) ≡ is → (b == 60) ≡ false → (b == 62) ≡ false → (b == 38) ≡ false → Spelled seen b more
    by_quote true quote less greater ampersand = at 34 quote (quote_read seen more)
    by_quote false quote less greater ampersand = by_apostrophe (b == 39) refl less greater ampersand quote

    by_ampersand : (is : Bool) → (b == 38) ≡ is → (b == 60) ≡ false → (b == 62) ≡ false → Spelled seen b more
    by_ampersand true ampersand less greater = at 38 ampersand (ampersand_read seen more)
    by_ampersand false ampersand less greater = by_quote (b == 34) refl less greater ampersand

    by_greater : (is : Bool) → (b == 62) ≡ is → (b == 60) ≡ false → Spelled seen b more
    by_greater true greater less = at 62 greater (greater_read seen more)
    by_greater false greater less = by_ampersand (b == 38) refl less greater

    by_less : (is : Bool) → (b == 60) ≡ is → Spelled seen b more
    by_less true less = at 60 less (less_read seen more)
    by_less false less = by_greater (b == 62) refl less

-- ---- the end of a character that XML forbids

abbrev Next : ℕ → ℕ → List ℕ → Type 0
Next seen b more = read_text (plain seen) (spell_next seen b ++ more) ≡ onto (shown_next seen b) (read_text (plain (seen_after seen b)) more)

forbidden_read : (seen b : ℕ) (more : List ℕ) → is_forbidden seen b ≡ true → Next seen b more
forbidden_read seen b more h = by_second (b == 190) refl
  where
    after_two : seen ≡ 2
    after_two = same seen 2 (and_left (seen == 2) (b == 190 || b == 191) h)

    at : (c : ℕ) → b ≡ c → Next 2 c more → Next seen b more
    at c is read = subst (λ (s : ℕ). Next s b more) (sym after_two) (subst (λ (d : ℕ). Next 2 d more) (sym is) read)

    by_second : (is : Bool) → (b == 190) ≡ is → Next seen b more
    by_second true is = at 190 (same b 190 is) refl
    by_second false other =
        at 191 (same b 191 (subst (λ (t : Bool). (t || b == 191) ≡ true) other (and_right (seen == 2) (b == 190 || b == 191) h))) refl

next_read : (seen b : ℕ) (more : List ℕ) → Next seen b more
next_read seen b more = by_forbidden (is_forbidden seen b) refl
  where
    by_forbidden : (is : Bool) → is_forbidden seen b ≡ is → Next seen b more
    by_forbidden true forbidden = forbidden_read seen b more forbidden
    by_forbidden false allowed = rw (allowed) (byte_read seen b more allowed)

-- ---- a text between tags

escaped_read : (seen : ℕ) (text rest : List ℕ) → read_text (plain seen) (escaped_after seen text ++ 60 ∷ rest) ≡ Some (shown_after seen text, 60 ∷ rest)
escaped_read seen [] rest = refl
escaped_read seen (b ∷ bs) rest =
    ap (read_text (plain seen)) (append_assoc (spell_next seen b) (escaped_after (seen_after seen b) bs) (60 ∷ rest))
    ∙ next_read seen b (escaped_after (seen_after seen b) bs ++ 60 ∷ rest)
    ∙ ap (onto (shown_next seen b)) (escaped_read (seen_after seen b) bs rest)

pub escaped_texts_are_read : EscapedTextsAreRead
escaped_texts_are_read text rest = escaped_read 0 text rest

-- ---- a text of printed characters of ASCII

printed_next : (b : ℕ) → nat_le 32 b && nat_lt b 127 ≡ true → shown_next 0 b ≡ b ∷ []
printed_next b h = grind arith

printed_after : (b : ℕ) → nat_le 32 b && nat_lt b 127 ≡ true → seen_after 0 b ≡ 0
printed_after b h = grind arith

pub plain_texts_are_shown : PlainTextsAreShown
plain_texts_are_shown [] h = refl
plain_texts_are_shown (b ∷ bs) h =
    let is = and_left (nat_le 32 b && nat_lt b 127) (list_all (λ c. nat_le 32 c && nat_lt c 127) bs) h in
    let others = and_right (nat_le 32 b && nat_lt b 127) (list_all (λ c. nat_le 32 c && nat_lt c 127) bs) h in
    ap (λ (first : List ℕ). first ++ shown_after (seen_after 0 b) bs) (printed_next b is)
    ∙ ap (λ (n : ℕ). b ∷ shown_after n bs) (printed_after b is)
    ∙ ap (λ (rest : List ℕ). b ∷ rest) (plain_texts_are_shown bs others)
