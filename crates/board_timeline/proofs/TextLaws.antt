-- The texts of a picture are those of its shapes.
use Rattle.std.proofs.Common.{◌≡◌, ◌==◌, ◌+◌, ◌<◌, ◌/◌, ◌%◌, ◌++◌, Some, ℕ, suc, zero, Bool, true, false, List, [], ◌∷◌, codes, decimal, nat_lt, if◌then◌else◌, refl, sym, subst, ap, ◌∙◌, append_assoc, arith}
use Rattle.std.specs.Fmt.{digits, digits_onto, digit_glyph}
use Rattle.std.specs.List.{flat_map}
use Rattle.board_timeline.proofs.ReadingLaws.{escaped_texts_are_read}
use Rattle.board_timeline.specs.Escaped.{escaped, shown_text}
use Rattle.board_timeline.specs.Looks.{font_class, look_class}
use Rattle.board_timeline.specs.Picture.{bar_begin, begin, end, label_begin, picture, place_text, shape_text, size_text, style_text, tag_text}
use Rattle.board_timeline.specs.Reading.{read_words}
use Rattle.board_timeline.specs.Texts.{are_tags, HasTexts, HasTextsOf, shapes_texts}
use Rattle.board_timeline.specs.declared.shape.Font.{Font}
use Rattle.board_timeline.specs.declared.shape.Frame.{Frame}
use Rattle.board_timeline.specs.declared.shape.ShapeKind.{ShapeKind}
use Rattle.board_timeline.specs.declared.shape.ShapeKind.TheVariants.{Bar, Label}
use Rattle.board_timeline.specs.declared.shape.Look.{Look}
use Rattle.board_timeline.specs.declared.shape.Shape.{Shape}

-- ---- bytes inside of a tag, after which it goes on

abbrev Inside : List ℕ → Type 0
Inside part = (rest : List ℕ) → are_tags true (part ++ rest) ≡ are_tags true rest

inside_both : (a b : List ℕ) → Inside a → Inside b → Inside (a ++ b)
inside_both a b first second rest = ap (are_tags true) (append_assoc a b rest) ∙ first (b ++ rest) ∙ second rest

inside_byte : (b : ℕ) (part : List ℕ) → (b == 60) ≡ false → (b == 62) ≡ false → Inside part → Inside (b ∷ part)
inside_byte b part less greater inside rest = rw (less, greater) (inside rest)

low_less : (d : ℕ) → d < 10 → (48 + d == 60) ≡ false
low_less d few = grind arith

low_greater : (d : ℕ) → d < 10 → (48 + d == 62) ≡ false
low_greater d few = grind arith

high_less : (d : ℕ) → (87 + d == 60) ≡ false
high_less d = grind arith

high_greater : (d : ℕ) → (87 + d == 62) ≡ false
high_greater d = grind arith

below_ten : (d : ℕ) → nat_lt d 10 ≡ true → d < 10
below_ten d h = grind arith

inside_glyph : (d : ℕ) (part : List ℕ) → Inside part → Inside (digit_glyph false d ∷ part)
inside_glyph d part inside = by_size (nat_lt d 10) refl
  where
    by_size : (low : Bool) → nat_lt d 10 ≡ low → Inside ((if low then 48 + d else 87 + d) ∷ part)
    by_size true h = inside_byte (48 + d) part (low_less d (below_ten d h)) (low_greater d (below_ten d h)) inside
    by_size false h = inside_byte (87 + d) part (high_less d) (high_greater d) inside

inside_digits : (k n : ℕ) (others : List ℕ) → Inside others → Inside (digits_onto k 10 false n others)
inside_digits zero n others inside = inside
inside_digits (suc k) n others inside = by_last (n / 10 == 0) (inside_digits k (n / 10))
  where
    more : Inside (digit_glyph false (n % 10) ∷ others)
    more = inside_glyph (n % 10) others inside

    by_last : (last : Bool) → ((after : List ℕ) → Inside after → Inside (digits_onto k 10 false (n / 10) after))
        → Inside (if last then digit_glyph false (n % 10) ∷ others else digits_onto k 10 false (n / 10) (digit_glyph false (n % 10) ∷ others))
    by_last true next = more
    by_last false next = next (digit_glyph false (n % 10) ∷ others) more

nothing : Inside []
nothing rest = refl

inside_number : (n : ℕ) → Inside (decimal n)
unfolding digits
inside_number n = inside_digits 64 n [] nothing

-- ---- what stands before and after the text of a shape

inside_look : (l : Look) → Inside (look_class l)
inside_look Look.Lane rest = refl
inside_look Look.Line rest = refl
inside_look Look.Waiting rest = refl
inside_look Look.Admitted rest = refl
inside_look Look.Going rest = refl
inside_look Look.Calling rest = refl
inside_look Look.Success rest = refl
inside_look Look.Failure rest = refl
inside_look Look.Passed rest = refl
inside_look Look.Cancelled rest = refl
inside_look Look.Skipped rest = refl
inside_look Look.Told rest = refl
inside_look Look.Displaced rest = refl

inside_font : (f : Font) → Inside (font_class f)
inside_font Font.Run rest = refl
inside_font Font.Job rest = refl
inside_font Font.Leg rest = refl
inside_font Font.Note rest = refl

inside_place : (left top : ℕ) → Inside (place_text left top)
inside_place left top =
    inside_both (codes "\" x=\"" ++ decimal left) (codes "\" y=\"" ++ decimal top)
    (inside_both (codes "\" x=\"") (decimal left) (λ rest. refl) (inside_number left))
    (inside_both (codes "\" y=\"") (decimal top) (λ rest. refl) (inside_number top))

inside_size : (width height : ℕ) → Inside (size_text width height)
inside_size width height =
    inside_both (codes "\" width=\"" ++ decimal width) (codes "\" height=\"" ++ decimal height)
    (inside_both (codes "\" width=\"") (decimal width) (λ rest. refl) (inside_number width))
    (inside_both (codes "\" height=\"") (decimal height) (λ rest. refl) (inside_number height))

bar_tags : (class : List ℕ) (frame : Frame) → Inside class → are_tags false (bar_begin class frame) ≡ true
bar_tags class frame inside =
    let place = place_text frame.left frame.top in
    let size = size_text frame.width frame.height in
    let close = codes "\"><title>" in
    let open_tag = codes "<rect class=\"" in
    ap (are_tags false) (append_assoc ((open_tag ++ class) ++ place) size close
    ∙ append_assoc (open_tag ++ class) place (size ++ close)
    ∙ append_assoc open_tag class (place ++ (size ++ close)))
    ∙ inside (place ++ (size ++ close)) ∙ inside_place frame.left frame.top (size ++ close) ∙ inside_size frame.width frame.height close

label_tags : (class : List ℕ) (frame : Frame) → Inside class → are_tags false (label_begin class frame) ≡ true
label_tags class frame inside =
    let place = place_text frame.left frame.top in
    let close = codes "\">" in
    let open_tag = codes "<text class=\"" in
    ap (are_tags false) (append_assoc (open_tag ++ class) place close ∙ append_assoc open_tag class (place ++ close))
    ∙ inside (place ++ close) ∙ inside_place frame.left frame.top close

begin_tags : (kind : ShapeKind) (frame : Frame) → are_tags false (begin kind frame) ≡ true
begin_tags (Bar l) frame = bar_tags (look_class l) frame (inside_look l)
begin_tags (Label f) frame = label_tags (font_class f) frame (inside_font f)

-- what follows the text of a shape begins with a tag
abbrev Follows : List ℕ → Type 0
Follows part = (ts : List (List ℕ)) (rest : List ℕ) → HasTexts ts rest → HasTexts ts (part ++ rest)

follows_tags : (part : List ℕ) → ((rest : List ℕ) → are_tags false (part ++ rest) ≡ are_tags false rest) → Follows part
follows_tags part closed [] rest has = closed rest ∙ has
follows_tags part closed (t ∷ ts) rest has = record {
  before = part ++ has.before;
  from = has.from;
  after = has.after;
  whole = ap (λ (text : List ℕ). part ++ text) has.whole ∙ sym (append_assoc part has.before has.from);
  tags = closed has.before ∙ has.tags;
  read = has.read;
  rest = has.rest;
}

end_follows : (kind : ShapeKind) → Follows (end kind)
end_follows (Bar l) = follows_tags (end (Bar l)) (λ rest. refl)
end_follows (Label f) = follows_tags (end (Label f)) (λ rest. refl)

-- the end of a shape without its first byte, which begins a tag
abbrev end_rest : ShapeKind → List ℕ
end_rest (Bar l) = codes "/title></rect>\n"
end_rest (Label f) = codes "/text>\n"

end_begins : (kind : ShapeKind) → end kind ≡ 60 ∷ end_rest kind
end_begins (Bar l) = refl
end_begins (Label f) = refl

-- ---- shapes

shape_has : (shape : Shape) (ts : List (List ℕ)) (rest : List ℕ) → HasTexts ts rest → HasTexts (shown_text shape.text ∷ ts) (shape_text shape ++ rest)
shape_has shape ts rest has = record {
  before = begin shape.kind shape.frame;
  from = escaped shape.text ++ (end shape.kind ++ rest);
  after = end shape.kind ++ rest;
  whole = append_assoc (begin shape.kind shape.frame ++ escaped shape.text) (end shape.kind) rest
      ∙ append_assoc (begin shape.kind shape.frame) (escaped shape.text) (end shape.kind ++ rest);
  tags = begin_tags shape.kind shape.frame;
  read = subst (λ (back : List ℕ). read_words (escaped shape.text ++ (back ++ rest)) ≡ Some (shown_text shape.text, back ++ rest))
      (sym (end_begins shape.kind)) (escaped_texts_are_read shape.text (end_rest shape.kind ++ rest));
  rest = end_follows shape.kind ts rest has;
}

shapes_have : (shapes : List Shape) (rest : List ℕ) → HasTexts [] rest → HasTexts (shapes_texts shapes) (flat_map shape_text shapes ++ rest)
shapes_have [] rest has = has
shapes_have (shape ∷ shapes) rest has =
    subst (λ (text : List ℕ). HasTexts (shapes_texts (shape ∷ shapes)) text) (sym (append_assoc (shape_text shape) (flat_map shape_text shapes) rest))
    (shape_has shape (shapes_texts shapes) (flat_map shape_text shapes ++ rest) (shapes_have shapes rest has))

pub pictures_have_their_texts : (width height : ℕ) (shapes : List Shape) → HasTextsOf width height shapes (picture width height shapes)
pictures_have_their_texts width height shapes = record {
  body = flat_map shape_text shapes ++ codes "</svg>\n";
  whole = append_assoc (tag_text width height ++ style_text) (flat_map shape_text shapes) (codes "</svg>\n");
  texts = shapes_have shapes (codes "</svg>\n") refl;
}
