-- The texts of a picture: those of its bars and labels, which are all that stands between its tags.
use Rattle.std.specs.Prelude.{◌≡◌, ◌==◌, ◌++◌, ℕ, Bool, true, false, if◌then◌else◌, List, [], ◌∷◌, map, Some}
use Rattle.board_timeline.specs.Escaped.{shown_text}
use Rattle.board_timeline.specs.Picture.{style_text, tag_text}
use Rattle.board_timeline.specs.Reading.{read_words}
use Rattle.board_timeline.specs.declared.shape.Shape.{Shape}

-- ---- the texts of any markup

-- Bytes are tags, each from a `<` to the next `>`, with nothing between them but ends of lines: whether they are, from inside a
-- tag or outside of one.
abbrev pub are_tags : Bool → List ℕ → Bool
are_tags true [] = false
are_tags false [] = true
are_tags true (b ∷ bs) = if b == 60 then false else (if b == 62 then are_tags false bs else are_tags true bs)
are_tags false (b ∷ bs) = if b == 60 then are_tags true bs else (if b == 10 then are_tags false bs else false)

-- Before its first text bytes have these tags; the text that begins there is read as s, and of what follows it that is so.
pub record NextText (s : List ℕ) (Is : List ℕ → Type 0) (bytes : List ℕ) : Type 0 where
  pub before : List ℕ
  pub from : List ℕ
  pub after : List ℕ
  pub whole : bytes ≡ before ++ from
  pub tags : are_tags false before ≡ true
  pub read : read_words from ≡ Some (s, after)
  pub rest : Is after

-- The texts of bytes are read as these, one after the other, and besides them there are only tags.
abbrev pub HasTexts : List (List ℕ) → List ℕ → Type 0
HasTexts [] bytes = are_tags false bytes ≡ true
HasTexts (s ∷ ss) bytes = NextText s (HasTexts ss) bytes

-- ---- those of a picture

-- The texts of shapes, as they are shown.
abbrev pub shapes_texts : List Shape → List (List ℕ)
shapes_texts shapes = map (λ shape. shown_text shape.text) shapes

-- After its first tag and its style, in which no text of a shape stands, the texts of a picture are those of its shapes.
pub record HasTextsOf (width height : ℕ) (shapes : List Shape) (text : List ℕ) : Type 0 where
  pub body : List ℕ
  pub whole : text ≡ (tag_text width height ++ style_text) ++ body
  pub texts : HasTexts (shapes_texts shapes) body
