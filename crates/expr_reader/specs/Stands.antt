-- When a fault stands at a place of a text.
use Rattle.std.specs.Prelude.{◌≡◌, ◌≢◌, ℕ, Bool, true, false, ◌+◌, ◌≤◌, List, [], ◌∷◌, ◌++◌, length}
use Rattle.expr_reader.specs.Bytes.{is_white, IsRun, Stops}
use Rattle.expr_reader.specs.Expr.{null, truth, whole, quoted, Expr, depth}
use Rattle.expr_reader.specs.Grammar.{Token, constant, root, callee, name, relational, equational, mark, tokens, Shaped, Formed}
use Rattle.expr_reader.specs.Spelling.{Begins}
use Rattle.expr_reader.specs.Sizes.{greatest_depth}
use Rattle.expr_reader.specs.Wrong.{Wrong, Blocks}
use Rattle.expr_reader.specs.declared.fault.Fault.{Fault}
use Rattle.expr_reader.specs.declared.token.Mark.TheVariants.{Dot}

-- A dot stands before the token, or none does: a name after a dot is a property's, and only there.
abbrev pub Fits : Bool → Token → Type 0
Fits dotted (constant null) = dotted ≡ false
Fits dotted (constant (truth b)) = dotted ≡ false
Fits dotted (constant (whole z)) = Unit {0}
Fits dotted (constant (quoted q)) = Unit {0}
Fits dotted (root c) = dotted ≡ false
Fits dotted (callee f) = dotted ≡ false
Fits dotted (name w) = dotted ≡ true
Fits dotted (relational r) = Unit {0}
Fits dotted (equational q) = Unit {0}
Fits dotted (mark m) = Unit {0}

abbrev pub is_dot : Token → Bool
is_dot (mark Dot) = true
is_dot t = false

-- Whether the last of the tokens is a dot.
abbrev pub ends_dotted : List Token → Bool
ends_dotted [] = false
ends_dotted (t ∷ []) = is_dot t
ends_dotted (t ∷ u ∷ ts) = ends_dotted (u ∷ ts)

-- The text, before which a dot stands or none, begins with these tokens and white space, and then the rest
-- follows.
abbrev pub Leads : Bool → List ℕ → List Token → List ℕ → Type 0
Leads dotted text [] rest = (white : List ℕ) × IsRun is_white white × (text ≡ white ++ rest)
Leads dotted text (t ∷ ts) rest =
    (after : List ℕ) × Begins text t after × Fits dotted t × Leads (is_dot t) after ts rest

-- No tree within the limits has tokens that begin so.
abbrev pub BeginNoTree : List Token → Type 0
BeginNoTree ts =
    (e : Expr) (later : List Token) → Shaped e → depth e ≤ greatest_depth → tokens e ≢ ts ++ later

-- No tree begins so, however deep it is and however many arguments its calls have.
abbrev pub BeginNoFormed : List Token → Type 0
BeginNoFormed ts = (e : Expr) (later : List Token) → Formed e → tokens e ≢ ts ++ later

-- The tokens are those of no such tree.
abbrev pub AreNoFormed : List Token → Type 0
AreNoFormed ts = (e : Expr) → Formed e → tokens e ≢ ts

-- No token that the rest of a text begins with goes on with a tree after these tokens.
abbrev pub GoesOnNoTree : List Token → List ℕ → Type 0
GoesOnNoTree before rest =
    (t : Token) (after : List ℕ) → Begins rest t after → BeginNoTree (before ++ t ∷ [])

-- The text begins with no token that fits.
abbrev pub BeginsNone : Bool → List ℕ → Type 0
BeginsNone dotted text = (t : Token) (after : List ℕ) → Begins text t after → Fits dotted t → ⊥

-- The fault stands before the rest of a text, after these tokens: no token that fits after them comes
-- next, or one with which something is wrong, and none that comes goes on with a tree; or the end comes,
-- and the tokens are no tree's.
pub data Stands (f : Fault) (before : List Token) (rest : List ℕ) : Type 0 where
  at_bytes :
      Blocks rest f → BeginsNone (ends_dotted before) rest → GoesOnNoTree before rest
      → Stands f before rest
  at_token :
      (t : Token) (after : List ℕ) → Begins rest t after → Fits (ends_dotted before) t
      → GoesOnNoTree before rest
      → Wrong (BeginNoFormed (before ++ t ∷ [])) (before ++ t ∷ []) f
      → Stands f before rest
  at_end :
      rest ≡ [] → ((e : Expr) → Shaped e → depth e ≤ greatest_depth → tokens e ≢ before)
      → Wrong (AreNoFormed before) before f
      → Stands f before rest

-- The fault stands at a place of the text, which is the number of bytes before it, white space included.
pub record StandsAt (f : Fault) (text : List ℕ) (place : ℕ) : Type 0 where
  pub before : List Token
  pub rest : List ℕ
  pub leads : Leads false text before rest
  pub bare : Stops is_white rest
  pub here : place + length rest ≡ length text
  pub stands : Stands f before rest
