-- Texts with expressions in them.
use Rattle.std.specs.Prelude.{◌≡◌, ◌≢◌, ℕ, suc, ◌≤◌, Bool, true, false, not, ◌&&◌, ◌||◌, ◌==◌, nat_eq, if◌then◌else◌, Option, Some, None, List, [], ◌∷◌, ◌++◌, length, take, ◌-◌, codes}
use Rattle.std.specs.List.{list_any, starts_with, suffix_len}
use Rattle.std.specs.Option.{option_map}
use Rattle.expr_reader.specs.Bytes.{is_white, skip_white}
use Rattle.expr_reader.specs.Codes.{quote}
use Rattle.expr_reader.specs.Expr.{Expr, Exprs, literal, context, call, group, property, index, wildcard, opposite, relation, equality, both, either, none, more}
use Rattle.expr_reader.specs.Spells.{Spells}
use Rattle.expr_reader.specs.Sizes.{longest_template}
use Rattle.expr_reader.specs.declared.tree.Function.{Function}
use Rattle.expr_reader.specs.declared.tree.Function.TheVariants.{Contains, StartsWith, EndsWith, Format, Join, ToJson, FromJson, Success, Failure, Cancelled, Always}

-- A piece of a template: plain text, or a marked expression.
pub data Piece : Type 0 where
  plain : List ℕ → Piece
  marked : Expr → Piece

-- ${{ stands at the front.
abbrev pub begins_mark : List ℕ → Bool
begins_mark bs = starts_with nat_eq bs (codes "${{")

-- ${{ stands anywhere.
abbrev pub has_marker : List ℕ → Bool
has_marker [] = false
has_marker (b ∷ bs) = begins_mark (b ∷ bs) || has_marker bs

-- What stands before a ${{ of the text, and what follows it.
pub record HoldsMarker (text : List ℕ) : Type 0 where
  pub before : List ℕ
  pub after : List ℕ
  pub same : text ≡ before ++ (codes "${{" ++ after)

-- }} stands at the front.
abbrev pub begins_end : List ℕ → Bool
begins_end bs = starts_with nat_eq bs (codes "}}")

-- Whether a quote is open after a byte.
abbrev pub open_after : Bool → ℕ → Bool
open_after quoted b = if b == quote then not quoted else quoted

-- How many bytes stand before the first }} outside quotes, if there is one. A quote may be open in front.
abbrev pub end_place : Bool → List ℕ → Option ℕ
end_place quoted [] = None
end_place quoted (b ∷ bs) =
    if not quoted && begins_end (b ∷ bs) then Some 0
    else option_map suc (end_place (open_after quoted b) bs)

-- The end, or ${{.
abbrev pub EndsPlain : List ℕ → Type 0
EndsPlain [] = Unit {0}
EndsPlain (b ∷ bs) = begins_mark (b ∷ bs) ≡ true

-- Plain text up to the first ${{ or the end, with what follows it.
pub record IsPlain (p rest : List ℕ) : Type 0 where
  pub some : p ≢ []
  pub unmarked : has_marker p ≡ false
  pub ends : EndsPlain rest

-- The text begins with an expression between ${{ and the first }} outside quotes, and then the rest follows.
pub record IsMarked (text : List ℕ) (e : Expr) (rest : List ℕ) : Type 0 where
  pub inside : List ℕ
  pub same : text ≡ codes "${{" ++ (inside ++ (codes "}}" ++ rest))
  pub first : end_place false (inside ++ (codes "}}" ++ rest)) ≡ Some (length inside)
  pub spelled : Spells e inside

-- The text begins with these pieces, and then the rest follows.
abbrev pub Pieces : List ℕ → List Piece → List ℕ → Type 0
Pieces text [] rest = text ≡ rest
Pieces text (plain p ∷ ps) rest =
    (after : List ℕ) × IsPlain p after × (text ≡ p ++ after) × Pieces after ps rest
Pieces text (marked e ∷ ps) rest =
    (after : List ℕ) × IsMarked text e after × Pieces after ps rest

-- success, failure, cancelled and always are the status functions.
abbrev pub is_status : Function → Bool
is_status Contains = false
is_status StartsWith = false
is_status EndsWith = false
is_status Format = false
is_status Join = false
is_status ToJson = false
is_status FromJson = false
is_status Success = true
is_status Failure = true
is_status Cancelled = true
is_status Always = true

abbrev mutual
  -- An expression calls a status function anywhere.
  pub expr_names_status : Expr → Bool
  expr_names_status (literal l) = false
  expr_names_status (context c) = false
  expr_names_status (call f es) = is_status f || any_names_status es
  expr_names_status (group e) = expr_names_status e
  expr_names_status (property e name) = expr_names_status e
  expr_names_status (index e i) = expr_names_status e || expr_names_status i
  expr_names_status (wildcard w e) = expr_names_status e
  expr_names_status (opposite e) = expr_names_status e
  expr_names_status (relation r a b) = expr_names_status a || expr_names_status b
  expr_names_status (equality q a b) = expr_names_status a || expr_names_status b
  expr_names_status (both es) = any_names_status es
  expr_names_status (either es) = any_names_status es

  pub any_names_status : Exprs → Bool
  any_names_status none = false
  any_names_status (more e es) = expr_names_status e || any_names_status es

abbrev pub piece_names_status : Piece → Bool
piece_names_status (plain p) = false
piece_names_status (marked e) = expr_names_status e

-- A template calls a status function anywhere.
abbrev pub names_status : List Piece → Bool
names_status ps = list_any piece_names_status ps

-- The text spells the template: it is these pieces, of which none names a status function, and has at
-- most 1,048,576 bytes.
pub record SpellsTemplate (ps : List Piece) (text : List ℕ) : Type 0 where
  pub short : length text ≤ longest_template
  pub pieces : Pieces text ps []
  pub plain_status : names_status ps ≡ false

-- The text is a template.
abbrev pub IsTemplate : List ℕ → Type 0
IsTemplate text = (ps : List Piece) × SpellsTemplate ps text

-- The text without the white space at its end.
abbrev pub trimmed_end : List ℕ → List ℕ
trimmed_end text = take (length text - suffix_len is_white text) text

-- The text without the white space at its start and its end.
abbrev pub trimmed : List ℕ → List ℕ
trimmed text = trimmed_end (skip_white text)

-- A condition without ${{ is one expression, with it a template that may name status functions.
abbrev pub SpellsTrimmed : Bool → List Piece → List ℕ → Type 0
SpellsTrimmed true ps text = (length text ≤ longest_template) × Pieces text ps []
SpellsTrimmed false ps text = (e : Expr) × (ps ≡ marked e ∷ []) × Spells e text

-- The text spells the condition, which is taken trimmed.
abbrev pub SpellsCondition : List Piece → List ℕ → Type 0
SpellsCondition ps text = SpellsTrimmed (has_marker (trimmed text)) ps (trimmed text)

-- The text is a condition.
abbrev pub IsCondition : List ℕ → Type 0
IsCondition text = (ps : List Piece) × SpellsCondition ps text
