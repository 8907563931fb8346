-- The contexts that an expression names, on which alone its value depends.
use Rattle.std.specs.Prelude.{◌≡◌, Bool, true, false, ◌||◌, List}
use Rattle.std.specs.Cmp.Lexicographic.{slice_cmp}
use Rattle.std.specs.List.{list_any}
use Rattle.std.specs.Ordering.{nat_cmp, is_eq}
use Rattle.expr_reader.specs.Expr.{Expr, Exprs, literal, context, call, group, property, index, wildcard, opposite, relation, equality, both, either, none, more}
use Rattle.expr_reader.specs.Names.{context_name}
use Rattle.expr_reader.specs.Template.{Piece, plain, marked}
use Rattle.expr_reader.specs.declared.tree.Context.{Context}
use Rattle.expr_value.specs.Context.{Contexts, context_value}

-- Two contexts have one name.
abbrev pub is_same_context : Context → Context → Bool
is_same_context x y = is_eq (slice_cmp nat_cmp (context_name x) (context_name y))

abbrev mutual
  -- An expression names a context anywhere.
  pub expr_names_context : Context → Expr → Bool
  expr_names_context x (literal l) = false
  expr_names_context x (context y) = is_same_context x y
  expr_names_context x (call f es) = any_names_context x es
  expr_names_context x (group e) = expr_names_context x e
  expr_names_context x (property e name) = expr_names_context x e
  expr_names_context x (index e i) = expr_names_context x e || expr_names_context x i
  expr_names_context x (wildcard w e) = expr_names_context x e
  expr_names_context x (opposite e) = expr_names_context x e
  expr_names_context x (relation r a b) = expr_names_context x a || expr_names_context x b
  expr_names_context x (equality q a b) = expr_names_context x a || expr_names_context x b
  expr_names_context x (both es) = any_names_context x es
  expr_names_context x (either es) = any_names_context x es

  -- One of several expressions does.
  pub any_names_context : Context → Exprs → Bool
  any_names_context x none = false
  any_names_context x (more e es) = expr_names_context x e || any_names_context x es

-- A piece of a template does.
abbrev pub piece_names_context : Context → Piece → Bool
piece_names_context x (plain bytes) = false
piece_names_context x (marked e) = expr_names_context x e

-- A template names a context anywhere.
abbrev pub pieces_name_context : Context → List Piece → Bool
pieces_name_context x ps = list_any (piece_names_context x) ps

-- Two maps of contexts give one value for each context that passes a test.
abbrev pub AgreeOn : (Context → Bool) → Contexts → Contexts → Type 0
AgreeOn named c d = (x : Context) → named x ≡ true → context_value c x ≡ context_value d x
