-- An expression as plain data, apart from where a tree lies in memory.
use Rattle.std.specs.Prelude.{ℕ, ℤ, suc, max, Bool, List, [], ◌∷◌}
use Rattle.expr_reader.specs.declared.tree.Context.{Context}
use Rattle.expr_reader.specs.declared.tree.Equality.{Equality}
use Rattle.expr_reader.specs.declared.tree.Function.{Function}
use Rattle.expr_reader.specs.declared.tree.Relation.{Relation}
use Rattle.expr_reader.specs.declared.tree.Wildcard.{Wildcard}

-- A value that an expression writes out; a text is its bytes.
pub data Constant : Type 0 where
  null : Constant
  truth : Bool → Constant
  whole : ℤ → Constant
  quoted : List ℕ → Constant

mutual
  -- An expression. A chain of && or of || is one node, and parentheses are a node.
  pub data Expr : Type 0 where
    literal : Constant → Expr
    context : Context → Expr
    call : Function → Exprs → Expr
    group : Expr → Expr
    property : Expr → List ℕ → Expr
    index : Expr → Expr → Expr
    wildcard : Wildcard → Expr → Expr
    opposite : Expr → Expr
    relation : Relation → Expr → Expr → Expr
    equality : Equality → Expr → Expr → Expr
    both : Exprs → Expr
    either : Exprs → Expr

  -- The arguments of a call, or the parts of a chain.
  pub data Exprs : Type 0 where
    none : Exprs
    more : Expr → Exprs → Exprs

-- The arguments or parts in a list.
abbrev pub exprs_of : List Expr → Exprs
exprs_of [] = none
exprs_of (e ∷ es) = more e (exprs_of es)

-- How many there are.
abbrev pub count : Exprs → ℕ
count none = 0
count (more e es) = suc (count es)

abbrev mutual
  -- A literal and a context have depth 1, every other node one more than its deepest part.
  pub depth : Expr → ℕ
  depth (literal l) = 1
  depth (context c) = 1
  depth (call f es) = suc (deepest es)
  depth (group e) = suc (depth e)
  depth (property e name) = suc (depth e)
  depth (index e i) = suc (max (depth e) (depth i))
  depth (wildcard w e) = suc (depth e)
  depth (opposite e) = suc (depth e)
  depth (relation r a b) = suc (max (depth a) (depth b))
  depth (equality q a b) = suc (max (depth a) (depth b))
  depth (both es) = suc (deepest es)
  depth (either es) = suc (deepest es)

  -- The depth of the deepest, 0 where there is none.
  pub deepest : Exprs → ℕ
  deepest none = 0
  deepest (more e es) = max (depth e) (deepest es)
