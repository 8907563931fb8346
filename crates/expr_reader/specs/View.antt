-- The expression that a tree stands for.
use Rattle.std.specs.Prelude.{List, map, string_bytes}
use Rattle.expr_reader.specs.Expr.{Constant, null, truth, whole, quoted, Expr, literal, context, call, group, property, index, wildcard, opposite, relation, equality, both, either, exprs_of}
use Rattle.expr_reader.specs.declared.tree.Literal.{Literal}
use Rattle.expr_reader.specs.declared.tree.Literal.TheVariants as lit
use Rattle.expr_reader.specs.declared.tree.Tree.{Tree, fold-Tree}
use Rattle.expr_reader.specs.declared.tree.Tree.TheOpen.{Tree-F}

-- A literal, its text as bytes.
abbrev pub constant_of : Literal → Constant
constant_of lit.Null = null
constant_of (lit.Truth b) = truth b
constant_of (lit.Whole n) = whole n
constant_of (lit.Text s) = quoted (string_bytes s)

-- One node, with each part already seen as its expression.
abbrev pub view_step : Tree-F Expr → Expr
view_step (Tree-F.Literal l) = literal (constant_of l)
view_step (Tree-F.Context c) = context c
view_step (Tree-F.Call f es) = call f (exprs_of es.items)
view_step (Tree-F.Group e) = group e.value
view_step (Tree-F.Property e name) = property e.value (string_bytes name)
view_step (Tree-F.Index e i) = index e.value i.value
view_step (Tree-F.Wildcard w e) = wildcard w e.value
view_step (Tree-F.Not e) = opposite e.value
view_step (Tree-F.Relation r a b) = relation r a.value b.value
view_step (Tree-F.Equality q a b) = equality q a.value b.value
view_step (Tree-F.Both es) = both (exprs_of es.items)
view_step (Tree-F.Either es) = either (exprs_of es.items)

-- The expression that a tree stands for.
abbrev pub view : Tree → Expr
view = fold-Tree Expr view_step

-- The expressions that trees stand for.
abbrev pub views : List Tree → List Expr
views ts = map view ts
