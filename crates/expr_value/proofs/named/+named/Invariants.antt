use Rattle.std.proofs.Common.{◌≡◌, drop}
use Rattle.expr_reader.specs.Expr.{exprs_of}
use Rattle.expr_reader.specs.View.{views}
use Rattle.expr_value.specs.Named.{any_names_context}
use Rattle.expr_value.proofs.named.+named.Given as goal

abbrev pub invariant-any_names_context-loop-tree : goal.invariant-any_names_context-loop-tree
invariant-any_names_context-loop-tree l = any_names_context l.context (exprs_of (views (drop l.tree-index l.trees))) ≡ any_names_context l.context (exprs_of (views l.trees))
