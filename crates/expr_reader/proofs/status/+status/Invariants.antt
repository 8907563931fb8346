-- No tree so far names a status function.
use Rattle.std.proofs.Common.{◌≡◌, drop}
use Rattle.expr_reader.specs.Expr.{exprs_of}
use Rattle.expr_reader.specs.Template.{any_names_status}
use Rattle.expr_reader.specs.View.{views}
use Rattle.expr_reader.proofs.status.+status.Given as goal

abbrev pub invariant-any_names_status-loop-tree : goal.invariant-any_names_status-loop-tree
invariant-any_names_status-loop-tree l = any_names_status (exprs_of (views (drop l.tree-index l.trees))) ≡ any_names_status (exprs_of (views l.trees))
