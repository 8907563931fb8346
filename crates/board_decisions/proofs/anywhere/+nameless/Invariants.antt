use Rattle.std.proofs.Common.{◌≡◌, drop}
use Rattle.plan_values.specs.Words.{Context, any_names_context, exprs_of, views}
use Rattle.board_decisions.proofs.anywhere.+nameless.Given as goal

abbrev pub invariant-are_nameless-loop-tree : goal.invariant-are_nameless-loop-tree
invariant-are_nameless-loop-tree l =
    (x : Context) → any_names_context x (exprs_of (views (drop l.tree-index l.trees))) ≡ any_names_context x (exprs_of (views l.trees))
