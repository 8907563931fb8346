use Rattle.std.proofs.Common.{◌≡◌, not, drop}
use Rattle.expr_reader.specs.Expr.{exprs_of}
use Rattle.expr_reader.specs.View.{views}
use Rattle.expr_value.proofs.Fronts.{with_front}
use Rattle.expr_value.specs.Evaluate.{all_values, answers}
use Rattle.expr_value.specs.Evaluating.{first_of}
use Rattle.expr_value.specs.Seen.{item_seen, items_seen}
use Rattle.flow_model.specs.Plain as plain
use Rattle.expr_value.proofs.evaluate.+evaluate.Given as goal

-- the values so far and those of what is left are all
abbrev pub invariant-evaluate_all-loop-tree : goal.invariant-evaluate_all-loop-tree
invariant-evaluate_all-loop-tree g l =
    let contexts = g.C.Context.contexts l.contexts in
    with_front (items_seen l.values.items) (all_values (answers contexts l.status (exprs_of (views (drop l.tree-index l.trees))))) ≡ all_values (answers contexts l.status (exprs_of (views l.trees)))

-- the last value leads over what is left to that of all
abbrev pub invariant-decided-loop-part : goal.invariant-decided-loop-part
invariant-decided-loop-part g l =
    let contexts = g.C.Context.contexts l.contexts in
    first_of l.truth (item_seen l.value) (answers contexts l.status (exprs_of (views (drop l.part-index l.parts)))) ≡ first_of l.truth (plain.truth (not l.truth)) (answers contexts l.status (exprs_of (views l.parts)))
