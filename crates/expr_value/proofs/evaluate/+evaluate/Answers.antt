use Rattle.std.proofs.Common.{ap, sym, ◌∙◌}
use Rattle.expr_value.proofs.Fronts.{evaluated_more, decided_more}
use Rattle.expr_value.specs.Convert.{truth_of}
use Rattle.expr_value.proofs.evaluate.+evaluate.Goals as goal

pub evaluate_all-loop-tree-preserved : goal.evaluate_all-loop-tree-preserved
evaluate_all-loop-tree-preserved g t c =
    evaluated_more (g.C.Context.contexts c.args.contexts.now) c.args.status c.args.trees.now c.loop-tree.tree-index c.tree-item.result c.loop-tree.values.items c.push.new.self.items c.in_ok-evaluate.field-0 _
    c.loop-tree-test.true c.tree-item.is c.in_ok-push.ensures.items c.in_ok-evaluate.ensures c.loop-tree.invariant

pub decided-loop-part-preserved : goal.decided-loop-part-preserved
decided-loop-part-preserved g t c =
    decided_more (g.C.Context.contexts c.args.contexts.now) c.args.status c.args.parts.now c.loop-part.part-index c.part-item.result c.args.truth c.truth_of.result c.loop-part.value c.in_ok-value.value _
    c.loop-part-test.true c.part-item.is c.if-truth_of-truth.false (sym (c.truth_of.ensures ∙ ap truth_of c.kind.ensures)) c.in_ok-value.ensures c.loop-part.invariant
