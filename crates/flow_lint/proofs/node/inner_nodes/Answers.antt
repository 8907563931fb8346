use Rattle.std.proofs.Common.{◌≡◌, false, true, sym, subst}
use Rattle.flow_lint.specs.Nodes.{HasInner}
use Rattle.flow_lint.proofs.Nodes.{none_inside}
use Rattle.flow_lint.proofs.node.inner_nodes.Goals as goal
use Rattle.flow_lint.proofs.node.inner_nodes.Goals.{then-is_opened+in_ok-push_inner, else-is_opened}

pub returns-clause-all : goal.returns-clause-all
returns-clause-all c =
    let node = c.args.node.now in
    elim c.if-is_opened.branch [
      | then-is_opened+in_ok-push_inner w ↦ subst (λ nodes. HasInner node nodes.items) (sym w.nodes-is) w.in_ok-push_inner.ensures.all
      | else-is_opened w ↦ none_inside node _ (λ opened. let wrong : false ≡ true = w.if-is_opened.ensures.1 opened in cc)
    ]
