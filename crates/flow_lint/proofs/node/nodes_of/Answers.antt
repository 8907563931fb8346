use Rattle.std.proofs.Common.{List, [], refl, rules, subst}
use Rattle.serde_json.specs.View.{view}
use Rattle.flow_lint.specs.Places.{whole}
use Rattle.flow_lint.specs.declared.node.Node.{Node}
use Rattle.flow_lint.proofs.Nodes.{AreClosed, IsIn, all_in, first_closed, first_in, still_closed, still_in}
use Rattle.flow_lint.proofs.node.nodes_of.Goals as goal

pub loop-init : goal.loop-init
loop-init c =
    let root = view c.args.root.now in
    let pushed = c.in_ok-push_node.ensures in
    record {
      waiting_fit = pushed.fit;
      nodes_fit = search rules;
      root = first_in root _ _ _ c.whole.result pushed.items c.whole.ensures.path c.whole.ensures.place;
      closed = first_closed _ _ c.new-nodes.ensures.items;
    }

pub returns-in_default-clause-all : goal.returns-in_default-clause-all
returns-in_default-clause-all c =
    let root = view c.args.root.now in
    let nodes = c.loop.nodes.items in
    let none = c.in_default.ensures.none refl in
    all_in root nodes
    (subst (λ (waiting : List Node). IsIn waiting nodes [] (whole root)) none c.loop.invariant.root)
    (subst (λ (waiting : List Node). AreClosed waiting nodes) none c.loop.invariant.closed)

pub loop-preserved : goal.loop-preserved
loop-preserved c =
    let popped = c.in-Some.ensures in
    let inner = c.in_ok-inner_nodes.ensures in
    let turned = c.in_ok-push_turned.ensures in
    let pushed = c.in_ok-push_node-2.ensures in
    record {
      waiting_fit = turned.fit;
      nodes_fit = pushed.fit;
      root = still_in _ _ _ _ _ c.in-Some.node popped.items turned.kept pushed.items _ _ c.loop.invariant.root;
      closed = still_closed _ _ _ c.in_ok-inner_nodes.field-0.items _ _ c.in-Some.node popped.items turned.kept turned.added inner.all pushed.items c.loop.invariant.closed;
    }
