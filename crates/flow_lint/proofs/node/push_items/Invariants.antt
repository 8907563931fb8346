use Rattle.std.specs.List.{All}
use Rattle.serde_json.specs.View.{view}
use Rattle.flow_lint.specs.Nodes.{Fits}
use Rattle.flow_lint.proofs.Nodes.{ItemsUpTo}
use Rattle.flow_lint.proofs.node.push_items.Given as goal

abbrev pub invariant-loop-place : goal.invariant-loop-place
invariant-loop-place l = record {
  fit : All (Fits (view l.root)) l.nodes.items;
  items : ItemsUpTo l.node l.place l.nodes.items;
}
