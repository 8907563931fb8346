use Rattle.std.proofs.Common.{[]}
use Rattle.std.specs.List.{All}
use Rattle.serde_json.specs.View.{view}
use Rattle.flow_lint.specs.Nodes.{Fits}
use Rattle.flow_lint.specs.Places.{whole}
use Rattle.flow_lint.proofs.Nodes.{IsIn, AreClosed}
use Rattle.flow_lint.proofs.node.nodes_of.Given as goal

abbrev pub invariant-loop : goal.invariant-loop
invariant-loop l = record {
  waiting_fit : All (Fits (view l.root)) l.waiting.items;
  nodes_fit : All (Fits (view l.root)) l.nodes.items;
  root : IsIn l.waiting.items l.nodes.items [] (whole (view l.root));
  closed : AreClosed l.waiting.items l.nodes.items;
}
