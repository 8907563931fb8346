use Rattle.std.proofs.Common.{ℕ, List}
use Rattle.std.specs.List.{All}
use Rattle.serde_json.specs.View.{view}
use Rattle.flow_lint.specs.Nodes.{Fits, Has, Keeps}
use Rattle.flow_lint.specs.Places.{FilePlace}
use Rattle.flow_lint.proofs.Nodes.{IsIn}
use Rattle.flow_lint.proofs.node.push_turned.Given as goal

abbrev pub invariant-loop : goal.invariant-loop
invariant-loop l = record {
  waiting_fit : All (Fits (view l.root)) l.waiting.items;
  nodes_fit : All (Fits (view l.root)) l.nodes.items;
  kept : Keeps l.fn.waiting.items l.waiting.items;
  added : (path : List ℕ) (p : FilePlace) → Has l.fn.nodes.items path p → IsIn l.waiting.items l.nodes.items path p;
}
