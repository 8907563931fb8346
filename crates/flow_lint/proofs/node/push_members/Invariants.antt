use Rattle.std.specs.List.{All}
use Rattle.serde_json.specs.View.{view}
use Rattle.flow_lint.specs.Nodes.{Fits}
use Rattle.flow_lint.proofs.Nodes.{MembersLeft}
use Rattle.flow_lint.proofs.node.push_members.Given as goal

abbrev pub invariant-loop-key : goal.invariant-loop-key
invariant-loop-key l = record {
  fit : All (Fits (view l.root)) l.nodes.items;
  left : MembersLeft l.node l.key-iterator l.nodes.items;
}
