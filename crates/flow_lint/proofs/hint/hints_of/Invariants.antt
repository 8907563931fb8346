use Rattle.std.proofs.Common.{take}
use Rattle.std.specs.List.{All}
use Rattle.serde_json.specs.View.{view}
use Rattle.flow_lint.specs.Hints.{AreHintsOf, HasHints}
use Rattle.flow_lint.proofs.hint.hints_of.Given as goal

abbrev pub invariant-loop-node : goal.invariant-loop-node
invariant-loop-node l = record {
  are : AreHintsOf (view l.root) l.notes.items;
  all : All (HasHints (view l.root) l.told l.notes.items) (take l.node-index l.nodes);
}
