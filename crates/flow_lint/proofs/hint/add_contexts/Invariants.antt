use Rattle.serde_json.specs.View.{view}
use Rattle.flow_lint.specs.Hints.{AreHintsOf, KeepsNotes}
use Rattle.flow_lint.proofs.hint.add_contexts.Given as goal

abbrev pub invariant-loop-context : goal.invariant-loop-context
invariant-loop-context l = record {
  are : AreHintsOf (view l.root) l.notes.items;
  kept : KeepsNotes l.fn.notes.items l.notes.items;
}
