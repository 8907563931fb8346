use Rattle.std.proofs.Common.{sym, subst}
use Rattle.serde_json.specs.View.{view}
use Rattle.flow_lint.specs.Hints.{AreHintsOf, KeepsNotes}
use Rattle.flow_lint.proofs.hint.add_contexts.Goals as goal
use Rattle.flow_lint.proofs.hint.add_contexts.Goals.{then-names_unseen+in_ok-add_context, else-names_unseen}

pub loop-context-preserved : goal.loop-context-preserved
loop-context-preserved c =
    let root = view c.args.root.now in
    let old = c.args.notes.now.items in
    let was = c.loop-context.invariant in
    elim c.if-names_unseen.branch [
      | then-names_unseen+in_ok-add_context w ↦ record {
        are = subst (λ notes. AreHintsOf root notes.items) (sym w.notes-is) w.in_ok-add_context.ensures.are;
        kept = subst (λ notes. KeepsNotes old notes.items) (sym w.notes-is) (λ note at. w.in_ok-add_context.ensures.kept note (was.kept note at));
      }
      | else-names_unseen w ↦ record {
        are = subst (λ notes. AreHintsOf root notes.items) (sym w.notes-is) was.are;
        kept = subst (λ notes. KeepsNotes old notes.items) (sym w.notes-is) was.kept;
      }
    ]
