use Rattle.std.proofs.Common.{ℕ, List, subst}
use Rattle.std.proofs.lemmas.Result.{on_ok_weaker}
use Rattle.flow_lint.specs.Hints.{AreHints}
use Rattle.flow_lint.specs.declared.note.Note.{Note}
use Rattle.plan_text.specs.BoardText.{Adds}
use Rattle.command_print.specs.Lint.{hint_lines}
use Rattle.command_print.proofs.lint.add_hints.Goals as goal

pub returns : goal.returns
returns c =
    let notes = c.in_ok-notes.notes in
    let adds = Adds c.args.text.now c.add_notes.new.text in
    on_ok_weaker c.add_notes.result
    (λ h. (
      notes,
      (
        subst (λ (b : List ℕ). AreHints b c.args.told.now notes) c.bytes.ensures c.in_ok-notes.ensures,
        subst (λ (f : List ℕ). adds (hint_lines f notes)) c.name.ensures (subst (λ (ns : List Note). adds (hint_lines c.name.result.now ns)) c.as_slice.ensures h),
      ),
    ))
    c.add_notes.ensures
