use Rattle.std.proofs.Common.{◌∙◌, inl, inr, ap}
use Rattle.std.proofs.lemmas.Result.{on_ok_weaker}
use Rattle.flow_lint.specs.Hints.{SaysIdle}
use Rattle.flow_lint.specs.Nodes.{place_of}
use Rattle.flow_lint.specs.Unknown.{idle_key}
use Rattle.flow_lint.proofs.Hinted.{note_says}
use Rattle.flow_lint.proofs.hint.add_idle.Goals as goal

pub add_note-requires-clause-says : goal.add_note-requires-clause-says
add_note-requires-clause-says c = inr (inl (c.requires.kind, c.in_ok-sentence.ensures.ok ∙ ap idle_key c.as_str.ensures))

pub returns-clause-added : goal.returns-clause-added
returns-clause-added c =
    on_ok_weaker c.add_note.result
    (λ h. note_says _ _ _ (SaysIdle (place_of c.args.node.now)) h (c.requires.kind, c.in_ok-sentence.ensures.ok ∙ ap idle_key c.as_str.ensures))
    c.add_note.ensures.added
