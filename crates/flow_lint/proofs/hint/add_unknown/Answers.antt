use Rattle.std.proofs.lemmas.Result.{on_ok_weaker}
use Rattle.flow_lint.specs.Hints.{SaysUnknown}
use Rattle.flow_lint.specs.Nodes.{place_of}
use Rattle.flow_lint.proofs.Hinted.{note_says}
use Rattle.flow_lint.proofs.hint.add_unknown.Goals as goal

pub returns-clause-added : goal.returns-clause-added
returns-clause-added c =
    on_ok_weaker c.add_note.result
    (λ h. note_says _ _ _ (SaysUnknown (place_of c.args.node.now)) h (c.requires.kind, c.in_ok-sentence.ensures))
    c.add_note.ensures.added
