use Rattle.std.proofs.Common.{◌∙◌, inl, codes, subst, sym}
use Rattle.std.proofs.lemmas.Result.{on_ok_weaker}
use Rattle.serde_json.specs.Find.{get}
use Rattle.serde_json.specs.View.{view}
use Rattle.flow_lint.specs.Hints.{Says}
use Rattle.flow_lint.specs.Nodes.{place_of}
use Rattle.flow_lint.proofs.Hinted.{added_by_push, kept_by_push}
use Rattle.flow_lint.proofs.hint.add_note.Goals as goal

pub push_note-requires-clause-hint : goal.push_note-requires-clause-hint
push_note-requires-clause-hint c =
    let made = c.in_ok-noted.ensures in
    let says = Says (get (codes "jobs") (view c.args.root.now)) (place_of c.args.node.now) in
    inl (made.path ∙ c.as_str.ensures, subst says (sym made.sentence) c.requires.says)

pub returns-clause-kept : goal.returns-clause-kept
returns-clause-kept c = on_ok_weaker c.push_note.result (kept_by_push _ _ _) c.push_note.ensures.items

pub returns-clause-added : goal.returns-clause-added
returns-clause-added c =
    let made = c.in_ok-noted.ensures in
    on_ok_weaker c.push_note.result
    (λ items. (c.in_ok-noted.field-0, (added_by_push _ _ _ items, (made.path ∙ c.as_str.ensures, made.sentence))))
    c.push_note.ensures.items
