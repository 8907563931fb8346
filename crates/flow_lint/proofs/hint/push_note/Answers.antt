use Rattle.std.proofs.Common.{◌++◌, ◌∷◌, [], rules}
use Rattle.std.proofs.lemmas.List.Elements.{All-push}
use Rattle.serde_json.specs.View.{view}
use Rattle.flow_lint.specs.Hints.{AreHintsOf, IsHintOf}
use Rattle.flow_lint.specs.Nodes.{place_of}
use Rattle.flow_lint.proofs.hint.push_note.Goals as goal

pub returns-clause-are : goal.returns-clause-are
returns-clause-are c =
    let root = view c.args.root.now in
    let made : IsHintOf root c.args.note =
    record {
      path = c.args.node.now.path;
      place = place_of c.args.node.now;
      stands = c.requires.node;
      hints = c.requires.hint;
      passes = c.requires.passes;
    } in
    let all : AreHintsOf root (c.args.notes.now.items ++ c.args.note ∷ []) =
    All-push (IsHintOf root) c.args.notes.now.items c.args.note c.requires.notes made in
    search rules
