use Rattle.std.proofs.Common.{◌≡◌, ◌∙◌, ap, true, is_some, List, ℕ, rules}
use Rattle.serde_json.specs.Find.{get}
use Rattle.serde_json.specs.View.{view}
use Rattle.flow_lint.specs.Places.{below}
use Rattle.flow_lint.proofs.hint.beside.Goals as goal

pub returns-clause-beside : goal.returns-clause-beside
returns-clause-beside c =
    let step = view c.args.node.now.value.now in
    let is_there : is_some (get c.args.key.now step) ≡ true = search rules in
    let other_is : is_some (get c.args.other.now step) ≡ true = search rules in
    let made = c.in_ok-noted.ensures in
    record {
      both = (c.args.key.now, c.args.other.now);
      one = c.requires.both;
      is_step = c.requires.kind;
      is_there = is_there;
      other_is = other_is;
      is_path = made.path ∙ c.as_str-2.ensures ∙ c.in_ok-path.ensures ∙ ap (λ (front : List ℕ). below front c.args.key.now) c.as_str.ensures;
      is = made.sentence ∙ c.in_ok-sentence.ensures.ok;
    }
