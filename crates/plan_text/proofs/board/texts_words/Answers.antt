use Rattle.std.proofs.Common.{◌≡◌, ℕ, List, [], ◌∷◌, false, refl, ap, ◌∙◌}
use Rattle.std.proofs.lemmas.Result.{IfOk-weaker}
use Rattle.serde_json.specs.Data.{string}
use Rattle.serde_json.specs.View.{view}
use Rattle.serde_json.specs.Written.{has_float, members_have_float, compact_text}
use Rattle.plan_documents.specs.Parts.{map_data, pair_members}
use Rattle.plan_text.proofs.board.texts_words.Goals as goal

-- texts are no numbers
texts_have_float : (ps : List (List ℕ × List ℕ)) → members_have_float (pair_members string ps) ≡ false
texts_have_float [] = refl
texts_have_float (p ∷ ps) = texts_have_float ps

pub returns : goal.returns
returns c =
    let is : view c.in_ok-json.json ≡ map_data string c.args.texts.now = c.in_ok-json.ensures in
    IfOk-weaker c.to_string.result _ _ (λ s h. h (ap has_float is ∙ texts_have_float c.args.texts.now) ∙ ap compact_text is) c.to_string.ensures.text
