use Rattle.std.proofs.Common.{codes, [], ◌∷◌}
use Rattle.serde_json.specs.Data.{string}
use Rattle.flow_model.specs.Json.{json_of}
use Rattle.plan_documents.specs.Parts.{map_data}
use Rattle.plan_text.proofs.SpelledLaws.{object_spells}
use Rattle.plan_text.proofs.plan_tokens.action_after_kind.Goals as goal

pub returns : goal.returns
returns c =
    let work = c.in_ok-uses in
    object_spells 101 ((codes "kind", string (codes "uses")) ∷ (codes "uses", string work.uses) ∷ (codes "with", map_data json_of work.given) ∷ []) _ _ work.ensures
