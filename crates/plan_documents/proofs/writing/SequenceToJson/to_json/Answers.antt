use Rattle.std.proofs.Common.{map, ap, ◌∙◌, arith}
use Rattle.std.proofs.lemmas.List.{take_all}
use Rattle.serde_json.specs.Data.{array}
use Rattle.serde_json.specs.View.{items_of}
use Rattle.serde_json.proofs.Views.{view-Array}
use Rattle.plan_documents.proofs.writing.SequenceToJson.to_json.Goals as goal

pub returns : goal.returns
returns g c =
    let from = c.as_slice-from.result.now in
    let ended = take_all c.loop-item.item-index from (omega (arith, c.loop-item-test.false)) in
    view-Array c.loop-item.items ∙ ap (λ ds. array (items_of ds)) (c.loop-item.invariant ∙ ap (map g.T.ToJson.writing) (ended ∙ c.as_slice-from.ensures))
