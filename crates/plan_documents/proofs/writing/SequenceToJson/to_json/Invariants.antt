use Rattle.std.proofs.Common.{◌≡◌, map, take}
use Rattle.serde_json.specs.View.{view}
use Rattle.plan_documents.proofs.writing.SequenceToJson.to_json.Given as goal

abbrev pub invariant-loop-item : goal.invariant-loop-item
invariant-loop-item g l = map view l.items.items ≡ map g.T.ToJson.writing (take l.item-index l.from)
