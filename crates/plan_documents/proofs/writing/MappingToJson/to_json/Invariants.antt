use Rattle.std.proofs.Common.{◌≡◌, ◌++◌}
use Rattle.serde_json.specs.View.{view}
use Rattle.flow_model.specs.Mapping.{pairs_of, map_values}
use Rattle.plan_documents.proofs.writing.MappingToJson.to_json.Given as goal

-- the pairs that were written and those that are left are all
abbrev pub invariant-loop-key : goal.invariant-loop-key
invariant-loop-key g l = map_values view l.members ++ map_values g.T.ToJson.writing (pairs_of l.key-iterator) ≡ map_values g.T.ToJson.writing l.self
