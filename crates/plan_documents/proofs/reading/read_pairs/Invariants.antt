use Rattle.std.proofs.Common.{◌≡◌, ◌++◌}
use Rattle.serde_json.specs.View.{members_view}
use Rattle.flow_model.specs.Mapping.{pairs_of, keys_of}
use Rattle.plan_documents.specs.Parts.{map_read, pairs_read}
use Rattle.plan_documents.proofs.reading.read_pairs.Given as goal

-- what was read, before what is left
abbrev pub invariant-loop-key : goal.invariant-loop-key
invariant-loop-key g l = record {
  keys : keys_of l.read ++ keys_of (pairs_of l.key-iterator) ≡ keys_of (pairs_of l.members.entries);
  reads : map_read (λ ps. l.read ++ ps) (pairs_read g.T.FromJson.reading (members_view l.key-iterator)) ≡ pairs_read g.T.FromJson.reading (members_view l.members.entries);
}
