use Rattle.std.proofs.Common.{◌≡◌, ◌++◌, nat_cmp}
use Rattle.std.specs.Cmp.Lexicographic.{slice_cmp}
use Rattle.std.specs.List.Sorted.{IsStrictlySortedBy}
use Rattle.serde_json.specs.View.{members_view}
use Rattle.flow_model.specs.Mapping.{pairs_of, keys_of}
use Rattle.flow_reader.specs.Checked.{made, pairs_checked}
use Rattle.flow_reader.proofs.members.read_pairs.Given as goal

-- what was read, before what is left
abbrev pub invariant-loop-key : goal.invariant-loop-key
invariant-loop-key g l = record {
  keys : IsStrictlySortedBy (slice_cmp nat_cmp) (keys_of l.read ++ keys_of (pairs_of l.key-iterator));
  reads : made (λ ps. l.read ++ ps) (pairs_checked g.M.ReadsMember.counted g.M.ReadsMember.member (members_view l.key-iterator)) ≡ pairs_checked g.M.ReadsMember.counted g.M.ReadsMember.member (members_view l.members.entries);
}
