use Rattle.std.proofs.Common.{◌≡◌, ◌↔◌}
use Rattle.flow_model.specs.Mapping.{pairs_of}
use Rattle.flow_model.proofs.mapping.is_same_mapping.Given as goal

-- the pairs that are left are the same where all are
abbrev pub invariant-loop-key : goal.invariant-loop-key
invariant-loop-key l = (pairs_of l.key-iterator ≡ pairs_of l.right) ↔ (l.one ≡ l.other)
