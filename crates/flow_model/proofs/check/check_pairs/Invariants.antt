use Rattle.std.proofs.Common.{◌≡◌}
use Rattle.flow_model.specs.Found.{each_pair}
use Rattle.flow_model.specs.Mapping.{pairs_of}
use Rattle.flow_model.proofs.check.check_pairs.Given as goal

-- nothing was found so far
abbrev pub invariant-loop-key : goal.invariant-loop-key
invariant-loop-key g l = each_pair g.T.PairTest.test (pairs_of l.key-iterator) ≡ each_pair g.T.PairTest.test l.pairs
