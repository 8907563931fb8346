use Rattle.std.proofs.Common.{◌≡◌, ◌++◌}
use Rattle.flow_model.specs.Mapping.{pairs_of}
use Rattle.flow_model.proofs.mapping.MappingDuplicate.copy.Given as goal

-- the pairs that were copied and those that are left are all
abbrev pub invariant-loop-key : goal.invariant-loop-key
invariant-loop-key g l = l.twin ++ pairs_of l.key-iterator ≡ l.self
