use Rattle.std.proofs.Common.{◌≡◌, ◌++◌}
use Rattle.flow_model.specs.Mapping.{pairs_of, keys_of}
use Rattle.plan_assembler.proofs.events.listed.Given as goal

-- the names that were listed and those that are left are all
abbrev pub invariant-loop-name : goal.invariant-loop-name
invariant-loop-name l = l.names.items ++ keys_of (pairs_of l.name-iterator) ≡ keys_of l.marked
