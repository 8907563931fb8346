-- The pairs that were set and those that are left are all.
use Rattle.std.proofs.Common.{◌≡◌, ◌++◌}
use Rattle.status_table.specs.Words.{map_values, pairs_of}
use Rattle.flow_commands.specs.Mask.{masked}
use Rattle.step_host.proofs.masked.masked_values.Given as goal

abbrev pub invariant-loop-name : goal.invariant-loop-name
invariant-loop-name l =
    l.made ++ map_values (masked l.masks) (pairs_of l.name-iterator) ≡ map_values (masked l.masks) l.pairs
