use Rattle.std.proofs.Common.{◌≡◌, ◌++◌}
use Rattle.std.specs.List.{flat_map}
use Rattle.status_table.specs.Words.{pairs_of}
use Rattle.command_why.specs.Names.{pair_words}
use Rattle.command_why.proofs.names.add_combo.Given as goal

abbrev pub invariant-loop-name : goal.invariant-loop-name
invariant-loop-name l =
    l.out.items ++ flat_map pair_words (pairs_of l.name-iterator) ≡ l.initial.out.items ++ flat_map pair_words l.combo
