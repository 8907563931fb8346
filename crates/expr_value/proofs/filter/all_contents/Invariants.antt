use Rattle.std.proofs.Common.{◌≡◌, ◌++◌, drop}
use Rattle.expr_value.specs.Seen.{items_seen}
use Rattle.std.specs.List.{flat_map}
use Rattle.expr_value.specs.Dereference.{contents}
use Rattle.expr_value.proofs.filter.all_contents.Given as goal

-- what was found and what is left are all
abbrev pub invariant-loop-item : goal.invariant-loop-item
invariant-loop-item l = items_seen l.found.items ++ flat_map contents (items_seen (drop l.item-index l.items)) ≡ flat_map contents (items_seen l.items)
