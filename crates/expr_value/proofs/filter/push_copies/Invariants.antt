use Rattle.std.proofs.Common.{◌≡◌, ◌++◌, take}
use Rattle.expr_value.specs.Seen.{items_seen}
use Rattle.expr_value.proofs.filter.push_copies.Given as goal

-- what was added is what stands before the place
abbrev pub invariant-loop-item : goal.invariant-loop-item
invariant-loop-item l = items_seen l.found.items ≡ items_seen l.fn.found.items ++ items_seen (take l.item-index l.items)
