use Rattle.std.proofs.Common.{◌≡◌, ◌++◌}
use Rattle.expr_value.specs.Seen.{items_seen}
use Rattle.flow_model.specs.Value.{viewed}
use Rattle.flow_model.specs.Mapping.{pairs_of}
use Rattle.flow_model.specs.Plain as plain
use Rattle.expr_value.specs.PlainKind.{values}
use Rattle.expr_value.proofs.filter.push_values.Given as goal

-- what was added and what is left are all
abbrev pub invariant-loop-key : goal.invariant-loop-key
invariant-loop-key l =
    items_seen l.found.items ++ values (plain.members_of (viewed (pairs_of l._key-iterator))) ≡ items_seen l.fn.found.items ++ values (plain.members_of (viewed (pairs_of l.members.entries)))
