use Rattle.std.proofs.Common.{◌≡◌}
use Rattle.expr_value.specs.Dereference.{first_at, is_alike}
use Rattle.flow_model.specs.Mapping.{pairs_of}
use Rattle.flow_model.specs.Plain as plain
use Rattle.flow_model.specs.Value.{viewed}
use Rattle.expr_value.proofs.dereference.member.Given as goal

-- none of the keys so far is alike
abbrev pub invariant-loop-key : goal.invariant-loop-key
invariant-loop-key l =
    first_at (is_alike l.name) (plain.members_of (viewed (pairs_of l.key-iterator))) ≡ first_at (is_alike l.name) (plain.members_of (viewed (pairs_of l.members.entries)))
