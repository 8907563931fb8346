use Rattle.std.proofs.Common.{◌≡◌, map, drop}
use Rattle.flow_lint.specs.Keys as spec
use Rattle.flow_lint.proofs.keys.kind_at.Given as goal

-- what the keys that are left say is what all of them say
abbrev pub invariant-loop-name : goal.invariant-loop-name
invariant-loop-name l =
    spec.kind_in (map (λ entry. (entry.0.now, entry.1)) (drop l.name-index l.name-items)) (spec.other_kind l.kind) l.key ≡ spec.kind_at l.kind l.key
