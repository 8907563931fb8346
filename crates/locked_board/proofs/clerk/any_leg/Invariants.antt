use Rattle.std.proofs.Common.{◌≡◌, drop}
use Rattle.std.specs.List.{list_any}
use Rattle.status_table.specs.Moves as spec
use Rattle.locked_board.proofs.clerk.any_leg.Given as goal

-- what is left tells it all
abbrev pub invariant-loop-leg : goal.invariant-loop-leg
invariant-loop-leg l =
    list_any (λ leg. spec.is_active leg.state) (drop l.leg-index l.legs) ≡ list_any (λ leg. spec.is_active leg.state) l.legs
