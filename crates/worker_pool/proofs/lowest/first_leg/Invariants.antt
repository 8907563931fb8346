use Rattle.std.proofs.Common.{◌≡◌, ◌+◌, drop}
use Rattle.std.specs.List.{position_from}
use Rattle.worker_pool.specs.Alone.{is_admitted}
use Rattle.worker_pool.proofs.lowest.first_leg.Given as goal

-- none of the legs before may be taken
abbrev pub invariant-loop-leg : goal.invariant-loop-leg
invariant-loop-leg l =
    (position_from (λ leg. is_admitted leg.state) l.before l.legs ≡ position_from (λ leg. is_admitted leg.state) l.number (drop l.leg-index l.legs))
    × (l.number ≡ l.before + l.leg-index)
