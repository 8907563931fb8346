use Rattle.std.proofs.Common.{◌≡◌, drop}
use Rattle.status_table.specs.Words.{board_legs, first_place, leg_standing}
use Rattle.status_table.specs.Seen.{has_role}
use Rattle.status_table.proofs.members.find_leg.Given as goal

abbrev pub invariant-loop-number : goal.invariant-loop-number
invariant-loop-number l =
    first_place l.number (λ leg. has_role l.role l.name (leg_standing leg)) (drop l.number (board_legs l.board))
    ≡ first_place 0 (λ leg. has_role l.role l.name (leg_standing leg)) (board_legs l.board)
