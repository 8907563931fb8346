use Rattle.std.proofs.Common.{◌≡◌, ◌≤◌, take, count_by}
use Rattle.board_decisions.specs.Derived.{is_under_way}
use Rattle.board_decisions.proofs.derived.count_under_way.Given as goal

abbrev pub invariant-loop-leg : goal.invariant-loop-leg
invariant-loop-leg l = record {
  counted : l.count ≡ count_by (λ leg. is_under_way leg.state) (take l.leg-index l.legs);
  small : l.count ≤ l.leg-index;
}
