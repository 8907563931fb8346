use Rattle.std.proofs.Common.{◌≡◌, ◌++◌, ◌+◌, string_bytes, drop}
use Rattle.plan_text.specs.BoardText.{legs_text}
use Rattle.plan_text.proofs.board.write_legs.Given as goal

abbrev pub invariant-loop-leg : goal.invariant-loop-leg
invariant-loop-leg l = record {
  left : string_bytes l.text ++ legs_text l.number (drop l.leg-index l.legs) ≡ string_bytes l.initial.text ++ legs_text l.first l.legs;
  number : l.number ≡ l.first + l.leg-index;
}
