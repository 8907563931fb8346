use Rattle.std.proofs.Common.{◌≡◌, ◌+◌, ◌++◌, drop}
use Rattle.command_graph.specs.Dot.{leg_lines}
use Rattle.command_graph.proofs.label.add_legs.Given as goal

abbrev pub invariant-loop-leg : goal.invariant-loop-leg
invariant-loop-leg l = record {
  left : l.text.items ++ leg_lines l.number (drop l.leg-index l.legs) ≡ l.initial.text.items ++ leg_lines l.first l.legs;
  number : l.number ≡ l.first + l.leg-index;
}
