use Rattle.std.proofs.Common.{◌≡◌, ◌≤◌, ◌++◌, drop}
use Rattle.command_graph.specs.Quoted.{spelled}
use Rattle.command_graph.proofs.quoted.add_spelled.Given as goal

abbrev pub invariant-loop-byte : goal.invariant-loop-byte
invariant-loop-byte l = record {
  left : l.text.items ++ spelled l.row (drop l.byte-index l.words) ≡ l.initial.text.items ++ spelled 0 l.words;
  row : l.row ≤ l.byte-index;
}
