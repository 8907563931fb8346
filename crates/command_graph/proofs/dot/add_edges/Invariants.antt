use Rattle.std.proofs.Common.{◌≡◌, ◌++◌, take}
use Rattle.std.specs.List.{flat_map}
use Rattle.command_graph.specs.Dot.{edge_text}
use Rattle.command_graph.proofs.dot.add_edges.Given as goal

abbrev pub invariant-loop-need : goal.invariant-loop-need
invariant-loop-need l = l.text.items ≡ l.initial.text.items ++ flat_map (edge_text l.number) (take l.need-index l.needs)
