use Rattle.std.proofs.Common.{◌≡◌, ◌++◌, take}
use Rattle.std.specs.List.{flat_map}
use Rattle.board_timeline.specs.Picture.{shape_text}
use Rattle.board_timeline.proofs.svg.add_shapes.Given as goal

abbrev pub invariant-loop-shape : goal.invariant-loop-shape
invariant-loop-shape l = l.text.items ≡ l.initial.text.items ++ flat_map shape_text (take l.shape-index l.shapes)
