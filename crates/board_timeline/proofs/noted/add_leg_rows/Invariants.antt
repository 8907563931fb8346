use Rattle.std.proofs.Common.{◌≡◌, ◌++◌, take}
use Rattle.std.specs.List.{flat_map}
use Rattle.board_timeline.specs.Noted.{leg_rows}
use Rattle.board_timeline.proofs.noted.add_leg_rows.Given as goal

abbrev pub invariant-loop-run : goal.invariant-loop-run
invariant-loop-run l = l.rows.items ≡ l.initial.rows.items ++ flat_map leg_rows (take l.run-index l.runs)
