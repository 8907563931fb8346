use Rattle.std.proofs.Common.{◌≡◌, ◌++◌, take}
use Rattle.std.specs.List.{flat_map}
use Rattle.board_timeline.specs.Noted.{legs_of}
use Rattle.board_timeline.proofs.noted.add_legs_of.Given as goal

abbrev pub invariant-loop-job : goal.invariant-loop-job
invariant-loop-job l = l.rows.items ≡ l.initial.rows.items ++ flat_map legs_of (take l.job-index l.jobs)
