use Rattle.std.proofs.Common.{◌≡◌, take, map}
use Rattle.status_table.proofs.new_board.start_each.Given as goal

abbrev pub invariant-loop-plan : goal.invariant-loop-plan
invariant-loop-plan g l = l.made.items ≡ map g.T.Played.started (take l.plan-index l.plans)
