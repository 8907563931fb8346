use Rattle.std.proofs.Common.{◌+◌, ◌*◌, length, not}
use Rattle.std.specs.List.{count_by}
use Rattle.plan_assembler.specs.Layout.{graph_of}
use Rattle.flow_lint.proofs.Walks.{IsWalk}
use Rattle.flow_lint.proofs.cycles.find_cycle.Given as goal

abbrev pub invariant-loop-next : goal.invariant-loop-next
invariant-loop-next l = IsWalk (graph_of l.jobs) l.way.items l.place l.seen.items l.left.items

-- each step sees one more job, or goes back on the way
abbrev pub decreases-loop-next : goal.decreases-loop-next
decreases-loop-next l = 2 * count_by not l.seen.items + length l.way.items
