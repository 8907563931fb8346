use Rattle.std.proofs.Common.{◌≡◌, ◌++◌, take}
use Rattle.expr_value.specs.Seen.{items_seen}
use Rattle.flow_model.specs.Value.{views}
use Rattle.expr_value.proofs.filter.push_nodes.Given as goal

-- what was added is what stands before the place
abbrev pub invariant-loop-node : goal.invariant-loop-node
invariant-loop-node l = items_seen l.found.items ≡ items_seen l.fn.found.items ++ views (take l.node-index l.nodes)
