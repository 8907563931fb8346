use Rattle.std.proofs.Common.{◌≡◌, Some, [], drop, true}
use Rattle.expr_value.specs.Bounded.{grown}
use Rattle.expr_value.proofs.Joins.{items_text}
use Rattle.flow_model.specs.Value.{views}
use Rattle.expr_value.proofs.join.join_nodes.Given as goal

-- What is still to come makes the whole text.
abbrev pub invariant-loop-node : goal.invariant-loop-node
invariant-loop-node l = grown l.bounded (items_text l.separator l.first (views (drop l.node-index l.nodes))) ≡ grown (Some []) (items_text l.separator true (views l.nodes))
