use Rattle.std.proofs.Common.{◌≡◌, drop}
use Rattle.std.specs.List.{list_any}
use Rattle.expr_value.specs.Functions.{is_match}
use Rattle.expr_value.specs.Seen.{kind_seen}
use Rattle.flow_model.specs.Value.{views}
use Rattle.expr_value.proofs.search.any_match.Given as goal

-- No item so far has matched.
abbrev pub invariant-loop-node : goal.invariant-loop-node
invariant-loop-node l = list_any (is_match (kind_seen l.value)) (views (drop l.node-index l.nodes)) ≡ list_any (is_match (kind_seen l.value)) (views l.nodes)
