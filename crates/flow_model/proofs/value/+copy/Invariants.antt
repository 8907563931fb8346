use Rattle.std.proofs.Common.{◌≡◌, ◌++◌, take}
use Rattle.flow_model.specs.Mapping.{pairs_of}
use Rattle.flow_model.specs.Value.{views, viewed}
use Rattle.flow_model.proofs.value.+copy.Given as goal

abbrev pub invariant-copy_nodes-loop-node : goal.invariant-copy_nodes-loop-node
invariant-copy_nodes-loop-node l = views l.twins.items ≡ views (take l.node-index l.nodes.items)

-- the pairs that were copied and those that are left are all
abbrev pub invariant-copy_members-loop-key : goal.invariant-copy_members-loop-key
invariant-copy_members-loop-key l = viewed l.twins ++ viewed (pairs_of l.key-iterator) ≡ viewed (pairs_of l.members.entries)
