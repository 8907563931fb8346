use Rattle.std.proofs.Common.{◌≡◌, take}
use Rattle.flow_model.proofs.sequence.SequenceDuplicate.copy.Given as goal

-- as many copies as items were passed, and equal to them
abbrev pub invariant-loop-item : goal.invariant-loop-item
invariant-loop-item g l = l.items.items ≡ take l.item-index l.from
