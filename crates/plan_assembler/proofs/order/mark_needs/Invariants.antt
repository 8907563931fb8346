use Rattle.std.proofs.Common.{◌≡◌, ℕ, false, get_or, length, nat_eq, take}
use Rattle.std.specs.List.{list_any}
use Rattle.plan_assembler.proofs.order.mark_needs.Given as goal

abbrev pub invariant-loop-need : goal.invariant-loop-need
invariant-loop-need l = (length l.marks.items ≡ l.count) × ((j : ℕ) → get_or l.marks.items j false ≡ list_any (nat_eq j) (take l.need-index l.needs))
