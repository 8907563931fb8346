use Rattle.std.proofs.Common.{◌≡◌, ◌<◌, ℕ, true, false, get_or}
use Rattle.plan_assembler.proofs.chosen.unmarked.Given as goal

abbrev pub invariant-loop-need : goal.invariant-loop-need
invariant-loop-need l = (i : ℕ) → i < l.need-index → get_or l.marks (get_or l.needs i 0) false ≡ true
