use Rattle.std.proofs.Common.{◌≡◌, ◌<◌, ℕ, true, false, [], get_or, length}
use Rattle.plan_assembler.proofs.chosen.next_needed.Given as goal

abbrev pub invariant-loop-job : goal.invariant-loop-job
invariant-loop-job l =
    (j i : ℕ) → j < l.job → get_or l.marks j false ≡ true → i < length (get_or l.graph j []) → get_or l.marks (get_or (get_or l.graph j []) i 0) false ≡ true
