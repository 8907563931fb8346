use Rattle.std.proofs.Common.{◌≡◌, ◌<◌, ◌≤◌, ℕ, [], true, false, get_or}
use Rattle.plan_assembler.specs.Placing.{IsPlacing, is_open, waits, count_open}
use Rattle.plan_assembler.proofs.stages.pass.Given as goal

abbrev pub invariant-loop-job : goal.invariant-loop-job
invariant-loop-job l = record {
  placing : IsPlacing l.graph l.found;
  no_more : count_open l.found ≤ count_open l.initial.found;
  fewer : l.placed ≡ true → count_open l.found < count_open l.initial.found;
  waiting : l.placed ≡ false → (j : ℕ) → j < l.job → is_open l.found j ≡ true → waits l.found (get_or l.graph j []) ≡ true;
}
