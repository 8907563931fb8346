use Rattle.std.proofs.Common.{◌≡◌, drop}
use Rattle.status_table.specs.Words.{first_place, is_failure}
use Rattle.why_facts.proofs.failures.first_failure.Given as goal

abbrev pub invariant-loop-place : goal.invariant-loop-place
invariant-loop-place l =
    first_place l.place (λ step. is_failure step.conclusion) (drop l.place l.steps)
    ≡ first_place 0 (λ step. is_failure step.conclusion) l.steps
