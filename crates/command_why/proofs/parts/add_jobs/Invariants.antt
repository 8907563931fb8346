use Rattle.std.proofs.Common.{◌≡◌, ◌++◌, drop}
use Rattle.command_why.specs.Parts.{job_parts}
use Rattle.command_why.proofs.parts.add_jobs.Given as goal

abbrev pub invariant-loop-number : goal.invariant-loop-number
invariant-loop-number l =
    l.out.items ++ job_parts l.number (drop l.number l.jobs) ≡ l.initial.out.items ++ job_parts 0 l.jobs
