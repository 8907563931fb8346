use Rattle.std.proofs.Common.{◌≡◌, ◌++◌, drop}
use Rattle.plan_assembler.specs.Staging.{run_jobs}
use Rattle.plan_assembler.proofs.staging.run_jobs.Given as goal

abbrev pub invariant-loop-run : goal.invariant-loop-run
invariant-loop-run l = l.list.items ++ run_jobs l.run (drop l.run l.runs) ≡ run_jobs 0 l.runs
