use Rattle.std.proofs.Common.{◌≡◌, ◌++◌, drop}
use Rattle.command_why.specs.Roots.{jobs_left}
use Rattle.command_why.proofs.roots.add_jobs.Given as goal

abbrev pub invariant-loop-run : goal.invariant-loop-run
invariant-loop-run l =
    l.out.items ++ jobs_left l.next (drop l.run-index l.runs) ≡ l.initial.out.items ++ jobs_left 0 l.runs
