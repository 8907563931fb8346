use Rattle.std.proofs.Common.{◌≡◌, take, map}
use Rattle.board_decisions.specs.Derived.{job_result}
use Rattle.board_decisions.proofs.ancestors.results_of.Given as goal

abbrev pub invariant-loop-job : goal.invariant-loop-job
invariant-loop-job l = l.results.items ≡ map (job_result l.run) (take l.job-index l.jobs)
