use Rattle.std.proofs.Common.{◌≡◌, take, map}
use Rattle.plan_assembler.specs.Layout.{ids_of, place_of}
use Rattle.plan_assembler.proofs.layout.graph_of.Given as goal

abbrev pub invariant-loop-job : goal.invariant-loop-job
invariant-loop-job l = l.graph.items ≡ map (λ job. map (place_of (ids_of l.jobs)) job.needs) (take l.job-index l.from)
