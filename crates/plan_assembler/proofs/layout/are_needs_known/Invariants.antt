use Rattle.std.proofs.Common.{◌≡◌, drop}
use Rattle.std.specs.List.{list_all}
use Rattle.plan_assembler.specs.Layout.{ids_of, is_one_of}
use Rattle.plan_assembler.proofs.layout.are_needs_known.Given as goal

abbrev pub invariant-loop-job : goal.invariant-loop-job
invariant-loop-job l =
    list_all (λ job. list_all (is_one_of (ids_of l.jobs)) job.needs) (drop l.job-index l.from) ≡ list_all (λ job. list_all (is_one_of (ids_of l.jobs)) job.needs) l.from
