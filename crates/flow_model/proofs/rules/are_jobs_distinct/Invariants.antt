use Rattle.std.proofs.Common.{◌≡◌, drop}
use Rattle.flow_model.specs.Rules.{are_distinct, job_ids}
use Rattle.flow_model.proofs.rules.are_jobs_distinct.Given as goal

abbrev pub invariant-loop-place : goal.invariant-loop-place
invariant-loop-place l = are_distinct (job_ids (drop l.place l.jobs)) ≡ are_distinct (job_ids l.jobs)
