use Rattle.std.proofs.Common.{◌≡◌, drop}
use Rattle.std.specs.List.{list_any}
use Rattle.std.specs.Str.{bytes_eq}
use Rattle.flow_model.specs.Rules.{job_ids}
use Rattle.flow_model.proofs.rules.is_job_id.Given as goal

abbrev pub invariant-loop-job : goal.invariant-loop-job
invariant-loop-job l = list_any (bytes_eq l.id) (job_ids (drop l.job-index l.jobs)) ≡ list_any (bytes_eq l.id) (job_ids l.jobs)
