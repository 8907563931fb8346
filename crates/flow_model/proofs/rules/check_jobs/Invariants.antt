use Rattle.std.proofs.Common.{◌≡◌, drop}
use Rattle.flow_model.specs.Rules.{jobs_rules}
use Rattle.flow_model.proofs.rules.check_jobs.Given as goal

-- nothing was found so far
abbrev pub invariant-loop-place : goal.invariant-loop-place
invariant-loop-place l = jobs_rules l.first l.place (drop l.place l.jobs) ≡ jobs_rules l.first 0 l.jobs
