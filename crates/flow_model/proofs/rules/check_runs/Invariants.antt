use Rattle.std.proofs.Common.{◌≡◌, ◌≤◌, ◌*◌, drop}
use Rattle.flow_model.specs.Rules.{runs_rules}
use Rattle.flow_model.proofs.rules.check_runs.Given as goal

-- nothing was found so far, and no run had more than 256 jobs
abbrev pub invariant-loop-place : goal.invariant-loop-place
invariant-loop-place l = record {
  left : runs_rules l.first l.place (drop l.place l.runs) ≡ runs_rules 0 0 l.runs;
  few : l.first ≤ 256 * l.place;
}
