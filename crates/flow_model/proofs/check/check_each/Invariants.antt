use Rattle.std.proofs.Common.{◌≡◌, drop}
use Rattle.flow_model.specs.Found.{each}
use Rattle.flow_model.proofs.check.check_each.Given as goal

-- nothing was found so far
abbrev pub invariant-loop-place : goal.invariant-loop-place
invariant-loop-place g l = each g.R.Rules.rules l.place (drop l.place l.parts) ≡ each g.R.Rules.rules 0 l.parts
