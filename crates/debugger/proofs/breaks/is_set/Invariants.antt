use Rattle.std.proofs.Common.{◌≡◌, drop}
use Rattle.debugger.specs.Breaks as spec
use Rattle.debugger.proofs.breaks.is_set.Given as goal

-- the break is among the rest, or nowhere
abbrev pub invariant-loop-one : goal.invariant-loop-one
invariant-loop-one l = spec.is_set l.wanted (drop l.one-index l.breaks) ≡ spec.is_set l.wanted l.breaks
