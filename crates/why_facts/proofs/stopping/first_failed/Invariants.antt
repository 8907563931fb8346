use Rattle.std.proofs.Common.{◌≡◌, drop}
use Rattle.why_facts.proofs.stopping.first_failed.Given as goal
use Rattle.why_facts.specs.Stops.{first_failed}

abbrev pub invariant-loop-number : goal.invariant-loop-number
invariant-loop-number l = first_failed l.first l.legs (drop l.number-index l.ends) ≡ first_failed l.first l.legs l.ends
