use Rattle.std.proofs.Common.{◌≡◌, drop}
use Rattle.why_facts.proofs.ancestors.mark_all.Given as goal
use Rattle.why_facts.specs.Ancestors.{marked}

abbrev pub invariant-loop-need : goal.invariant-loop-need
invariant-loop-need l = marked l.first l.marks (drop l.need-index l.needs) ≡ marked l.first l.initial.marks l.needs
