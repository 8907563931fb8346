use Rattle.std.proofs.Common.{◌≡◌, take}
use Rattle.why_facts.proofs.notes.add_legs.Given as goal
use Rattle.why_facts.specs.Notes.{legs_added}

abbrev pub invariant-loop-leg : goal.invariant-loop-leg
invariant-loop-leg l = l.notes ≡ legs_added l.initial.notes (take l.leg-index l.legs)
