use Rattle.std.proofs.Common.{◌≡◌, drop}
use Rattle.debugger.specs.Marks as spec
use Rattle.debugger.proofs.marks.any_marked.Given as goal

-- one of the rest holds, or none
abbrev pub invariant-loop-wanted : goal.invariant-loop-wanted
invariant-loop-wanted l = spec.any_marked (drop l.wanted-index l.breaks) l.entry.event l.mark ≡ spec.any_marked l.breaks l.entry.event l.mark
