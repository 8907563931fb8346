use Rattle.std.proofs.Common.{◌≡◌, ◌++◌, drop}
use Rattle.why_causes.specs.Causes.{needs_asked}
use Rattle.why_causes.proofs.causes.add_needs.Given as goal

abbrev pub invariant-loop-need : goal.invariant-loop-need
invariant-loop-need l =
    l.out.items ++ needs_asked l.first l.run (drop l.need-index l.needs)
    ≡ l.initial.out.items ++ needs_asked l.first l.run l.needs
