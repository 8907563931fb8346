use Rattle.std.proofs.Common.{◌≡◌, ◌++◌}
use Rattle.why_facts.proofs.ancestors.add_marked.Given as goal
use Rattle.why_facts.specs.Ancestors.{unsuccessful}

abbrev pub invariant-loop-left : goal.invariant-loop-left
invariant-loop-left l =
    l.out.items ++ unsuccessful l.first l.jobs l.at.run.now l.left l.marks
    ≡ l.initial.out.items ++ unsuccessful l.first l.jobs l.at.run.now l.at.place.job l.initial.marks

abbrev pub decreases-loop-left : goal.decreases-loop-left
decreases-loop-left l = l.left
