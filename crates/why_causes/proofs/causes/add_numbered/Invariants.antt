use Rattle.std.proofs.Common.{◌≡◌, ◌++◌, map, drop}
use Rattle.why_causes.proofs.causes.add_numbered.Given as goal
use Rattle.why_causes.specs.declared.question.Question.{Question}

abbrev pub invariant-loop-number : goal.invariant-loop-number
invariant-loop-number l =
    l.out.items ++ map Question.Job (drop l.number-index l.numbers) ≡ l.initial.out.items ++ map Question.Job l.numbers
