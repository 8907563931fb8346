use Rattle.std.proofs.Common.{◌≡◌, ◌++◌, drop}
use Rattle.why_causes.specs.Causes.{asked}
use Rattle.why_causes.specs.declared.question.Question.TheVariants as Question
use Rattle.command_why.specs.Roots.{run_is_asked}
use Rattle.command_why.proofs.roots.add_runs.Given as goal

abbrev pub invariant-loop-place : goal.invariant-loop-place
invariant-loop-place l =
    l.out.items ++ asked Question.Run l.place run_is_asked (drop l.place l.runs) ≡ l.initial.out.items ++ asked Question.Run 0 run_is_asked l.runs
