use Rattle.std.proofs.Common.{◌↔◌, drop}
use Rattle.board_settled.specs.Words.{AllZip, ByAnswers, RunIsSettled, runs_from}
use Rattle.board_settled.proofs.check.are_runs_settled.Given as goal

-- The runs that are left are settled where all are.
abbrev pub invariant-loop-number : goal.invariant-loop-number
invariant-loop-number g l =
    ByAnswers (g.H.StepHost.admits l.host) (g.H.StepHost.declines l.host) (λ answers.
    AllZip RunIsSettled (runs_from answers l.first (drop l.number l.plan.runs)) (drop l.number l.board.runs)
    ↔ AllZip RunIsSettled (runs_from answers 0 l.plan.runs) l.board.runs)
