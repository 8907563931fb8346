use Rattle.command_run.proofs.LogTexts.{ToldLines}
use Rattle.command_run.proofs.step_logs.put_lines.Given as goal

-- the lines so far were told
abbrev pub invariant-loop-line : goal.invariant-loop-line
invariant-loop-line g l =
    ToldLines l.given l.fn.log l.log (g.S.Source.seen l.fn.lines) (g.S.Source.seen l.lines) (g.O.Sink.seen l.fn.out) (g.O.Sink.seen l.out)

abbrev pub decreases-loop-line : goal.decreases-loop-line
decreases-loop-line g l = g.S.LineSource.turns_left l.lines
