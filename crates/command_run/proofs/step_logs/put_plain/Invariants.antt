use Rattle.std.proofs.Common.{length}
use denote.Shadow.{shadow}
use denote.Text.{Utf8}
use Rattle.command_run.proofs.LogTexts.{ShownLine}
use Rattle.command_run.proofs.step_logs.put_plain.Given as goal

-- some of the line was shown
abbrev pub invariant-loop-rest : goal.invariant-loop-rest
invariant-loop-rest g l =
    ShownLine l.given l.fn.log l.log l.line l.rest (g.O.Sink.seen l.fn.out) (g.O.Sink.seen l.out) × shadow (Utf8 l.rest)

abbrev pub decreases-loop-rest : goal.decreases-loop-rest
decreases-loop-rest g l = length l.rest
