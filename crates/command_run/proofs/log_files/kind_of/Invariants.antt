use Rattle.command_run.proofs.LogTexts.{ReadSoFar}
use Rattle.command_run.proofs.log_files.kind_of.Given as goal

-- whole lines were read
abbrev pub invariant-loop-line : goal.invariant-loop-line
invariant-loop-line g l = ReadSoFar (g.S.Source.seen l.fn.log) (g.S.Source.seen l.log)

abbrev pub decreases-loop-line : goal.decreases-loop-line
decreases-loop-line g l = g.S.LineSource.turns_left l.log
