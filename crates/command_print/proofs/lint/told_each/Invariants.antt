use Rattle.command_print.proofs.Linted.{GoingFiles}
use Rattle.command_print.proofs.lint.told_each.Given as goal

-- what is told of the files so far
abbrev pub invariant-loop-file : goal.invariant-loop-file
invariant-loop-file l = GoingFiles l.files l.file-index l.tolds.items
