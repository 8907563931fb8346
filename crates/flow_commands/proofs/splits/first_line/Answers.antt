-- The first line ends at the first newline, or at the end.
use Rattle.std.proofs.Common.{[], ◌∷◌, sym, arith}
use Rattle.flow_commands.proofs.Splitting.{lines_of-split, lines_of-last, split_first-shorter}
use Rattle.flow_commands.proofs.splits.first_line.Goals as goal

pub returns-in-Some-clause-lines : goal.returns-in-Some-clause-lines
returns-in-Some-clause-lines c = lines_of-split c.args.text.now c.in-Some.line.now c.in-Some.rest.now (sym c.in-Some.ensures)

pub returns-in-Some-clause-shorter : goal.returns-in-Some-clause-shorter
returns-in-Some-clause-shorter c = split_first-shorter (10 ∷ []) c.args.text.now c.in-Some.line.now c.in-Some.rest.now (omega arith) (sym c.in-Some.ensures)

pub returns-in-None-clause-lines : goal.returns-in-None-clause-lines
returns-in-None-clause-lines c = lines_of-last c.args.text.now c.requires (sym c.in-None.ensures)
