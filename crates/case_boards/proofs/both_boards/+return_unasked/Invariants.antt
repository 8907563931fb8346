use Rattle.std.proofs.Common.{length}
use Rattle.case_boards.proofs.both_boards.+return_unasked.Given as goal

abbrev pub decreases-return_unasked : goal.decreases-return_unasked
decreases-return_unasked g l = length l.entries.now
