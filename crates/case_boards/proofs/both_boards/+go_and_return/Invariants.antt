use Rattle.std.proofs.Common.{length}
use Rattle.case_boards.proofs.both_boards.+go_and_return.Given as goal

abbrev pub decreases-go_and_return : goal.decreases-go_and_return
decreases-go_and_return g l = length l.entries.now
