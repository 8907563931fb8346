use Rattle.std.proofs.Common.{vec_len}
use Rattle.case_hosts.proofs.held_calls.give_up.Given as goal

abbrev pub decreases-loop-call : goal.decreases-loop-call
decreases-loop-call g l = vec_len l.held
