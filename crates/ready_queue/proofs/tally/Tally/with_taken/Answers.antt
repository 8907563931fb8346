use Rattle.std.proofs.Common.{arith}
use Rattle.ready_queue.proofs.Words.{ahead_taken}
use Rattle.ready_queue.proofs.tally.Tally.with_taken.Goals as goal

pub returns : goal.returns
returns c = λ puts takes h. (h.0, omega arith, ahead_taken puts takes c.args.self.ahead h.2, omega arith)
