use Rattle.std.proofs.Common.{arith}
use Rattle.ready_queue.proofs.Words.{ahead_put}
use Rattle.ready_queue.proofs.tally.Tally.with_put.Goals as goal

pub returns : goal.returns
returns c = λ puts takes h. (omega arith, h.1, ahead_put puts takes c.args.self.ahead h.2, omega arith)
