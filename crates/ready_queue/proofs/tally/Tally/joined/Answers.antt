use Rattle.std.proofs.Common.{arith}
use Rattle.ready_queue.proofs.Words.{ahead_joined}
use Rattle.ready_queue.proofs.tally.Tally.joined.Goals as goal

pub returns : goal.returns
returns c = λ puts takes more others h k. (omega arith, omega arith, ahead_joined puts takes c.args.self.ahead more others c.args.other.ahead h.2 k.2, omega arith)
