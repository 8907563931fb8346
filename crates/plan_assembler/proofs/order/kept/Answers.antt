use Rattle.std.proofs.Common.{arith}
use Rattle.plan_assembler.proofs.order.kept.Goals as goal

pub returns-clause-long : goal.returns-clause-long
returns-clause-long c = rw c.new.ensures (omega (arith, c.loop-place.order.ok.0, c.loop-place.order.ok.1, c.loop-place.order.small))
