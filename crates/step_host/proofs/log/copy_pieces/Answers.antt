use Rattle.std.proofs.Common.{rules, take}
use Rattle.step_host.proofs.Copied.{piece_copied}
use Rattle.step_host.proofs.log.copy_pieces.Goals as goal

pub loop-preserved : goal.loop-preserved
loop-preserved g c =
    piece_copied _ _ _ _ _ _ _ _ (take c.in_ok-count.count c.read.new.buf) c.loop.invariant
    (search rules) (search rules) (search rules) (search rules)
