use Rattle.command_io.proofs.Known.{part_cut_off}
use Rattle.command_io.proofs.stream.put_parts.Goals as goal

pub returns-then-not-put : goal.returns-then-not-put
returns-then-not-put g c =
    part_cut_off (λ part. part.now) c.args.parts.now c.loop-part.part-index _ _ _ _ c.as_bytes.result.now c.loop-part-test.true c.loop-part.invariant c.as_bytes.ensures.value c.if-not-put.ensures
