use Rattle.std.proofs.Common.{take, flat_map}
use Rattle.command_io.specs.Stream.{IsWritten}
use Rattle.command_io.proofs.stream.put_parts.Given as goal

-- the parts so far were written
abbrev pub invariant-loop-part : goal.invariant-loop-part
invariant-loop-part g l = IsWritten (g.S.Sink.seen l.fn.sink) (g.S.Sink.seen l.sink) (flat_map (λ part. part.now) (take l.part-index l.parts))
