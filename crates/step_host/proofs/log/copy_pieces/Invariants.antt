use Rattle.std.specs.Io.Take.{take_remaining}
use Rattle.step_host.proofs.Copied.{Copied}
use Rattle.step_host.proofs.log.copy_pieces.Given as goal

-- what was read so far was written, and its last byte is kept
abbrev pub invariant-loop : goal.invariant-loop
invariant-loop g l =
    Copied (take_remaining g.R.Read.remaining l.fn.from) (take_remaining g.R.Read.remaining l.from)
    (g.W.Write.contents l.fn.to) (g.W.Write.contents l.to) l.last
