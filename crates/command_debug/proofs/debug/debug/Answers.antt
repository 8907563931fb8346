use Rattle.std.proofs.Common.{inr, refl}
use Rattle.command_io.proofs.Told.{IsKept-same}
use Rattle.command_debug.proofs.debug.debug.Goals as goal

pub returns-in-Err : goal.returns-in-Err
returns-in-Err g c =
    inr (c.in-Err.error, c.in-Err.ensures, refl, record { kept = IsKept-same (g.O.Sink.seen c.args.out.now); said = c.refuse.ensures.line; is = c.refuse.ensures.status })
