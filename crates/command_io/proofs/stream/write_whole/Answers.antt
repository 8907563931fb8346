use Rattle.std.proofs.Common.{◌++◌, take}
use Rattle.command_io.proofs.Known.{Appends-then, Appends-kept, piece_more}
use Rattle.command_io.proofs.stream.write_whole.Goals as goal

pub loop-preserved : goal.loop-preserved
loop-preserved g c =
    let (done, whole, appended) = c.loop.invariant in
    let rest = c.loop.rest.now in
    let count = c.in-Some.count in
    (done ++ take count rest, piece_more c.args.text.now done rest count whole, Appends-then _ _ _ done (take count rest) appended c.in-Some.ensures.0)

pub returns-in-None : goal.returns-in-None
returns-in-None g c =
    let (done, whole, appended) = c.loop.invariant in
    record { part = done; rest = c.loop.rest.now; whole = whole; appended = Appends-kept _ _ _ done appended c.in-None.ensures }
