use Rattle.std.proofs.Common.{◌≡◌, slice_get, Some, arith, refl}
use Rattle.std.proofs.lemmas.Option.{slice_get_read}
use Rattle.group_admission.proofs.cells.set_here.Goals as goal

pub returns-then-place-len : goal.returns-then-place-len
returns-then-place-len c =
    let cells = c.args.cells.now in
    let there : slice_get cells.items c.args.place ≡ Some c.index_mut.result.now =
    slice_get_read cells.items c.len.result c.args.place c.index_mut.result.now (omega (arith, cells.ok.0)) c.if-place-len.true c.index_mut.ensures.value in
    rw there refl
