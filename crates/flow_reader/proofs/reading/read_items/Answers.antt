use Rattle.std.proofs.Common.{arith}
use Rattle.std.proofs.lemmas.Result.{err_from_is_err_and}
use Rattle.flow_reader.proofs.Lists.{made_begin, next_item, bad_item, all_read}
use Rattle.flow_reader.proofs.reading.read_items.Goals as goal

pub loop-place-init : goal.loop-place-init
loop-place-init g c = rw c.empty-read.ensures (made_begin _)

pub returns-in_err-read_item : goal.returns-in_err-read_item
returns-in_err-read_item g c =
    let p = err_from_is_err_and c.from_residual.result c.from_residual.ensures.1 in
    rw (p.1, p.2) (bad_item g.T.FromJson.reading c.loop-place.read c.loop-place.place c.args.items.now c.index-items-place.result _ c.in_err-read_item.field-0.0
    c.loop-place-test.true c.index-items-place.is c.loop-place.invariant c.in_err-read_item.ensures)

pub loop-place-preserved : goal.loop-place-preserved
loop-place-preserved g c =
    next_item g.T.FromJson.reading c.loop-place.read c.push.new.self c.loop-place.place c.args.items.now c.index-items-place.result _ c.in_ok-read_item.field-0
    c.loop-place-test.true c.index-items-place.is c.loop-place.invariant c.in_ok-read_item.ensures c.in_ok-push.ensures.ok

pub returns : goal.returns
returns g c = all_read g.T.FromJson.reading c.loop-place.read c.loop-place.place c.args.items.now _ (omega (arith, c.loop-place-test.false)) c.loop-place.invariant
