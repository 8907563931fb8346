use Rattle.std.proofs.Common.{◌≡◌, true, false, rules}
use Rattle.std.specs.Str.{bytes_eq}
use Rattle.matrix_expand.proofs.Chosen.{found_here, passed_here}
use Rattle.matrix_expand.proofs.choices.found.Goals as goal

pub returns-then-eq : goal.returns-then-eq
returns-then-eq c =
    let p = c.loop-key-item.result in
    let same : bytes_eq c.args.name.now p.0.now ≡ true = search rules in
    found_here c.args.name.now c.args.row.now c.loop-key.key-index p _ c.loop-key-test.true c.loop-key-item.is same c.loop-key.invariant

pub loop-key-preserved : goal.loop-key-preserved
loop-key-preserved c =
    let p = c.loop-key-item.result in
    let other : bytes_eq c.args.name.now p.0.now ≡ false = search rules in
    passed_here c.args.name.now c.args.row.now c.loop-key.key-index p _ c.loop-key-test.true c.loop-key-item.is other c.loop-key.invariant
