-- One byte more is no mark.
use Rattle.std.proofs.Common.{◌≡◌, false, drop, sym, ap, ◌∙◌, arith}
use Rattle.expr_reader.specs.Template.{begins_mark}
use Rattle.expr_reader.proofs.MarkPlaces.{mark_further}
use Rattle.expr_reader.proofs.marks.mark_place.Goals as goal

pub loop-place-preserved : goal.loop-place-preserved
loop-place-preserved c =
    let none : begins_mark (drop c.loop-place.place c.args.bytes.now) ≡ false = sym (c.if-begins_mark.ensures ∙ ap begins_mark c.tail.ensures) in
    omega (arith, c.loop-place.invariant, mark_further c.loop-place.place c.args.bytes.now c.loop-place-test.true none)
