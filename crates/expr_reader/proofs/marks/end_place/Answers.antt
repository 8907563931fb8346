-- One byte more is no end.
use Rattle.std.proofs.Common.{◌≡◌, ◌+◌, Bool, false, drop, sym, ap, ◌∙◌}
use Rattle.expr_reader.specs.Template.{begins_end, end_place}
use Rattle.expr_reader.proofs.MarkPlaces.{further, end_further}
use Rattle.expr_reader.proofs.marks.end_place.Goals as goal
use Rattle.expr_reader.proofs.marks.end_place.Goals.{else-not-quoted-via-then-not-quoted+else-begins_end, else-not-quoted-via-else-not-quoted}

pub loop-place-preserved : goal.loop-place-preserved
loop-place-preserved c =
    let i = c.loop-place.place in
    let bs = c.args.bytes.now in
    let none : c.loop-place.quoted ≡ false → begins_end (drop i bs) ≡ false =
    elim c.else-not-quoted.branch [
      | else-not-quoted-via-then-not-quoted+else-begins_end w ↦ λ plain. sym (w.if-begins_end.ensures ∙ ap begins_end w.tail.ensures)
      | else-not-quoted-via-else-not-quoted w ↦ λ plain. cc
    ] in
    ap (λ (q : Bool). further (i + 1) (end_place q (drop (i + 1) bs))) c.open_after-quoted.ensures ∙ sym (end_further i c.loop-place.quoted bs c.loop-place-test.true none) ∙ c.loop-place.invariant
