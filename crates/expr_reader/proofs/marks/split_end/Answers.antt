-- The text is cut at the place of the end.
use Rattle.std.proofs.Common.{◌≡◌, false, Some, drop, sym, ap, ◌∙◌}
use Rattle.expr_reader.specs.Template.{end_place}
use Rattle.expr_reader.proofs.MarkPlaces.{end_boundary, end_dropped}
use Rattle.expr_reader.proofs.marks.split_end.Goals as goal

pub split_at-requires : goal.split_at-requires
split_at-requires c =
    let closed : end_place false c.args.text.now ≡ Some c.in_ok-place.place = ap (end_place false) (sym c.as_bytes.ensures.value) ∙ sym c.end_place.ensures ∙ c.in_ok-place.was in
    end_boundary c.args.text.now c.in_ok-place.place c.utf8.text closed

pub returns : goal.returns
returns c =
    let closed : end_place false c.args.text.now ≡ Some c.in_ok-place.place = ap (end_place false) (sym c.as_bytes.ensures.value) ∙ sym c.end_place.ensures ∙ c.in_ok-place.was in
    (c.in_ok-place.place, closed, c.split_at.ensures.front, c.split_at-2.ensures.back ∙ ap (drop 2) (c.split_at.ensures.back ∙ end_dropped c.args.text.now c.in_ok-place.place closed))
