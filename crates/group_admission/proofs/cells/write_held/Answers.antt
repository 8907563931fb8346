use Rattle.std.proofs.Common.{◌≡◌, refl, false, slice_get, sym, ◌∙◌, rules}
use Rattle.expr_reader.specs.Fold.{fold}
use Rattle.group_admission.proofs.Search.{count_within}
use Rattle.group_admission.proofs.Written.{insert_cell}
use Rattle.group_admission.specs.Cells.{count_below, is_of}
use Rattle.group_admission.proofs.cells.write_held.Goals as goal

pub insert-requires : goal.insert-requires
insert-requires c = let within = count_within (fold c.args.name.now) c.args.cells.now.items in search rules

pub returns-clause-ok : goal.returns-clause-ok
returns-clause-ok c =
    let name = fold c.args.name.now in
    let cells = c.args.cells.now.items in
    let at : c.place_of-place.result ≡ count_below name cells = c.place_of-place.ensures ∙ rw c.deref.ensures.value refl in
    let other : is_of name (slice_get cells (count_below name cells)) ≡ false =
    sym (rw (c.deref-2.ensures.value, at) at c.if-is_of.ensures) in
    let named : c.new-name.result ≡ name = c.new-name.ensures ∙ c.in_ok-fold.ensures in
    c.in_ok-insert.ensures.items ∙ rw (at, named) (insert_cell name c.args.held cells other)
