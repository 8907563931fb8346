use Rattle.std.proofs.Common.{◌≡◌, map, length, ap, ◌∙◌, arith}
use Rattle.std.proofs.lemmas.List.{length-map}
use Rattle.group_admission.proofs.Changed.{whole}
use Rattle.group_admission.specs.Cells.{changed}
use Rattle.group_admission.specs.Content.{withdrawn}
use Rattle.group_admission.proofs.cells.withdraw_all.Goals as goal

pub returns : goal.returns
returns c =
    let cells = c.args.cells.now in
    let f = changed (withdrawn c.args.member) in
    let size : cells.len ≡ length cells.items = omega (arith, cells.ok.0) in
    let new : c.withdraw_each.new.cells ≡ map f cells.items = c.withdraw_each.ensures ∙ ap (map f) c.deref_mut.ensures.value in
    rw size (whole c.withdraw_each.new.cells cells.items (ap length new ∙ length-map cells.items f)) ∙ new
