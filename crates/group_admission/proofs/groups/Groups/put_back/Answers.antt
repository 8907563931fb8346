use Rattle.std.proofs.Common.{ap, subst, sym, ◌∙◌}
use Rattle.expr_reader.specs.Fold.{fold}
use Rattle.group_admission.proofs.Known.{IsSound-put, known_in_put_at}
use Rattle.group_admission.specs.Cells.{known_in}
use Rattle.group_admission.specs.Content.{EachOnce}
use Rattle.group_admission.specs.Known.{Known, content, put_known}
use Rattle.group_admission.proofs.groups.Groups.put_back.Goals as goal

pub invariant_of-self : goal.invariant_of-self
invariant_of-self c =
    let name = fold c.args.name.now in
    rw c.put_held.ensures (IsSound-put name c.args.held c.self.inside.cells.items c.self.invariant
    (subst (λ (known : Known). EachOnce (content (put_known name c.args.held known))) (sym c.self.view_is) c.requires))

pub returns : goal.returns
returns c =
    let name = fold c.args.name.now in
    ap known_in c.put_held.ensures ∙ known_in_put_at name c.args.held c.self.inside.cells.items c.self.invariant.ordered
    ∙ ap (put_known name c.args.held) c.self.view_is
