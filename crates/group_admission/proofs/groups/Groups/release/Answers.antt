use Rattle.std.proofs.Common.{ap, ◌∙◌}
use Rattle.group_admission.proofs.Changed.{IsSound-released, held_in-changed}
use Rattle.group_admission.proofs.Known.{known_changed}
use Rattle.group_admission.specs.Cells.{held_in, known_in}
use Rattle.group_admission.specs.Content.{released, each_held}
use Rattle.group_admission.specs.Known.{Known, content, is_known}
use Rattle.group_admission.proofs.groups.Groups.release.Goals as goal

pub invariant_of-self : goal.invariant_of-self
invariant_of-self c = rw c.release_all.ensures (IsSound-released c.args.member c.self.inside.cells.items c.self.invariant)

pub returns-clause-groups : goal.returns-clause-groups
returns-clause-groups c =
    ap held_in c.release_all.ensures ∙ held_in-changed (released c.args.member) c.self.inside.cells.items
    ∙ ap (λ (known : Known). each_held (released c.args.member) (content known)) c.self.view_is

pub returns-clause-known : goal.returns-clause-known
returns-clause-known c = λ q.
    ap (λ new. is_known q (known_in new)) c.release_all.ensures ∙ known_changed q (released c.args.member) c.self.inside.cells.items
    ∙ ap (λ (known : Known). is_known q known) c.self.view_is
