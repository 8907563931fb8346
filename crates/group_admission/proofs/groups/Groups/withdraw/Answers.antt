use Rattle.std.proofs.Common.{ap, ◌∙◌}
use Rattle.group_admission.proofs.Changed.{IsSound-withdrawn, held_in-changed}
use Rattle.group_admission.proofs.Known.{known_changed}
use Rattle.group_admission.specs.Cells.{held_in, known_in}
use Rattle.group_admission.specs.Content.{withdrawn, each_held}
use Rattle.group_admission.specs.Known.{Known, content, is_known}
use Rattle.group_admission.proofs.groups.Groups.withdraw.Goals as goal

pub invariant_of-self : goal.invariant_of-self
invariant_of-self c = rw c.withdraw_all.ensures (IsSound-withdrawn c.args.member c.self.inside.cells.items c.self.invariant)

pub returns-clause-groups : goal.returns-clause-groups
returns-clause-groups c =
    ap held_in c.withdraw_all.ensures ∙ held_in-changed (withdrawn c.args.member) c.self.inside.cells.items
    ∙ ap (λ (known : Known). each_held (withdrawn c.args.member) (content known)) c.self.view_is

pub returns-clause-known : goal.returns-clause-known
returns-clause-known c = λ q.
    ap (λ new. is_known q (known_in new)) c.withdraw_all.ensures ∙ known_changed q (withdrawn c.args.member) c.self.inside.cells.items
    ∙ ap (λ (known : Known). is_known q known) c.self.view_is
