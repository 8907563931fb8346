use Rattle.std.proofs.Common.{◌≡◌, ◌≢◌, Some, ap, subst, ◌∙◌}
use Rattle.expr_reader.specs.Fold.{fold}
use Rattle.group_admission.proofs.Known.{known_changed_at}
use Rattle.group_admission.proofs.Named.{IsSound-left, awaited_left, held_left, other_left}
use Rattle.group_admission.specs.Cells.{held_in, known_in}
use Rattle.group_admission.specs.Content.{Content, after_release, after_withdraw, holder_of, left_by, waiter_of}
use Rattle.group_admission.specs.Known.{Known, content, is_known}
use Rattle.group_admission.proofs.groups.Groups.leave_name.Goals as goal

pub invariant_of-self : goal.invariant_of-self
invariant_of-self c = rw c.leave_name.ensures (IsSound-left c.args.member (fold c.args.name.now) c.self.inside.cells.items c.self.invariant)

pub returns-clause-held : goal.returns-clause-held
returns-clause-held c =
    let m = c.args.member in
    let name = fold c.args.name.now in
    subst (λ (g : Content). holder_of name g ≡ Some m → held_in c.leave_name.new.cells.items ≡ after_release m g) (ap content c.self.view_is)
    (λ is. ap held_in c.leave_name.ensures ∙ held_left m name c.self.inside.cells.items c.self.invariant is)

pub returns-clause-awaited : goal.returns-clause-awaited
returns-clause-awaited c =
    let m = c.args.member in
    let name = fold c.args.name.now in
    subst (λ (g : Content). waiter_of name g ≡ Some m → held_in c.leave_name.new.cells.items ≡ after_withdraw m g) (ap content c.self.view_is)
    (λ is. ap held_in c.leave_name.ensures ∙ awaited_left m name c.self.inside.cells.items c.self.invariant is)

pub returns-clause-other : goal.returns-clause-other
returns-clause-other c =
    let m = c.args.member in
    let name = fold c.args.name.now in
    subst (λ (g : Content). holder_of name g ≢ Some m → waiter_of name g ≢ Some m → held_in c.leave_name.new.cells.items ≡ g) (ap content c.self.view_is)
    (λ holder waiter. ap held_in c.leave_name.ensures ∙ other_left m name c.self.inside.cells.items c.self.invariant holder waiter)

pub returns-clause-known : goal.returns-clause-known
returns-clause-known c = λ q.
    let name = fold c.args.name.now in
    let cells = c.self.inside.cells.items in
    ap (λ new. is_known q (known_in new)) c.leave_name.ensures ∙ known_changed_at q (left_by c.args.member) name cells
    ∙ ap (λ (known : Known). is_known q known) c.self.view_is
