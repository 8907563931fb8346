use Rattle.std.proofs.Common.{◌≡◌, Some, None, sym, ap, subst, ◌∙◌}
use Rattle.expr_reader.specs.Fold.{fold}
use Rattle.flow_model.specs.Mapping.{value_at, Ascends}
use Rattle.group_admission.proofs.Known.{grows_with_pair}
use Rattle.group_admission.proofs.Lookups.{Ascends-held_in}
use Rattle.group_admission.proofs.Once.{once_first, once_further}
use Rattle.group_admission.specs.Cells.{held_in}
use Rattle.group_admission.specs.Content.{EachOnce}
use Rattle.group_admission.specs.Known.{Grows, Known, content}
use Rattle.group_admission.proofs.groups.Groups.enter_named.Goals as goal

pub hold-requires : goal.hold-requires
hold-requires c =
    let name = fold c.args.name.now in
    let groups = content c.args.self.now in
    let once : EachOnce groups = rw (← c.self.view_is) c.self.invariant.once in
    let found : value_at name groups ≡ None =
    sym (c.held_at.ensures ∙ ap (λ cells. value_at name (held_in cells)) c.as_slice.ensures.value ∙ ap (λ known. value_at name (content known)) c.self.view_is) ∙ c.in-None.is in
    rw c.first.ensures (once_first c.args.member groups once c.requires name found)

pub hold-requires-in-Some-2 : goal.hold-requires-in-Some-2
hold-requires-in-Some-2 c =
    let name = fold c.args.name.now in
    let groups = content c.args.self.now in
    let once : EachOnce groups = rw (← c.self.view_is) c.self.invariant.once in
    let sorted : Ascends groups = rw (← c.self.view_is) (Ascends-held_in c.self.inside.cells.items c.self.invariant.ordered) in
    let found : value_at name groups ≡ Some c.in-Some.held =
    sym (c.held_at.ensures ∙ ap (λ cells. value_at name (held_in cells)) c.as_slice.ensures.value ∙ ap (λ known. value_at name (content known)) c.self.view_is) ∙ c.in-Some.is in
    rw c.joined.ensures (once_further c.args.member groups once c.requires name c.in-Some.held sorted found)

pub returns-in_ok-hold-in-None-clause-known : goal.returns-in_ok-hold-in-None-clause-known
returns-in_ok-hold-in-None-clause-known c =
    let name = fold c.args.name.now in
    subst (λ (known : Known). Grows name c.args.self.now known) (sym c.in_ok-hold-in-None.ensures.known) (grows_with_pair name (Some c.first.result) c.args.self.now)

pub returns-in_ok-hold-in-Some-2-clause-known : goal.returns-in_ok-hold-in-Some-2-clause-known
returns-in_ok-hold-in-Some-2-clause-known c =
    let name = fold c.args.name.now in
    subst (λ (known : Known). Grows name c.args.self.now known) (sym c.in_ok-hold-in-Some-2.ensures.known) (grows_with_pair name (Some c.joined.result) c.args.self.now)
