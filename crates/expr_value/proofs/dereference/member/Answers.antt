use Rattle.std.proofs.Common.{◌≡◌, true, Some, None, List, String, Global, string_bytes, ap, sym, ◌∙◌}
use Rattle.std.specs.Option.{option_copied}
use Rattle.expr_value.proofs.Lists.{property_in-exact, property_in-alike, first_at-here}
use Rattle.expr_value.specs.Dereference.{first_at, is_alike}
use Rattle.flow_model.proofs.Pairs.{pairs-lookup}
use Rattle.flow_model.specs.Mapping.{pairs_of, value_at}
use Rattle.flow_model.specs.Plain as plain
use Rattle.flow_model.specs.Value.{view, viewed}
use Rattle.flow_model.specs.declared.value.Node.{Node}
use Rattle.expr_value.proofs.dereference.member.Goals as goal

pub returns-in-Some : goal.returns-in-Some
returns-in-Some c =
    let es = c.args.members.now.entries in
    let at : value_at c.args.name.now (pairs_of es) ≡ Some c.in-Some.node.now =
    sym (pairs-lookup c.args.name.now es) ∙ sym c.get.ensures.value ∙ ap option_copied c.in-Some.is in
    sym (property_in-exact c.args.name.now (pairs_of es) c.in-Some.node.now at)

pub returns-then-is_alike : goal.returns-then-is_alike
returns-then-is_alike c =
    let name = c.args.name.now in
    let es = c.args.members.now.entries in
    let none : value_at name (pairs_of es) ≡ None = sym (pairs-lookup name es) ∙ sym c.get.ensures.value ∙ ap option_copied c.in_default.is in
    let left : first_at (is_alike name) (plain.member (string_bytes c.in-Some-2.key.now) (view c.in-Some-2.node.now) (plain.members_of (viewed (pairs_of c.next.new.self)))) ≡ first_at (is_alike name) (plain.members_of (viewed (pairs_of es))) =
    ap (λ (left : List (String Global × Node)). first_at (is_alike name) (plain.members_of (viewed (pairs_of left)))) (sym c.in-Some-2.ensures.steps) ∙ c.loop-key.invariant in
    let alike : is_alike name (string_bytes c.in-Some-2.key.now) ≡ true = ap (is_alike name) (sym c.as_str.ensures.value) ∙ sym c.is_alike.ensures ∙ c.if-is_alike.true in
    sym (property_in-alike name (pairs_of es) none ∙ sym left ∙ first_at-here (is_alike name) _ _ _ alike)

pub returns : goal.returns
returns c =
    let name = c.args.name.now in
    let es = c.args.members.now.entries in
    let none : value_at name (pairs_of es) ≡ None = sym (pairs-lookup name es) ∙ sym c.get.ensures.value ∙ ap option_copied c.in_default.is in
    sym (property_in-alike name (pairs_of es) none ∙ sym c.loop-key.invariant ∙ ap (λ (left : List (String Global × Node)). first_at (is_alike name) (plain.members_of (viewed (pairs_of left)))) c.in-None.ensures.steps.0)
