use Rattle.std.proofs.Common.{◌≡◌, refl, rules, tests}
use Rattle.std.specs.Char.{to_ascii_lowercase}
use Rattle.std.specs.Ordering.{nat_cmp}
use Rattle.std.proofs.lemmas.Iterator.{YieldsList-from_map}
use Rattle.std.proofs.lemmas.Iterator.Adapters.{YieldsList-from_bytes}
use Rattle.std.proofs.lemmas.Iterator.Search.{cmp_from_yields_List}
use Rattle.expr_value.proofs.compare.text_order.Goals as goal

pub returns : goal.returns
returns c =
    cmp_from_yields_List (λ x y. y ≡ x) _ nat_cmp _ c.cmp.ensures.ran
    (YieldsList-from_map _ to_ascii_lowercase (YieldsList-from_bytes c.args.left.now (cc)) c.map.ensures.closure (λ x r q k. search (rules, tests)))
    (λ it e. YieldsList-from_map _ to_ascii_lowercase (YieldsList-from_bytes c.args.right.now (cc)) (cc) (λ x r q k. search (rules, tests)))
    (λ x y. refl)
