use Rattle.std.proofs.Common.{◌≡◌, ◌+◌, List, ◌∷◌, ◌++◌, drop, ap, sym, ◌∙◌, append_assoc}
use Rattle.std.specs.List.{flat_map}
use Rattle.expr_value.specs.Dereference.{contents}
use Rattle.expr_value.specs.Seen.{item_seen, items_seen}
use Rattle.expr_value.specs.declared.item.Item.{Item}
use Rattle.flow_model.proofs.Conversions.{drop-next}
use Rattle.flow_model.specs.Plain.{Plain}
use Rattle.expr_value.proofs.filter.all_contents.Goals as goal

pub loop-item-preserved : goal.loop-item-preserved
loop-item-preserved c =
    let items = c.args.items.now in
    let i = c.loop-item.item-index in
    let found = items_seen c.loop-item.found.items in
    let left = flat_map contents (items_seen (drop (i + 1) items)) in
    let here : drop i items ≡ c.item-item.result ∷ drop (i + 1) items = drop-next items i c.item-item.result c.loop-item-test.true c.item-item.is in
    ap (λ (vs : List Plain). vs ++ left) c.in_ok-push_contents.ensures ∙ append_assoc found (contents (item_seen c.item-item.result)) left
    ∙ ap (λ (is : List Item). found ++ flat_map contents (items_seen is)) (sym here) ∙ c.loop-item.invariant
