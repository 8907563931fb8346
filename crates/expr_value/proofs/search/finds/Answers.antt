use Rattle.std.proofs.Common.{◌≡◌, ◌∙◌, ap, sym}
use Rattle.std.proofs.lemmas.Result.{IfOk-weaker}
use Rattle.expr_value.specs.Functions.{contains}
use Rattle.expr_value.specs.Searching.{contains_kind, finds}
use Rattle.expr_value.specs.Seen.{item_seen, kind_seen}
use Rattle.flow_model.specs.Value.{view}
use Rattle.expr_value.proofs.Searches.{contains_by_kind}
use Rattle.expr_value.proofs.search.finds.Goals as goal

pub returns-in-Anywhere : goal.returns-in-Anywhere
returns-in-Anywhere c =
    let v = item_seen c.args.item.now in
    let same : contains_kind (view c.node.result.now) (kind_seen c.kind.result) ≡ contains v (item_seen c.args.value.now) =
    ap (λ w. contains_kind w (kind_seen c.kind.result)) c.node.ensures
    ∙ ap (contains_kind v) c.kind.ensures
    ∙ sym (contains_by_kind v (item_seen c.args.value.now)) in
    IfOk-weaker c.contains.result _ _ (λ b h. h ∙ same ∙ ap (λ place. finds place v (item_seen c.args.value.now)) (sym c.in-Anywhere.is)) c.contains.ensures
