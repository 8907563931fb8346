use Rattle.std.proofs.lemmas.Result.{IfOk-weaker}
use Rattle.json.specs.Value.{value_view}
use Rattle.plan_text.proofs.tokens.next_tree.Goals as goal

pub returns : goal.returns
returns c =
    let found = c.in_ok-outline in
    IfOk-weaker c.tree_of.result _ _ (λ tree stands. record { json = value_view found.outline; tokens = found.ensures.tokens; low = found.ensures.low; stands = stands }) c.tree_of.ensures
