use Rattle.std.proofs.Common.{ap, ◌∙◌}
use Rattle.std.proofs.lemmas.Result.{IfOk-weaker}
use Rattle.flow_model.specs.Json.{json_of, value_of}
use Rattle.flow_model.proofs.Conversions.{value_again}
use Rattle.flow_model.proofs.json.into_json.Goals as goal

pub returns-clause-back : goal.returns-clause-back
returns-clause-back c =
    IfOk-weaker c.node_into_json.result _ _ (λ json e h. ap value_of (e ∙ ap json_of c.into_node.ensures) ∙ value_again c.args.value h) c.node_into_json.ensures
