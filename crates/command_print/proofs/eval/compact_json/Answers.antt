use Rattle.std.proofs.Common.{◌≡◌, ap, ◌∙◌}
use Rattle.std.proofs.lemmas.Result.{IfOk-weaker}
use Rattle.status_table.specs.Words.{json_of}
use Rattle.serde_json.specs.View.{view}
use Rattle.serde_json.specs.Written.{has_float, compact_text}
use Rattle.expr_value.proofs.JsonTexts.{no_float}
use Rattle.command_print.proofs.eval.compact_json.Goals as goal

pub returns : goal.returns
returns c =
    let is : view c.in_ok-json.json ≡ json_of c.args.value = c.in_ok-json.ensures.json in
    IfOk-weaker c.to_string.result _ _ (λ s h. h (ap has_float is ∙ no_float c.args.value) ∙ ap compact_text is) c.to_string.ensures.text
