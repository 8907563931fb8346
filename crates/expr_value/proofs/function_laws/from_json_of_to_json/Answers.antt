use Rattle.expr_value.proofs.JsonAgain.{from_json_of_to_json}
use Rattle.expr_value.proofs.function_laws.from_json_of_to_json.Goals as goal

pub returns : goal.returns
returns c = from_json_of_to_json
