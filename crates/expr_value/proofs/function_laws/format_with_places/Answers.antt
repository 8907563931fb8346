use Rattle.expr_value.proofs.FormatLaws.{format_with_places}
use Rattle.expr_value.proofs.function_laws.format_with_places.Goals as goal

pub returns : goal.returns
returns c = format_with_places
