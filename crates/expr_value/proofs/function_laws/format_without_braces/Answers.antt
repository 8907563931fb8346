use Rattle.expr_value.proofs.FormatLaws.{without_braces}
use Rattle.expr_value.proofs.function_laws.format_without_braces.Goals as goal

pub returns : goal.returns
returns c = without_braces
