use Rattle.expr_value.proofs.FormatLaws.{doubled_braces}
use Rattle.expr_value.proofs.function_laws.format_with_doubled_braces.Goals as goal

pub returns : goal.returns
returns c = doubled_braces
