use Rattle.expr_value.proofs.FormatLaws.{place_given, place_missing}
use Rattle.expr_value.proofs.function_laws.format_with_one_place.Goals as goal

pub returns-clause-given : goal.returns-clause-given
returns-clause-given c = place_given

pub returns-clause-missing : goal.returns-clause-missing
returns-clause-missing c = place_missing
