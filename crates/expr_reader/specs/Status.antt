-- Which tokens name a status function.
use Rattle.std.specs.Prelude.{Bool, false}
use Rattle.expr_reader.specs.Grammar.{Token, callee}
use Rattle.expr_reader.specs.Template.{is_status}

abbrev pub token_names_status : Token → Bool
token_names_status (callee f) = is_status f
token_names_status t = false
