use Rattle.std.proofs.Common.{◌≡◌, Some, [], length}
use denote.Shadow.{shadow}
use denote.Text.{Utf8}
use Rattle.expr_value.specs.Format.{formatted}
use Rattle.expr_value.specs.Formatting.{ended, texts_of}
use Rattle.expr_value.proofs.format.format.Given as goal

-- What is still to come has the value of the whole.
abbrev pub invariant-pieces : goal.invariant-pieces
invariant-pieces l = (ended l.bounded (formatted (texts_of l.arguments) l.rest) ≡ ended (Some []) (formatted (texts_of l.arguments) l.text)) × shadow (Utf8 l.rest)

abbrev pub decreases-pieces : goal.decreases-pieces
decreases-pieces l = length l.rest
