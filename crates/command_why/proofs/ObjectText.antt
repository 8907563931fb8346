-- The object of a line is its pieces.
use Rattle.std.proofs.Common.{◌≡◌, ℕ, List, refl}
use Rattle.json.specs.Print.{escape_byte}
use Rattle.serde_json.specs.Written.{compact_text}
use Rattle.why_causes.specs.declared.question.Question.{Question}
use Rattle.why_causes.specs.declared.tree.Line.{Line}
use Rattle.command_why.specs.Objects.{line_data, object_text}
use Rattle.command_why.specs.declared.summary.Summary.{Summary}

pub object_is : (line : Line) (because : List Question) (known : Summary) (name text : List ℕ)
    → object_text line because known name text ≡ compact_text (line_data line because known name text)
unfolding escape_byte
object_is line because known name text = refl
