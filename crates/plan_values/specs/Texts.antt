-- The values of a plan's texts over contexts.
use Rattle.std.specs.Prelude.{ℕ, Bool, false, Option, Some, None, Result, Ok, Err, List, [], codes}
use Rattle.std.specs.Str.{bytes_eq}
use Rattle.expr_reader.specs.Accepts.{template_read, condition_read}
use Rattle.expr_reader.specs.Fold.{fold}
use Rattle.expr_reader.specs.Template.{Piece}
use Rattle.expr_value.specs.Condition.{condition_holds}
use Rattle.expr_value.specs.Context.{Contexts}
use Rattle.expr_value.specs.Evaluate.{Answer}
use Rattle.expr_value.specs.Functions.{is_success}
use Rattle.expr_value.specs.Template.{template_value, text_answer}
use Rattle.expr_value.specs.declared.status.Status.{Status}
use Rattle.expr_value.specs.declared.status.Status.TheVariants.{Success}
use Rattle.flow_model.specs.Plain.{Plain, null, truth, whole, text, list, map}
use Rattle.flow_model.specs.declared.plan.Flag.{Flag}
use Rattle.flow_model.specs.declared.plan.Flag.TheVariants.{Truth, Text}
use Rattle.flow_model.specs.declared.reply.ValueFault.{ValueFault}

-- The value of a template that was read, which is the same under every status; what is no template has the
-- empty text.
abbrev pub read_value : Contexts → Option (List Piece) → Answer
read_value c None = Ok (text [])
read_value c (Some ps) = template_value c Success ps

-- The value of a text that is a template.
unfoldable pub text_value : Contexts → List ℕ → Answer
text_value c bytes = read_value c (template_read bytes)

-- The value of a text, turned to text.
unfoldable pub text_text : Contexts → List ℕ → Result (List ℕ) ValueFault
text_text c bytes = text_answer (text_value c bytes)

-- A condition that was read holds; what is no condition does not.
abbrev pub read_holds : Contexts → Status → Option (List Piece) → Result Bool ValueFault
read_holds c s None = Ok false
read_holds c s (Some ps) = condition_holds c s ps

-- A condition holds under a status; no condition is `success()`.
unfoldable pub condition_value : Contexts → Status → Option (List ℕ) → Result Bool ValueFault
condition_value c s None = Ok (is_success s)
condition_value c s (Some bytes) = read_holds c s (condition_read bytes)

-- It is `true`, or a text equal to `true` ignoring case.
abbrev pub says_true : Plain → Bool
says_true null = false
says_true (truth b) = b
says_true (whole z) = false
says_true (text bytes) = bytes_eq (fold bytes) (codes "true")
says_true (list vs) = false
says_true (map ms) = false

-- A fault counts as false.
abbrev pub answers_true : Answer → Bool
answers_true (Ok v) = says_true v
answers_true (Err fault) = false

-- A truth value is itself; a text is evaluated.
unfoldable pub flag_value : Contexts → Flag → Bool
flag_value c (Truth b) = b
flag_value c (Text bytes) = answers_true (text_value c bytes)
