-- The functions (GitHub Docs, "Evaluate expressions in workflows and actions": functions, status check
-- functions).
use Rattle.std.specs.Prelude.{ℕ, Bool, true, false, not, ◌&&◌, ◌||◌, ◌==◌, nat_eq, Option, Some, None, Result, Ok, Err, List, [], ◌∷◌, length, map, codes}
use Rattle.std.specs.List.{list_any, starts_with, ends_with, join_by}
use Rattle.serde_json.specs.Data.{Data}
use Rattle.serde_json.specs.Read.{read}
use Rattle.serde_json.specs.Written.{outline}
use Rattle.json.specs.Layout.{pretty}
use Rattle.json.specs.Tree.{json_tokens}
use Rattle.expr_reader.specs.Fold.{fold}
use Rattle.expr_reader.specs.declared.tree.Function.{Function}
use Rattle.expr_reader.specs.declared.tree.Function.TheVariants as name
use Rattle.expr_value.specs.Compare.{equals}
use Rattle.expr_value.specs.Convert.{text_of}
use Rattle.expr_value.specs.Format.{formatted}
use Rattle.expr_value.specs.PlainKind.{PlainKind, kind_of, is_collection, items}
use Rattle.expr_value.specs.Limit.{limited}
use Rattle.expr_value.specs.declared.status.Status.{Status}
use Rattle.expr_value.specs.declared.status.Status.TheVariants as status
use Rattle.flow_model.specs.Json.{json_of, value_of}
use Rattle.flow_model.specs.Plain.{Plain, null, truth, whole, text, list, Items, Members}
use Rattle.flow_model.specs.Plain as plain
use Rattle.flow_model.specs.declared.reply.ValueFault.{ValueFault}
use Rattle.flow_model.specs.declared.reply.ValueFault.TheVariants.{NotWhole, BadFormat, BadJson}

-- ---- contains, startsWith, endsWith

-- A text stands somewhere in another.
abbrev pub stands_in : List ℕ → List ℕ → Bool
stands_in part [] = length part == 0
stands_in part (b ∷ bs) = starts_with nat_eq (b ∷ bs) part || stands_in part bs

-- A test on two texts ignoring case, which fails where either value is a list or a map.
abbrev pub folds_pass : (List ℕ → List ℕ → Bool) → PlainKind → PlainKind → Bool
folds_pass test a b = not (is_collection a || is_collection b) && test (fold (text_of a)) (fold (text_of b))

-- It is known to be true.
abbrev pub is_true : Result Bool ValueFault → Bool
is_true (Ok b) = b
is_true (Err fault) = false

-- An item equals a value; one for which == faults does not.
abbrev pub is_match : PlainKind → Plain → Bool
is_match kind v = is_true (equals (kind_of v) kind)

-- Some item of a list equals the value, or the value's text stands in a text.
abbrev pub contains : Plain → Plain → Bool
contains null x = folds_pass (λ s part. stands_in part s) (kind_of null) (kind_of x)
contains (truth b) x = folds_pass (λ s part. stands_in part s) (kind_of (truth b)) (kind_of x)
contains (whole z) x = folds_pass (λ s part. stands_in part s) (kind_of (whole z)) (kind_of x)
contains (text bytes) x = folds_pass (λ s part. stands_in part s) (kind_of (text bytes)) (kind_of x)
contains (list vs) x = list_any (is_match (kind_of x)) (items vs)
contains (plain.map ms) x = false

-- A text begins with the text of x, ignoring case.
abbrev pub begins_with : Plain → Plain → Bool
begins_with s x = folds_pass (starts_with nat_eq) (kind_of s) (kind_of x)

-- A text ends with the text of x, ignoring case.
abbrev pub finishes_with : Plain → Plain → Bool
finishes_with s x = folds_pass (ends_with nat_eq) (kind_of s) (kind_of x)

-- ---- format, join

-- The text of a value.
abbrev pub text_of_value : Plain → List ℕ
text_of_value v = text_of (kind_of v)

-- The text of a format as a value; BadFormat where it is none.
abbrev pub formatted_value : Option (List ℕ) → Result Plain ValueFault
formatted_value None = Err BadFormat
formatted_value (Some bytes) = limited bytes

-- A format text with its arguments.
abbrev pub format : Plain → List Plain → Result Plain ValueFault
format f arguments = formatted_value (formatted (map text_of_value arguments) (text_of_value f))

-- The texts of a list's items, with a separator between them; the text of what is no list.
abbrev pub joined : List ℕ → Plain → List ℕ
joined separator null = text_of_value null
joined separator (truth b) = text_of_value (truth b)
joined separator (whole z) = text_of_value (whole z)
joined separator (text bytes) = text_of_value (text bytes)
joined separator (list vs) = join_by text_of_value separator (items vs)
joined separator (plain.map ms) = text_of_value (plain.map ms)

-- join as a value.
abbrev pub join : Plain → List ℕ → Result Plain ValueFault
join v separator = limited (joined separator v)

-- ---- toJSON, fromJSON

-- A JSON value on lines, each two spaces deeper for each bracket.
abbrev pub pretty_text : Data → List ℕ
pretty_text d = pretty (json_tokens (outline d))

-- toJSON: the JSON on lines, as a value.
abbrev pub to_json : Plain → Result Plain ValueFault
to_json v = limited (pretty_text (json_of v))

-- A value, or NotWhole where a number is none that is whole and in range.
abbrev pub whole_value : Option Plain → Result Plain ValueFault
whole_value None = Err NotWhole
whole_value (Some v) = Ok v

-- The value of what was read, or BadJson.
abbrev pub value_read : Option Data → Result Plain ValueFault
value_read None = Err BadJson
value_read (Some d) = whole_value (value_of d)

-- fromJSON: the value that a value's text reads as.
abbrev pub from_json : Plain → Result Plain ValueFault
from_json v = value_read (read (text_of_value v))

-- ---- the status functions

-- success() is true.
abbrev pub is_success : Status → Bool
is_success status.Success = true
is_success status.Failure = false
is_success status.Cancelled = false
is_success status.Other = false

-- failure() is true.
abbrev pub is_failure : Status → Bool
is_failure status.Success = false
is_failure status.Failure = true
is_failure status.Cancelled = false
is_failure status.Other = false

-- cancelled() is true.
abbrev pub is_cancelled : Status → Bool
is_cancelled status.Success = false
is_cancelled status.Failure = false
is_cancelled status.Cancelled = true
is_cancelled status.Other = false

-- ---- calls

-- A call of a function of one argument. One with another number of arguments, which no text spells, is null;
-- so are those below.
abbrev pub with_one : (Plain → Result Plain ValueFault) → List Plain → Result Plain ValueFault
with_one function [] = Ok null
with_one function (a ∷ []) = function a
with_one function (a ∷ b ∷ more) = Ok null

-- A call of a test of two arguments.
abbrev pub with_two : (Plain → Plain → Bool) → List Plain → Result Plain ValueFault
with_two test [] = Ok null
with_two test (a ∷ []) = Ok null
with_two test (a ∷ b ∷ []) = Ok (truth (test a b))
with_two test (a ∷ b ∷ c ∷ more) = Ok null

-- A call of format.
abbrev pub format_of : List Plain → Result Plain ValueFault
format_of [] = Ok null
format_of (f ∷ arguments) = format f arguments

-- A call of join: without a separator it is a comma.
abbrev pub join_of : List Plain → Result Plain ValueFault
join_of [] = Ok null
join_of (v ∷ []) = join v (codes ",")
join_of (v ∷ separator ∷ []) = join v (text_of_value separator)
join_of (v ∷ separator ∷ c ∷ more) = Ok null

-- A call of a status function.
abbrev pub status_of : Bool → List Plain → Result Plain ValueFault
status_of b [] = Ok (truth b)
status_of b (a ∷ more) = Ok null

-- The value of a call with the values of its arguments.
abbrev pub called : Function → Status → List Plain → Result Plain ValueFault
called name.Contains s arguments = with_two contains arguments
called name.StartsWith s arguments = with_two begins_with arguments
called name.EndsWith s arguments = with_two finishes_with arguments
called name.Format s arguments = format_of arguments
called name.Join s arguments = join_of arguments
called name.ToJson s arguments = with_one to_json arguments
called name.FromJson s arguments = with_one from_json arguments
called name.Success s arguments = status_of (is_success s) arguments
called name.Failure s arguments = status_of (is_failure s) arguments
called name.Cancelled s arguments = status_of (is_cancelled s) arguments
called name.Always s arguments = status_of true arguments
