-- How the first token of a text is read.
use Rattle.std.specs.Prelude.{ℕ, ℤ, Bool, true, false, ◌==◌, if◌then◌else◌, Result, Ok, Err, Option, Some, None, List, [], ◌∷◌, ◌++◌, take, drop, codes}
use Rattle.std.specs.List.{prefix_len, find}
use Rattle.std.specs.Str.{bytes_eq}
use Rattle.expr_reader.specs.Bytes.{skip_white, begins_name, is_name, begins_number, is_number}
use Rattle.expr_reader.specs.Codes.{exclamation, ampersand, quote, open_round, close_round, star, comma, dot, less, equals, greater, open_square, close_square, bar}
use Rattle.expr_reader.specs.Expr.{null, truth, whole, quoted}
use Rattle.expr_reader.specs.Fold.{fold}
use Rattle.expr_reader.specs.Grammar.{Token, constant, root, callee, name, relational, equational, mark}
use Rattle.expr_reader.specs.Names.{context_name, function_name}
use Rattle.expr_reader.specs.Number.{number_of}
use Rattle.expr_reader.specs.declared.fault.Fault.{Fault}
use Rattle.expr_reader.specs.declared.fault.Fault.TheVariants.{UnclosedText, BadNumber, BadChar, UnknownName, UnknownFunction}
use Rattle.expr_reader.specs.declared.token.Mark.TheVariants.{Open, Close, OpenIndex, CloseIndex, Dot, Comma, Star, Not, Both, Either}
use Rattle.expr_reader.specs.declared.tree.Context.{Context}
use Rattle.expr_reader.specs.declared.tree.Context.TheVariants.{Github, Env, Vars, Job, Jobs, Steps, Runner, Secrets, Strategy, Matrix, Needs, Inputs}
use Rattle.expr_reader.specs.declared.tree.Equality.TheVariants.{Equal, NotEqual}
use Rattle.expr_reader.specs.declared.tree.Function.{Function}
use Rattle.expr_reader.specs.declared.tree.Function.TheVariants.{Contains, StartsWith, EndsWith, Format, Join, ToJson, FromJson, Success, Failure, Cancelled, Always}
use Rattle.expr_reader.specs.declared.tree.Relation.TheVariants.{Less, AtMost, Greater, AtLeast}

-- A token and the text after it.
abbrev pub Lexed : Type 0
Lexed = Token × List ℕ

-- A text with bytes before it.
abbrev pub with_front : List ℕ → Option (List ℕ × List ℕ) → Option (List ℕ × List ℕ)
with_front front None = None
with_front front (Some x) = Some (front ++ x.0, x.1)

abbrev mutual
  -- The text up to its closing quote, a doubled quote being one, and what follows.
  pub unquoted : List ℕ → Option (List ℕ × List ℕ)
  unquoted [] = None
  unquoted (b ∷ bs) = if b == quote then after_quote bs else with_front (b ∷ []) (unquoted bs)

  -- The text up to its closing quote, after a quote.
  pub after_quote : List ℕ → Option (List ℕ × List ℕ)
  after_quote [] = Some ([], [])
  after_quote (b ∷ bs) = if b == quote then with_front (quote ∷ []) (unquoted bs) else Some ([], b ∷ bs)

abbrev pub quoted_token : Option (List ℕ × List ℕ) → Result Lexed Fault
quoted_token None = Err UnclosedText
quoted_token (Some x) = Ok (constant (quoted x.0), x.1)

abbrev pub number_token : Option ℤ → List ℕ → Result Lexed Fault
number_token None rest = Err BadNumber
number_token (Some z) rest = Ok (constant (whole z), rest)

abbrev pub number_at : List ℕ → Result Lexed Fault
number_at bs =
    number_token (number_of (take (prefix_len is_number bs) bs)) (drop (prefix_len is_number bs) bs)

-- The context of a name in small letters.
abbrev pub context_named : List ℕ → Option Context
context_named f =
    find (λ c. bytes_eq f (context_name c))
    (Github ∷ Env ∷ Vars ∷ Job ∷ Jobs ∷ Steps ∷ Runner ∷ Secrets ∷ Strategy ∷ Matrix ∷ Needs ∷ Inputs
    ∷ [])

-- The function of a name in small letters.
abbrev pub function_named : List ℕ → Option Function
function_named f =
    find (λ g. bytes_eq f (function_name g))
    (Contains ∷ StartsWith ∷ EndsWith ∷ Format ∷ Join ∷ ToJson ∷ FromJson ∷ Success ∷ Failure
    ∷ Cancelled ∷ Always ∷ [])

abbrev pub literal_named : List ℕ → Option Token
literal_named w =
    if bytes_eq w (codes "null") then Some (constant null)
    else if bytes_eq w (codes "true") then Some (constant (truth true))
    else if bytes_eq w (codes "false") then Some (constant (truth false))
    else None

abbrev pub function_or_literal : Option Function → List ℕ → Option Token
function_or_literal (Some f) w = Some (callee f)
function_or_literal None w = literal_named w

abbrev pub context_or_other : Option Context → List ℕ → Option Token
context_or_other (Some c) w = Some (root c)
context_or_other None w = function_or_literal (function_named (fold w)) w

-- The token that a name is where no dot stands before it.
abbrev pub named : List ℕ → Option Token
named w = context_or_other (context_named (fold w)) w

abbrev pub begins_call : List ℕ → Bool
begins_call [] = false
begins_call (b ∷ bs) = b == open_round

abbrev pub known_token : Option Token → List ℕ → Result Lexed Fault
known_token (Some t) rest = Ok (t, rest)
known_token None rest = Err (if begins_call (skip_white rest) then UnknownFunction else UnknownName)

abbrev pub word_token : Bool → List ℕ → List ℕ → Result Lexed Fault
word_token true w rest = Ok (name w, rest)
word_token false w rest = known_token (named w) rest

abbrev pub word_at : Bool → List ℕ → Result Lexed Fault
word_at dotted bs =
    word_token dotted (take (prefix_len is_name bs) bs) (drop (prefix_len is_name bs) bs)

-- One token, or the other where = follows.
abbrev pub paired : Token → Token → List ℕ → Lexed
paired one two [] = (one, [])
paired one two (b ∷ bs) = if b == equals then (two, bs) else (one, b ∷ bs)

-- A token where the byte c follows.
abbrev pub followed : ℕ → Token → List ℕ → Result Lexed Fault
followed c t [] = Err BadChar
followed c t (b ∷ bs) = if b == c then Ok (t, bs) else Err BadChar

-- A token that begins with an operator's byte.
abbrev pub operator_at : ℕ → List ℕ → Result Lexed Fault
operator_at b bs =
    if b == open_round then Ok (mark Open, bs)
    else if b == close_round then Ok (mark Close, bs)
    else if b == open_square then Ok (mark OpenIndex, bs)
    else if b == close_square then Ok (mark CloseIndex, bs)
    else if b == dot then Ok (mark Dot, bs)
    else if b == comma then Ok (mark Comma, bs)
    else if b == star then Ok (mark Star, bs)
    else if b == exclamation then Ok (paired (mark Not) (equational NotEqual) bs)
    else if b == less then Ok (paired (relational Less) (relational AtMost) bs)
    else if b == greater then Ok (paired (relational Greater) (relational AtLeast) bs)
    else if b == equals then followed equals (equational Equal) bs
    else if b == ampersand then followed ampersand (mark Both) bs
    else if b == bar then followed bar (mark Either) bs
    else Err BadChar

-- The token that begins with these bytes.
abbrev pub token_at : Bool → ℕ → List ℕ → Result Lexed Fault
token_at dotted b bs =
    if b == quote then quoted_token (unquoted bs)
    else if begins_number b then number_at (b ∷ bs)
    else if begins_name b then word_at dotted (b ∷ bs)
    else operator_at b bs

abbrev pub some_token : Result Lexed Fault → Result (Option Lexed) Fault
some_token (Ok x) = Ok (Some x)
some_token (Err f) = Err f

abbrev pub next_at : Bool → List ℕ → Result (Option Lexed) Fault
next_at dotted [] = Ok None
next_at dotted (b ∷ bs) = some_token (token_at dotted b bs)

-- The next token, after a dot or not, or none at the end.
abbrev pub next : Bool → List ℕ → Result (Option Lexed) Fault
next dotted bs = next_at dotted (skip_white bs)
