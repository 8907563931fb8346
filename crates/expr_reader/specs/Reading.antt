-- How a text is read: token by token, each taken by the machine. A fault comes with how much of the text
-- is left from its place on.
use Rattle.std.specs.Prelude.{ℕ, zero, suc, nat_lt, ◌+◌, ◌-◌, if◌then◌else◌, Result, Ok, Err, Option, Some, None, List, [], length}
use Rattle.expr_reader.specs.Bytes.{skip_white}
use Rattle.expr_reader.specs.Expr.{Expr}
use Rattle.expr_reader.specs.Lexer.{Lexed, next}
use Rattle.expr_reader.specs.Machine.{State, want, is_dotted, limits, step, finish}
use Rattle.expr_reader.specs.Sizes.{longest_expression}
use Rattle.expr_reader.specs.declared.fault.Fault.{Fault}
use Rattle.expr_reader.specs.declared.fault.Fault.TheVariants.{TooLong}

-- A fault and its place. While a text is read, the place is how many bytes there are from it to the end.
abbrev pub Failure : Type 0
Failure = Fault × ℕ

-- A fault gets its place.
abbrev pub placed : {A : Type 0} → ℕ → Result A Fault → Result A Failure
placed left (Ok x) = Ok x
placed left (Err f) = Err (f, left)

-- What comes of a step: the rest is read on by go.
abbrev pub after_step :
    (State → List ℕ → Result Expr Failure) → ℕ → List ℕ → Result State Fault → Result Expr Failure
after_step go left rest (Err f) = Err (f, left)
after_step go left rest (Ok st) = go st rest

-- What comes of the next token.
abbrev pub after_token :
    (State → List ℕ → Result Expr Failure) → State → ℕ → Result (Option Lexed) Fault
    → Result Expr Failure
after_token go st left (Err f) = Err (f, left)
after_token go st left (Ok None) = placed left (finish limits st)
after_token go st left (Ok (Some x)) = after_step go left x.1 (step limits st x.0)

-- The tree of the rest of a text, by fewer than n tokens.
abbrev pub reads : ℕ → State → List ℕ → Result Expr Failure
reads zero st bs = Err (TooLong, length bs)
reads (suc n) st bs = after_token (reads n) st (length (skip_white bs)) (next (is_dotted st) bs)

-- A reading, with a fault's place counted from base on, which is the place of a text of so many bytes.
abbrev pub located : ℕ → ℕ → Result Expr Failure → Result Expr Failure
located base size (Ok e) = Ok e
located base size (Err x) = Err (x.0, base + (size - x.1))

-- The tree of a text of any length.
abbrev pub read_tokens : ℕ → List ℕ → Result Expr Failure
read_tokens base text = located base (length text) (reads (suc (length text)) (want []) text)

-- The tree of a text within the limit; a longer one is too long from its byte 20,000 on.
abbrev pub read_text : ℕ → List ℕ → Result Expr Failure
read_text base text =
    if nat_lt longest_expression (length text) then Err (TooLong, base + longest_expression)
    else read_tokens base text
