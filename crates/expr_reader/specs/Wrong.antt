-- What is wrong with a text at the place of a fault.
use Rattle.std.specs.Prelude.{◌≡◌, ◌≢◌, ℕ, ℤ, ◌<◌, false, Some, List, ◌∷◌, ◌++◌, codes}
use Rattle.expr_reader.specs.Bytes.{begins_name, is_name, begins_number, is_number, is_byte, Stops, IsWord, IsNumeral}
use Rattle.expr_reader.specs.Codes.{quote}
use Rattle.expr_reader.specs.Expr.{Expr, Exprs, call, count, depth}
use Rattle.expr_reader.specs.Fold.{fold}
use Rattle.expr_reader.specs.Grammar.{Token, mark, tokens, takes, Shaped, AllShaped}
use Rattle.expr_reader.specs.Names.{context_name, function_name}
use Rattle.expr_reader.specs.Number.{number_of}
use Rattle.expr_reader.specs.Spelling.{doubled, Begins}
use Rattle.expr_reader.specs.Sizes.{greatest_depth}
use Rattle.expr_reader.specs.declared.fault.Fault.{Fault}
use Rattle.expr_reader.specs.declared.fault.Fault.TheVariants.{UnclosedText, BadNumber, BadChar, Unexpected, UnknownName, UnknownFunction, ArgumentCount, TooDeep}
use Rattle.expr_reader.specs.declared.token.Mark.TheVariants.{Open}
use Rattle.expr_reader.specs.declared.tree.Context.{Context}
use Rattle.expr_reader.specs.declared.tree.Function.{Function}

-- Among the tokens are those of a tree that is deeper than 50.
pub record HoldsDeep (ts : List Token) : Type 0 where
  pub before : List Token
  pub deep : Expr
  pub after : List Token
  pub shaped : Shaped deep
  pub above : greatest_depth < depth deep
  pub same : before ++ (tokens deep ++ after) ≡ ts

-- Among the tokens are those of a call with another number of arguments than its function takes.
pub record HoldsMiscount (ts : List Token) : Type 0 where
  pub before : List Token
  pub function : Function
  pub arguments : Exprs
  pub after : List Token
  pub shaped : AllShaped 0 arguments
  pub miscount : takes function (count arguments) ≡ false
  pub same : before ++ (tokens (call function arguments) ++ after) ≡ ts

-- What is wrong with tokens that begin no tree within the limits: a limit is not kept, or even without
-- limits they begin none, as unformed says.
abbrev pub Wrong : Type 0 → List Token → Fault → Type 0
Wrong unformed ts Unexpected = unformed
Wrong unformed ts ArgumentCount = HoldsMiscount ts
Wrong unformed ts TooDeep = HoldsDeep ts
Wrong unformed ts f = ⊥

-- The bytes begin with a quote that nothing closes.
pub record IsUnclosed (bs : List ℕ) : Type 0 where
  pub inside : List ℕ
  pub same : bs ≡ quote ∷ inside
  pub open_ended : (q rest : List ℕ) → Stops (is_byte quote) rest → inside ≢ doubled q ++ rest

-- The bytes begin with a run of number characters, as long as can be, that is no number in range.
pub record IsNoNumber (bs : List ℕ) : Type 0 where
  pub run : List ℕ
  pub rest : List ℕ
  pub numeral : IsNumeral run
  pub ends : Stops is_number rest
  pub same : bs ≡ run ++ rest
  pub none : (z : ℤ) → number_of run ≢ Some z

-- The first byte begins no name, no number and no text in quotes, and with what follows no operator.
pub record IsNoToken (bs : List ℕ) : Type 0 where
  pub first : ℕ
  pub after : List ℕ
  pub same : bs ≡ first ∷ after
  pub no_quote : first ≢ quote
  pub no_number : begins_number first ≡ false
  pub no_name : begins_name first ≡ false
  pub no_token : (t : Token) (rest : List ℕ) → Begins bs t rest → ⊥

-- The name is no context, no function and no literal.
pub record IsUnknown (w : List ℕ) : Type 0 where
  pub no_context : (c : Context) → fold w ≢ context_name c
  pub no_function : (f : Function) → fold w ≢ function_name f
  pub no_literal : (w ≢ codes "null") × (w ≢ codes "true") × (w ≢ codes "false")

-- The bytes begin with an unknown name, as long as can be, that no parenthesis follows.
pub record IsNoName (bs : List ℕ) : Type 0 where
  pub word : List ℕ
  pub rest : List ℕ
  pub is_word : IsWord word
  pub ends : Stops is_name rest
  pub same : bs ≡ word ++ rest
  pub unknown : IsUnknown word
  pub no_call : (after : List ℕ) → Begins rest (mark Open) after → ⊥

-- The bytes begin with an unknown name, as long as can be, that a parenthesis follows.
pub record IsNoFunction (bs : List ℕ) : Type 0 where
  pub word : List ℕ
  pub rest : List ℕ
  pub after : List ℕ
  pub is_word : IsWord word
  pub ends : Stops is_name rest
  pub same : bs ≡ word ++ rest
  pub unknown : IsUnknown word
  pub called : Begins rest (mark Open) after

-- What is wrong with bytes that begin with no token.
abbrev pub Blocks : List ℕ → Fault → Type 0
Blocks bs UnclosedText = IsUnclosed bs
Blocks bs BadNumber = IsNoNumber bs
Blocks bs BadChar = IsNoToken bs
Blocks bs UnknownName = IsNoName bs
Blocks bs UnknownFunction = IsNoFunction bs
Blocks bs f = ⊥
