-- How tokens are spelled, and which tokens a text is.
use Rattle.std.specs.Prelude.{◌≡◌, ℕ, true, false, ◌==◌, if◌then◌else◌, Some, List, [], ◌∷◌, ◌++◌, codes}
use Rattle.expr_reader.specs.Bytes.{is_white, is_name, is_number, is_byte, IsRun, Stops, IsWord, IsNumeral}
use Rattle.expr_reader.specs.Codes.{quote, equals}
use Rattle.expr_reader.specs.Expr.{Constant, null, truth, whole, quoted}
use Rattle.expr_reader.specs.Fold.{fold}
use Rattle.expr_reader.specs.Grammar.{Token, constant, root, callee, name, relational, equational, mark}
use Rattle.expr_reader.specs.Names.{context_name, function_name}
use Rattle.expr_reader.specs.Number.{number_of}
use Rattle.expr_reader.specs.declared.token.Mark.{Mark}
use Rattle.expr_reader.specs.declared.token.Mark.TheVariants.{Open, Close, OpenIndex, CloseIndex, Dot, Comma, Star, Not, Both, Either}
use Rattle.expr_reader.specs.declared.tree.Equality.{Equality}
use Rattle.expr_reader.specs.declared.tree.Equality.TheVariants.{Equal, NotEqual}
use Rattle.expr_reader.specs.declared.tree.Relation.{Relation}
use Rattle.expr_reader.specs.declared.tree.Relation.TheVariants.{Less, AtMost, Greater, AtLeast}

-- A text inside quotes with each quote doubled, and the closing quote.
abbrev pub doubled : List ℕ → List ℕ
doubled [] = quote ∷ []
doubled (b ∷ bs) = if b == quote then quote ∷ quote ∷ doubled bs else b ∷ doubled bs

abbrev pub relation_text : Relation → List ℕ
relation_text Less = codes "<"
relation_text AtMost = codes "<="
relation_text Greater = codes ">"
relation_text AtLeast = codes ">="

abbrev pub equality_text : Equality → List ℕ
equality_text Equal = codes "=="
equality_text NotEqual = codes "!="

abbrev pub mark_text : Mark → List ℕ
mark_text Open = codes "("
mark_text Close = codes ")"
mark_text OpenIndex = codes "["
mark_text CloseIndex = codes "]"
mark_text Dot = codes "."
mark_text Comma = codes ","
mark_text Star = codes "*"
mark_text Not = codes "!"
mark_text Both = codes "&&"
mark_text Either = codes "||"

-- The bytes of a literal.
abbrev pub SpellsConstant : Constant → List ℕ → Type 0
SpellsConstant null s = s ≡ codes "null"
SpellsConstant (truth true) s = s ≡ codes "true"
SpellsConstant (truth false) s = s ≡ codes "false"
SpellsConstant (whole z) s = IsNumeral s × (number_of s ≡ Some z)
SpellsConstant (quoted q) s = s ≡ quote ∷ doubled q

-- The bytes of a token. Contexts and functions are named ignoring case.
abbrev pub SpellsToken : Token → List ℕ → Type 0
SpellsToken (constant l) s = SpellsConstant l s
SpellsToken (root c) s = IsWord s × (fold s ≡ context_name c)
SpellsToken (callee f) s = IsWord s × (fold s ≡ function_name f)
SpellsToken (name w) s = IsWord s × (s ≡ w)
SpellsToken (relational r) s = s ≡ relation_text r
SpellsToken (equational q) s = s ≡ equality_text q
SpellsToken (mark m) s = s ≡ mark_text m

-- A literal that is followed so is as long as can be.
abbrev pub EndsConstant : Constant → List ℕ → Type 0
EndsConstant null rest = Stops is_name rest
EndsConstant (truth b) rest = Stops is_name rest
EndsConstant (whole z) rest = Stops is_number rest
EndsConstant (quoted q) rest = Stops (is_byte quote) rest

-- A token that is followed so is as long as can be.
abbrev pub EndsToken : Token → List ℕ → Type 0
EndsToken (constant l) rest = EndsConstant l rest
EndsToken (root c) rest = Stops is_name rest
EndsToken (callee f) rest = Stops is_name rest
EndsToken (name w) rest = Stops is_name rest
EndsToken (relational Less) rest = Stops (is_byte equals) rest
EndsToken (relational Greater) rest = Stops (is_byte equals) rest
EndsToken (mark Not) rest = Stops (is_byte equals) rest
EndsToken t rest = Unit {0}

-- The text begins with white space and a token as long as can be, and then the rest follows.
pub record Begins (text : List ℕ) (t : Token) (rest : List ℕ) : Type 0 where
  pub white : List ℕ
  pub own : List ℕ
  pub blank : IsRun is_white white
  pub spelled : SpellsToken t own
  pub ends : EndsToken t rest
  pub same : text ≡ white ++ (own ++ rest)

-- The text is these tokens, with white space between them.
abbrev pub Lexes : List ℕ → List Token → Type 0
Lexes text [] = IsRun is_white text
Lexes text (t ∷ ts) = (rest : List ℕ) × Begins text t rest × Lexes rest ts
