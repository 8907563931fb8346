-- A token that is read fits what stands before it.
use Rattle.std.proofs.Common.{◌≡◌, ℕ, ℤ, Bool, true, false, cond, nat_eq, Result, Ok, Err, Option, Some, None, List, [], ◌∷◌, ◌++◌, refl, subst}
use Rattle.std.specs.Prelude.{codes}
use Rattle.std.specs.Str.{bytes_eq}
use Rattle.expr_reader.specs.Bytes.{skip_white, begins_name, begins_number}
use Rattle.expr_reader.specs.Expr.{null, truth}
use Rattle.expr_reader.specs.Fold.{fold}
use Rattle.expr_reader.specs.Grammar.{Token, constant, relational, equational, mark}
use Rattle.expr_reader.specs.Lexer.{Lexed, unquoted, quoted_token, number_token, context_named, function_named, literal_named, function_or_literal, context_or_other, named, known_token, word_token, paired, followed, operator_at, token_at, some_token, next_at, next}
use Rattle.expr_reader.specs.Stands.{Fits, is_dot, ends_dotted}
use Rattle.expr_reader.specs.declared.fault.Fault.{Fault}
use Rattle.expr_reader.specs.declared.fault.Fault.TheVariants.{BadChar}
use Rattle.expr_reader.specs.declared.token.Mark.TheVariants.{Not, Both, Either}
use Rattle.expr_reader.specs.declared.tree.Context.{Context}
use Rattle.expr_reader.specs.declared.tree.Equality.TheVariants.{Equal, NotEqual}
use Rattle.expr_reader.specs.declared.tree.Function.{Function}
use Rattle.expr_reader.specs.declared.tree.Relation.TheVariants.{Less, AtMost, Greater, AtLeast}
use Rattle.expr_reader.proofs.Runs.{if_holds}

-- Tokens end with a dot where the last one is a dot.
pub ends_last : (ts : List Token) (t : Token) → ends_dotted (ts ++ t ∷ []) ≡ is_dot t
ends_last [] t = refl
ends_last (u ∷ []) t = refl
ends_last (u ∷ v ∷ ts) t = ends_last (v ∷ ts) t

-- What a name means where no dot stands before it fits there.
abbrev Plain : Option Token → Type 0
Plain None = Unit {0}
Plain (Some t) = Fits false t

literal_plain : (w : List ℕ) → Plain (literal_named w)
literal_plain w =
    if_holds Plain (bytes_eq w (codes "null")) (Some (constant null)) (cond (bytes_eq w (codes "true")) (Some (constant (truth true))) (cond (bytes_eq w (codes "false")) (Some (constant (truth false))) None)) (λ _. refl)
    (λ _. if_holds Plain (bytes_eq w (codes "true")) (Some (constant (truth true))) (cond (bytes_eq w (codes "false")) (Some (constant (truth false))) None) (λ _. refl)
    (λ _. if_holds Plain (bytes_eq w (codes "false")) (Some (constant (truth false))) None (λ _. refl) (λ _. tt)))

function_plain : (o : Option Function) (w : List ℕ) → Plain (function_or_literal o w)
function_plain (Some f) w = refl
function_plain None w = literal_plain w

context_plain : (o : Option Context) (w : List ℕ) → Plain (context_or_other o w)
context_plain (Some c) w = refl
context_plain None w = function_plain (function_named (fold w)) w

-- A token that is read after a dot, or after none, fits there.
abbrev ReadFits : Bool → Result Lexed Fault → Type 0
ReadFits dotted (Ok x) = Fits dotted x.0
ReadFits dotted (Err f) = Unit {0}

quoted_fits : (dotted : Bool) (o : Option (List ℕ × List ℕ)) → ReadFits dotted (quoted_token o)
quoted_fits dotted None = tt
quoted_fits dotted (Some x) = tt

number_fits : (dotted : Bool) (o : Option ℤ) (rest : List ℕ) → ReadFits dotted (number_token o rest)
number_fits dotted None rest = tt
number_fits dotted (Some z) rest = tt

known_fits : (o : Option Token) (rest : List ℕ) → Plain o → ReadFits false (known_token o rest)
known_fits None rest h = tt
known_fits (Some t) rest h = h

word_fits : (dotted : Bool) (w rest : List ℕ) → ReadFits dotted (word_token dotted w rest)
word_fits true w rest = refl
word_fits false w rest = known_fits (named w) rest (context_plain (context_named (fold w)) w)

choose : (dotted b : Bool) (x y : Result Lexed Fault) → ReadFits dotted x → ReadFits dotted y → ReadFits dotted (cond b x y)
choose dotted b x y here there = if_holds (ReadFits dotted) b x y (λ _. here) (λ _. there)

paired_fits : (dotted : Bool) (one two : Token) (bs : List ℕ) → Fits dotted one → Fits dotted two → ReadFits dotted (Ok (paired one two bs))
paired_fits dotted one two [] first second = first
paired_fits dotted one two (b ∷ bs) first second = if_holds (λ x. ReadFits dotted (Ok x)) (nat_eq b 61) (two, bs) (one, b ∷ bs) (λ _. second) (λ _. first)

followed_fits : (dotted : Bool) (c : ℕ) (t : Token) (bs : List ℕ) → Fits dotted t → ReadFits dotted (followed c t bs)
followed_fits dotted c t [] h = tt
followed_fits dotted c t (b ∷ bs) h = choose dotted (nat_eq b c) (Ok (t, bs)) (Err BadChar) h tt

operator_fits : (dotted : Bool) (b : ℕ) (bs : List ℕ) → ReadFits dotted (operator_at b bs)
operator_fits dotted b bs =
    choose dotted (nat_eq b 40) _ _ tt
    (choose dotted (nat_eq b 41) _ _ tt
    (choose dotted (nat_eq b 91) _ _ tt
    (choose dotted (nat_eq b 93) _ _ tt
    (choose dotted (nat_eq b 46) _ _ tt
    (choose dotted (nat_eq b 44) _ _ tt
    (choose dotted (nat_eq b 42) _ _ tt
    (choose dotted (nat_eq b 33) _ _ (paired_fits dotted (mark Not) (equational NotEqual) bs tt tt)
    (choose dotted (nat_eq b 60) _ _ (paired_fits dotted (relational Less) (relational AtMost) bs tt tt)
    (choose dotted (nat_eq b 62) _ _ (paired_fits dotted (relational Greater) (relational AtLeast) bs tt tt)
    (choose dotted (nat_eq b 61) _ _ (followed_fits dotted 61 (equational Equal) bs tt)
    (choose dotted (nat_eq b 38) _ _ (followed_fits dotted 38 (mark Both) bs tt)
    (choose dotted (nat_eq b 124) _ _ (followed_fits dotted 124 (mark Either) bs tt)
    tt))))))))))))

token_fits : (dotted : Bool) (b : ℕ) (bs : List ℕ) → ReadFits dotted (token_at dotted b bs)
token_fits dotted b bs =
    choose dotted (nat_eq b 39) _ _ (quoted_fits dotted (unquoted bs))
    (choose dotted (begins_number b) _ _ (number_fits dotted _ _)
    (choose dotted (begins_name b) _ _ (word_fits dotted _ _) (operator_fits dotted b bs)))

-- A token fits, or there is none.
abbrev NextFits : Bool → Result (Option Lexed) Fault → Type 0
NextFits dotted (Ok None) = Unit {0}
NextFits dotted (Ok (Some x)) = Fits dotted x.0
NextFits dotted (Err f) = Unit {0}

some_fits : (dotted : Bool) (r : Result Lexed Fault) → ReadFits dotted r → NextFits dotted (some_token r)
some_fits dotted (Ok x) h = h
some_fits dotted (Err f) h = tt

at_fits : (dotted : Bool) (bs : List ℕ) → NextFits dotted (next_at dotted bs)
at_fits dotted [] = tt
at_fits dotted (b ∷ bs) = some_fits dotted (token_at dotted b bs) (token_fits dotted b bs)

pub next_fits : (dotted : Bool) (text : List ℕ) (t : Token) (rest : List ℕ) → next dotted text ≡ Ok (Some (t, rest)) → Fits dotted t
next_fits dotted text t rest h = subst (NextFits dotted) h (at_fits dotted (skip_white text))
