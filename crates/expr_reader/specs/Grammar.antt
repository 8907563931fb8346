-- The grammar of expressions: which tokens a tree is written with, and which trees the grammar has.
--
--   or    = and { "||" and }
--   and   = eq { "&&" eq }
--   eq    = rel { ("==" | "!=") rel }
--   rel   = un { ("<" | "<=" | ">" | ">=") un }
--   un    = "!" un | post
--   post  = prim { "." name | "." "*" | "[" or "]" | "[" "*" "]" }
--   prim  = literal | context | function "(" [ or { "," or } ] ")" | "(" or ")"
use Rattle.std.specs.Prelude.{◌≡◌, ℕ, ◌≤◌, Bool, true, ◌&&◌, nat_eq, nat_le, List, [], ◌∷◌, ◌++◌}
use Rattle.expr_reader.specs.Expr.{Constant, Expr, Exprs, literal, context, call, group, property, index, wildcard, opposite, relation, equality, both, either, none, more, count}
use Rattle.expr_reader.specs.declared.tree.Context.{Context}
use Rattle.expr_reader.specs.declared.tree.Equality.{Equality}
use Rattle.expr_reader.specs.declared.tree.Function.{Function}
use Rattle.expr_reader.specs.declared.tree.Function.TheVariants.{Contains, StartsWith, EndsWith, Format, Join, ToJson, FromJson, Success, Failure, Cancelled, Always}
use Rattle.expr_reader.specs.declared.tree.Relation.{Relation}
use Rattle.expr_reader.specs.declared.tree.Wildcard.TheVariants.{Dotted, Bracketed}
use Rattle.expr_reader.specs.declared.token.Mark.{Mark}
use Rattle.expr_reader.specs.declared.token.Mark.TheVariants.{Open, Close, OpenIndex, CloseIndex, Dot, Comma, Star, Not, Both, Either}

-- A token: a literal, a context, a function, the name of a property, a comparison or a mark.
pub data Token : Type 0 where
  constant : Constant → Token
  root : Context → Token
  callee : Function → Token
  name : List ℕ → Token
  relational : Relation → Token
  equational : Equality → Token
  mark : Mark → Token

abbrev mutual
  -- The tokens that a tree is written with.
  pub tokens : Expr → List Token
  tokens (literal l) = constant l ∷ []
  tokens (context c) = root c ∷ []
  tokens (call f es) = callee f ∷ mark Open ∷ (chained Comma es ++ mark Close ∷ [])
  tokens (group e) = mark Open ∷ (tokens e ++ mark Close ∷ [])
  tokens (property e s) = tokens e ++ mark Dot ∷ name s ∷ []
  tokens (index e i) = tokens e ++ mark OpenIndex ∷ (tokens i ++ mark CloseIndex ∷ [])
  tokens (wildcard Dotted e) = tokens e ++ mark Dot ∷ mark Star ∷ []
  tokens (wildcard Bracketed e) = tokens e ++ mark OpenIndex ∷ mark Star ∷ mark CloseIndex ∷ []
  tokens (opposite e) = mark Not ∷ tokens e
  tokens (relation r a b) = tokens a ++ relational r ∷ tokens b
  tokens (equality q a b) = tokens a ++ equational q ∷ tokens b
  tokens (both es) = chained Both es
  tokens (either es) = chained Either es

  -- Trees with a mark between each two.
  pub chained : Mark → Exprs → List Token
  chained m none = []
  chained m (more e es) = tokens e ++ preceded m es

  -- Trees, each with the mark before it.
  pub preceded : Mark → Exprs → List Token
  preceded m none = []
  preceded m (more e es) = mark m ∷ (tokens e ++ preceded m es)

-- How tightly a tree holds together: 0 is an "or" and 5 a "post".
abbrev pub level : Expr → ℕ
level (literal l) = 5
level (context c) = 5
level (call f es) = 5
level (group e) = 5
level (property e s) = 5
level (index e i) = 5
level (wildcard w e) = 5
level (opposite e) = 4
level (relation r a b) = 3
level (equality q a b) = 2
level (both es) = 1
level (either es) = 0

-- Whether a function takes so many arguments.
abbrev pub takes : Function → ℕ → Bool
takes Contains n = nat_eq n 2
takes StartsWith n = nat_eq n 2
takes EndsWith n = nat_eq n 2
takes Format n = nat_le 1 n
takes Join n = nat_le 1 n && nat_le n 2
takes ToJson n = nat_eq n 1
takes FromJson n = nat_eq n 1
takes Success n = nat_eq n 0
takes Failure n = nat_eq n 0
takes Cancelled n = nat_eq n 0
takes Always n = nat_eq n 0

-- Two parts or more.
abbrev pub IsChain : Exprs → Type 0
IsChain none = ⊥
IsChain (more a none) = ⊥
IsChain (more a (more b es)) = Unit {0}

module _ (counts : Function → ℕ → Bool) where
  abbrev mutual
    -- The grammar has the tree, where functions take these counts of arguments. Comparisons and
    -- dereferences group from the left.
    pub FormedBy : Expr → Type 0
    FormedBy (literal l) = Unit {0}
    FormedBy (context c) = Unit {0}
    FormedBy (call f es) = (counts f (count es) ≡ true) × AllFormedBy 0 es
    FormedBy (group e) = FormedBy e
    FormedBy (property e s) = (5 ≤ level e) × FormedBy e
    FormedBy (index e i) = (5 ≤ level e) × FormedBy e × FormedBy i
    FormedBy (wildcard w e) = (5 ≤ level e) × FormedBy e
    FormedBy (opposite e) = (4 ≤ level e) × FormedBy e
    FormedBy (relation r a b) = (3 ≤ level a) × (4 ≤ level b) × FormedBy a × FormedBy b
    FormedBy (equality q a b) = (2 ≤ level a) × (3 ≤ level b) × FormedBy a × FormedBy b
    FormedBy (both es) = IsChain es × AllFormedBy 2 es
    FormedBy (either es) = IsChain es × AllFormedBy 1 es

    -- Each of the trees is formed so, and none holds together more loosely than k.
    pub AllFormedBy : ℕ → Exprs → Type 0
    AllFormedBy k none = Unit {0}
    AllFormedBy k (more e es) = (k ≤ level e) × FormedBy e × AllFormedBy k es

-- The grammar has the tree.
abbrev pub Shaped : Expr → Type 0
Shaped e = FormedBy takes e

-- The grammar has each of the trees, and none holds together more loosely than k.
abbrev pub AllShaped : ℕ → Exprs → Type 0
AllShaped k es = AllFormedBy takes k es

-- Any count of arguments.
abbrev pub any_count : Function → ℕ → Bool
any_count f n = true

-- The grammar without its limits has the tree: calls may have any count of arguments.
abbrev pub Formed : Expr → Type 0
Formed e = FormedBy any_count e
