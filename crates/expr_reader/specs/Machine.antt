-- How tokens make a tree, from the left, with a stack of what is open, within limits or without.
use Rattle.std.specs.Prelude.{ℕ, nat_le, nat_lt, Bool, true, false, if◌then◌else◌, Result, Ok, Err, List, [], ◌∷◌, ◌++◌}
use Rattle.expr_reader.specs.Expr.{Expr, Exprs, literal, context, call, group, property, index, wildcard, opposite, relation, equality, both, either, exprs_of, count, depth}
use Rattle.expr_reader.specs.Grammar.{Token, constant, root, callee, name, relational, equational, mark, takes}
use Rattle.expr_reader.specs.Outcome.{◌>>=◌}
use Rattle.expr_reader.specs.Sizes.{greatest_depth}
use Rattle.expr_reader.specs.declared.fault.Fault.{Fault}
use Rattle.expr_reader.specs.declared.fault.Fault.TheVariants.{Unexpected, ArgumentCount, TooDeep}
use Rattle.expr_reader.specs.declared.tree.Equality.{Equality}
use Rattle.expr_reader.specs.declared.tree.Function.{Function}
use Rattle.expr_reader.specs.declared.tree.Relation.{Relation}
use Rattle.expr_reader.specs.declared.tree.Wildcard.TheVariants.{Dotted, Bracketed}
use Rattle.expr_reader.specs.declared.token.Mark.{Mark}
use Rattle.expr_reader.specs.declared.token.Mark.TheVariants.{Open, Close, OpenIndex, CloseIndex, Dot, Comma, Star, Not, Both, Either}

-- What is open: a node that still wants its last part.
pub data Part : Type 0 where
  either_of : List Expr → Part
  both_of : List Expr → Part
  equality_of : Equality → Expr → Part
  relation_of : Relation → Expr → Part
  not_of : Part
  group_of : Part
  index_of : Expr → Part
  call_of : Function → List Expr → Part

-- What comes next, over what is open, the innermost first: an operand, something after an operand, the
-- name or star after a dot, the parenthesis after a function, the bracket after a star.
pub data State : Type 0 where
  want : List Part → State
  have : Expr → List Part → State
  dotted : Expr → List Part → State
  called : Function → List Part → State
  starred : Expr → List Part → State

-- Whether a dot stands before.
abbrev pub is_dotted : State → Bool
is_dotted (dotted e s) = true
is_dotted st = false

-- How tightly an operator that is open binds: one more than the level of its node, and 0 for a bracket.
abbrev pub binding : Part → ℕ
binding (either_of es) = 1
binding (both_of es) = 2
binding (equality_of q a) = 3
binding (relation_of r a) = 4
binding not_of = 5
binding group_of = 0
binding (index_of a) = 0
binding (call_of f es) = 0

-- How tightly the innermost of what is open binds, 0 where nothing is open.
abbrev pub top_binding : List Part → ℕ
top_binding [] = 0
top_binding (p ∷ s) = binding p

-- The node of an operator that is open, with its last part.
abbrev pub completed : Part → Expr → Expr
completed (either_of es) e = either (exprs_of (es ++ e ∷ []))
completed (both_of es) e = both (exprs_of (es ++ e ∷ []))
completed (equality_of q a) e = equality q a e
completed (relation_of r a) e = relation r a e
completed not_of e = opposite e
completed group_of e = e
completed (index_of a) e = e
completed (call_of f es) e = e

-- A tree over what is open.
abbrev pub Held : Type 0
Held = Expr × List Part

-- A chain of && begins with the tree, or goes on with it.
abbrev pub both_more : Expr → List Part → List Part
both_more e (both_of es ∷ s) = both_of (es ++ e ∷ []) ∷ s
both_more e s = both_of (e ∷ []) ∷ s

-- A chain of || begins with the tree, or goes on with it.
abbrev pub either_more : Expr → List Part → List Part
either_more e (either_of es ∷ s) = either_of (es ++ e ∷ []) ∷ s
either_more e s = either_of (e ∷ []) ∷ s

-- The open chain goes on with the tree.
abbrev pub lengthened : Expr → List Part → Result State Fault
lengthened e (both_of es ∷ s) = Ok (want (both_of (es ++ e ∷ []) ∷ s))
lengthened e (either_of es ∷ s) = Ok (want (either_of (es ++ e ∷ []) ∷ s))
lengthened e s = Err Unexpected

-- A tree that was made is an operand over what is open.
abbrev pub have_made : List Part → Result Expr Fault → Result State Fault
have_made s made = made >>= λ e. Ok (have e s)

-- A comma after a tree: it ends an argument.
abbrev pub end_argument : Expr → List Part → Result State Fault
end_argument e (call_of f es ∷ s) = Ok (want (call_of f (es ++ e ∷ []) ∷ s))
end_argument e s = Err Unexpected

-- The end after a tree: nothing may be open.
abbrev pub end_text : Expr → List Part → Result Expr Fault
end_text e [] = Ok e
end_text e s = Err Unexpected

-- A star where an operand may stand: it comes after an opening bracket.
abbrev pub star_index : List Part → Result State Fault
star_index (index_of a ∷ s) = Ok (starred a s)
star_index s = Err Unexpected

-- A token after a function.
abbrev pub called_step : Function → List Part → Token → Result State Fault
called_step f s (mark Open) = Ok (want (call_of f [] ∷ s))
called_step f s t = Err Unexpected

-- What limits the trees: which depths are too deep, and which counts of arguments a function takes.
pub record Limits : Type 0 where
  pub too_deep : ℕ → Bool
  pub counts : Function → ℕ → Bool

-- The limits of an expression.
abbrev pub limits : Limits
limits = record { too_deep = nat_lt greatest_depth; counts = takes }

module _ (lim : Limits) where
  -- The node, where it is not too deep.
  abbrev pub node : Expr → Result Expr Fault
  node e = if lim.too_deep (depth e) then Err TooDeep else Ok e

  -- The call, where the function takes so many arguments.
  abbrev pub called_with : Function → Exprs → Result Expr Fault
  called_with f es = if lim.counts f (count es) then node (call f es) else Err ArgumentCount

  -- What is open and binds at least so tightly takes the tree, the innermost first.
  abbrev pub close : ℕ → Expr → List Part → Result Held Fault
  close least e [] = Ok (e, [])
  close least e (p ∷ s) =
      if nat_le least (binding p) then (node (completed p e) >>= λ t. close least t s)
      else Ok (e, p ∷ s)

  -- The tree that ends at a relation.
  abbrev pub close_relation : Expr → List Part → Result Held Fault
  close_relation e s = close 4 e s

  -- The tree that ends at an equality or &&.
  abbrev pub close_equality : Expr → List Part → Result Held Fault
  close_equality e s = close 3 e s

  -- The tree that ends at ||.
  abbrev pub close_both : Expr → List Part → Result Held Fault
  close_both e s = close 2 e s

  -- The tree that ends at a comma, a closing bracket or the end of the text.
  abbrev pub close_either : Expr → List Part → Result Held Fault
  close_either e s = close 1 e s

  -- A closing parenthesis after a tree: it ends a group or a call.
  abbrev pub end_round : Expr → List Part → Result State Fault
  end_round e (group_of ∷ s) = have_made s (node (group e))
  end_round e (call_of f es ∷ s) = have_made s (called_with f (exprs_of (es ++ e ∷ [])))
  end_round e s = Err Unexpected

  -- A closing bracket after a tree: it ends an index.
  abbrev pub end_index : Expr → List Part → Result State Fault
  end_index e (index_of a ∷ s) = have_made s (node (index a e))
  end_index e s = Err Unexpected

  -- A closing parenthesis where an operand may stand: it ends a call without arguments.
  abbrev pub end_empty : List Part → Result State Fault
  end_empty (call_of f [] ∷ s) = have_made s (called_with f (exprs_of []))
  end_empty s = Err Unexpected

  -- A mark where an operand may stand.
  abbrev pub want_mark : List Part → Mark → Result State Fault
  want_mark s Open = Ok (want (group_of ∷ s))
  want_mark s Close = end_empty s
  want_mark s Star = star_index s
  want_mark s Not = Ok (want (not_of ∷ s))
  want_mark s m = Err Unexpected

  -- A mark after an operand.
  abbrev pub have_mark : Expr → List Part → Mark → Result State Fault
  have_mark e s Close = close_either e s >>= λ x. end_round x.0 x.1
  have_mark e s OpenIndex = Ok (want (index_of e ∷ s))
  have_mark e s CloseIndex = close_either e s >>= λ x. end_index x.0 x.1
  have_mark e s Dot = Ok (dotted e s)
  have_mark e s Comma = close_either e s >>= λ x. end_argument x.0 x.1
  have_mark e s Both = close_equality e s >>= λ x. Ok (want (both_more x.0 x.1))
  have_mark e s Either = close_both e s >>= λ x. Ok (want (either_more x.0 x.1))
  have_mark e s m = Err Unexpected

  -- A token where an operand may stand.
  abbrev pub want_step : List Part → Token → Result State Fault
  want_step s (constant l) = Ok (have (literal l) s)
  want_step s (root c) = Ok (have (context c) s)
  want_step s (callee f) = Ok (called f s)
  want_step s (mark m) = want_mark s m
  want_step s t = Err Unexpected

  -- A token after an operand.
  abbrev pub have_step : Expr → List Part → Token → Result State Fault
  have_step e s (relational r) = close_relation e s >>= λ x. Ok (want (relation_of r x.0 ∷ x.1))
  have_step e s (equational q) = close_equality e s >>= λ x. Ok (want (equality_of q x.0 ∷ x.1))
  have_step e s (mark m) = have_mark e s m
  have_step e s t = Err Unexpected

  -- A token after a dot.
  abbrev pub dotted_step : Expr → List Part → Token → Result State Fault
  dotted_step e s (name w) = have_made s (node (property e w))
  dotted_step e s (mark Star) = have_made s (node (wildcard Dotted e))
  dotted_step e s t = Err Unexpected

  -- A token after `[*`.
  abbrev pub starred_step : Expr → List Part → Token → Result State Fault
  starred_step e s (mark CloseIndex) = have_made s (node (wildcard Bracketed e))
  starred_step e s t = Err Unexpected

  -- What a token makes of a state.
  abbrev pub step : State → Token → Result State Fault
  step (want s) t = want_step s t
  step (have e s) t = have_step e s t
  step (dotted e s) t = dotted_step e s t
  step (called f s) t = called_step f s t
  step (starred e s) t = starred_step e s t

  -- What tokens make of a state.
  abbrev pub run : State → List Token → Result State Fault
  run st [] = Ok st
  run st (t ∷ ts) = step st t >>= λ next. run next ts

  -- The tree at the end.
  abbrev pub finish : State → Result Expr Fault
  finish (have e s) = close_either e s >>= λ x. end_text x.0 x.1
  finish st = Err Unexpected

  -- The tree that tokens make.
  abbrev pub parse : List Token → Result Expr Fault
  parse ts = run (want []) ts >>= finish
