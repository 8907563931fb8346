-- The value of an expression over a finite map of contexts and a status: parts are evaluated from the left, and
-- the first fault is the answer.
use Rattle.std.specs.Prelude.{ℕ, Bool, true, false, not, if◌then◌else◌, Result, Ok, Err, List, [], ◌∷◌}
use Rattle.expr_reader.specs.Expr.{Constant, null, truth, whole, quoted, Expr, Exprs, literal, context, call, group, property, index, wildcard, opposite, relation, equality, both, either, none, more}
use Rattle.expr_reader.specs.declared.tree.Equality.{Equality}
use Rattle.expr_reader.specs.declared.tree.Function.{Function}
use Rattle.expr_reader.specs.declared.tree.Relation.{Relation}
use Rattle.expr_value.specs.Compare.{equals, equality_of, related}
use Rattle.expr_value.specs.Context.{Contexts, context_value}
use Rattle.expr_value.specs.Convert.{truth_of}
use Rattle.expr_value.specs.Dereference.{Found, one, outside, property_found, index_found, all_found}
use Rattle.expr_value.specs.Functions.{called}
use Rattle.expr_value.specs.PlainKind.{kind_of}
use Rattle.expr_value.specs.Limit.{last_value}
use Rattle.expr_value.specs.declared.status.Status.{Status}
use Rattle.flow_model.specs.Plain as plain
use Rattle.flow_model.specs.declared.reply.ValueFault.{ValueFault}

-- A value or a fault.
abbrev pub Answer : Type 0
Answer = Result plain.Plain ValueFault

-- What a chain of dereferences has come to, or a fault.
abbrev pub Chain : Type 0
Chain = Result Found ValueFault

-- The value that is written out.
abbrev pub constant_value : Constant → plain.Plain
constant_value null = plain.null
constant_value (truth b) = plain.truth b
constant_value (whole z) = plain.whole z
constant_value (quoted bytes) = plain.text bytes

-- What a chain is outside of it.
abbrev pub ended : Chain → Answer
ended (Ok found) = Ok (outside found)
ended (Err fault) = Err fault

-- A value as the front of a chain.
abbrev pub begun : Answer → Chain
begun (Ok v) = Ok (one v)
begun (Err fault) = Err fault

-- What is done with a value; a fault stays.
abbrev pub then_value : Answer → (plain.Plain → Answer) → Answer
then_value (Ok v) next = next v
then_value (Err fault) next = Err fault

-- A value before the others.
abbrev pub with_value : plain.Plain → Result (List plain.Plain) ValueFault → Result (List plain.Plain) ValueFault
with_value v (Ok vs) = Ok (v ∷ vs)
with_value v (Err fault) = Err fault

-- All values, or the first fault.
abbrev pub all_values : List Answer → Result (List plain.Plain) ValueFault
all_values [] = Ok []
all_values (Ok v ∷ answers) = with_value v (all_values answers)
all_values (Err fault ∷ answers) = Err fault

-- A call with the values of its arguments, or their fault.
abbrev pub call_value : Function → Status → Result (List plain.Plain) ValueFault → Answer
call_value function status (Ok vs) = called function status vs
call_value function status (Err fault) = Err fault

-- The truth of a value.
abbrev pub is_truthy : plain.Plain → Bool
is_truthy v = truth_of (kind_of v)

-- The first value that is not true, or the last one; what stands after it is not asked.
abbrev pub conjunction : plain.Plain → List Answer → Answer
conjunction v [] = Ok v
conjunction v (a ∷ answers) = if is_truthy v then then_value a (λ w. conjunction w answers) else Ok v

-- The first value that is true, or the last one.
abbrev pub disjunction : plain.Plain → List Answer → Answer
disjunction v [] = Ok v
disjunction v (a ∷ answers) = if is_truthy v then Ok v else then_value a (λ w. disjunction w answers)

-- A truth value as an answer.
abbrev pub truth_answer : Result Bool ValueFault → Answer
truth_answer (Ok b) = Ok (plain.truth b)
truth_answer (Err fault) = Err fault

-- !v
abbrev pub opposite_value : plain.Plain → Answer
opposite_value v = Ok (plain.truth (not (is_truthy v)))

-- v < w and its like
abbrev pub relation_value : Relation → plain.Plain → plain.Plain → Answer
relation_value r v w = truth_answer (related r (kind_of v) (kind_of w))

-- v == w or v != w
abbrev pub equality_value : Equality → plain.Plain → plain.Plain → Answer
equality_value q v w = truth_answer (equality_of q (equals (kind_of v) (kind_of w)))

-- A value of two parts, from the left.
abbrev pub of_two : (plain.Plain → plain.Plain → Answer) → Answer → Answer → Answer
of_two combine a b = then_value a (λ v. then_value b (combine v))

-- A chain with .name after it.
abbrev pub property_chain : List ℕ → Chain → Chain
property_chain name (Ok found) = Ok (property_found name found)
property_chain name (Err fault) = Err fault

-- What a chain has come to, with an index after it.
abbrev pub indexed : Found → Answer → Chain
indexed found (Ok v) = index_found (kind_of v) found
indexed found (Err fault) = Err fault

-- A chain with [index] after it.
abbrev pub index_chain : Chain → Answer → Chain
index_chain (Ok found) a = indexed found a
index_chain (Err fault) a = Err fault

-- A chain with .* after it.
abbrev pub all_chain : Chain → Chain
all_chain (Ok found) = Ok (all_found found)
all_chain (Err fault) = Err fault

abbrev mutual
  -- What an expression comes to as the front of a chain.
  pub chain : Contexts → Status → Expr → Chain
  chain c s (literal l) = Ok (one (constant_value l))
  chain c s (context x) = Ok (one (context_value c x))
  chain c s (call f es) = begun (call_value f s (all_values (answers c s es)))
  chain c s (group e) = begun (ended (chain c s e))
  chain c s (property e name) = property_chain name (chain c s e)
  chain c s (index e i) = index_chain (chain c s e) (ended (chain c s i))
  chain c s (wildcard w e) = all_chain (chain c s e)
  chain c s (opposite e) = begun (then_value (ended (chain c s e)) opposite_value)
  chain c s (relation r a b) = begun (of_two (relation_value r) (ended (chain c s a)) (ended (chain c s b)))
  chain c s (equality q a b) = begun (of_two (equality_value q) (ended (chain c s a)) (ended (chain c s b)))
  chain c s (both es) = begun (conjunction (plain.truth true) (answers c s es))
  chain c s (either es) = begun (disjunction (plain.truth false) (answers c s es))

  -- The answers of arguments or parts.
  pub answers : Contexts → Status → Exprs → List Answer
  answers c s none = []
  answers c s (more e es) = ended (chain c s e) ∷ answers c s es

-- The value of an expression.
abbrev pub value : Contexts → Status → Expr → Answer
value c s e = ended (chain c s e)

-- The value that an evaluation of it gives.
abbrev pub evaluated : Contexts → Status → Expr → Answer
evaluated c s e = then_value (value c s e) last_value
