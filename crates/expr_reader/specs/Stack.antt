-- The machine's state, apart from where it lies in memory.
use Rattle.std.specs.Prelude.{ℕ, suc, Result, Ok, Option, Some, None, List, map, reverse, string_bytes, Vec}
use Rattle.std.specs.Borrow.{Bor}
use Rattle.std.specs.declared.alloc.Global.{Global}
use Rattle.expr_reader.specs.Expr.{Expr}
use Rattle.expr_reader.specs.Grammar.{Token, constant, root, callee, name, relational, equational, mark}
use Rattle.expr_reader.specs.Lexer.{Lexed}
use Rattle.expr_reader.specs.Machine.{Part, either_of, both_of, equality_of, relation_of, not_of, group_of, index_of, call_of, both_more, either_more, State, want, have, dotted, called, starred, Held, limits, close}
use Rattle.expr_reader.specs.Outcome.{◌>>=◌}
use Rattle.expr_reader.specs.View.{view, views, constant_of}
use Rattle.expr_reader.specs.declared.fault.Fault.{Fault}
use Rattle.expr_reader.specs.declared.operand.Chain.{Chain}
use Rattle.expr_reader.specs.declared.operand.Chain.TheVariants as chain
use Rattle.expr_reader.specs.declared.operand.Operand.{Operand}
use Rattle.expr_reader.specs.declared.operand.Trees.{Trees}
use Rattle.expr_reader.specs.declared.machine.Frame.{Frame}
use Rattle.expr_reader.specs.declared.machine.Frame.TheVariants as frame
use Rattle.expr_reader.specs.declared.machine.Mode.{Mode}
use Rattle.expr_reader.specs.declared.machine.Mode.TheVariants as mode
use Rattle.expr_reader.specs.declared.machine.Machine.{Machine}
use Rattle.expr_reader.specs.declared.token.Token as token
use Rattle.expr_reader.specs.declared.token.Token.TheVariants as tok

-- The expression of an operand, and those of a list of trees.
abbrev pub tree_of : Operand → Expr
tree_of o = view o.tree

abbrev pub trees_of : Trees → List Expr
trees_of ts = views ts.trees.items

-- An open chain.
abbrev pub chain_of : Chain → List Expr → Part
chain_of chain.Either es = either_of es
chain_of chain.Both es = both_of es

-- How tightly an open chain binds.
abbrev pub chain_binding : Chain → ℕ
chain_binding chain.Either = 1
chain_binding chain.Both = 2

-- A chain begins with the tree, or goes on with it.
abbrev pub chain_more : Chain → Expr → List Part → List Part
chain_more chain.Either = either_more
chain_more chain.Both = both_more

-- The operator of a chain after a tree.
abbrev pub chained : Chain → Expr → List Part → Result State Fault
chained c e s = close limits (suc (chain_binding c)) e s >>= λ x. Ok (want (chain_more c x.0 x.1))

-- What one frame of the stack holds open.
abbrev pub part : Frame → Part
part (frame.Chain c ts) = chain_of c (trees_of ts)
part (frame.Equality q o) = equality_of q (tree_of o)
part (frame.Relation r o) = relation_of r (tree_of o)
part frame.Not = not_of
part frame.Group = group_of
part (frame.Index o) = index_of (tree_of o)
part (frame.Call f ts) = call_of f (trees_of ts)

-- What is open, the innermost first.
abbrev pub parts_of : List Frame → List Part
parts_of frames = reverse (map part frames)

abbrev pub parts : Vec Frame Global → List Part
parts frames = parts_of frames.items

-- An operand over what is open.
abbrev pub held : Operand × Vec Frame Global → Held
held x = (tree_of x.0, parts x.1)

abbrev pub state_at : Mode → List Part → State
state_at mode.Want s = want s
state_at (mode.Have o) s = have (tree_of o) s
state_at (mode.Dotted o) s = dotted (tree_of o) s
state_at (mode.Called f) s = called f s
state_at (mode.Starred o) s = starred (tree_of o) s

-- The machine's state.
abbrev pub state_of : Machine → State
state_of m = state_at m.mode (parts m.frames)

-- A token, its text as bytes.
abbrev pub token_of : token.Token → Token
token_of (tok.Constant l) = constant (constant_of l)
token_of (tok.Root c) = root c
token_of (tok.Callee f) = callee f
token_of (tok.Name s) = name (string_bytes s)
token_of (tok.Relational r) = relational r
token_of (tok.Equational q) = equational q
token_of (tok.Mark m) = mark m

-- A token and the text after it.
abbrev pub lexed : token.Token × Bor (List ℕ) → Lexed
lexed x = (token_of x.0, x.1.now)

abbrev pub some_lexed : Option (token.Token × Bor (List ℕ)) → Option Lexed
some_lexed None = None
some_lexed (Some x) = Some (lexed x)
