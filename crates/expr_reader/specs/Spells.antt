-- Which text spells a tree.
use Rattle.std.specs.Prelude.{ℕ, ◌≤◌, List, length}
use Rattle.expr_reader.specs.Expr.{Expr, depth}
use Rattle.expr_reader.specs.Grammar.{Shaped, tokens}
use Rattle.expr_reader.specs.Spelling.{Lexes}
use Rattle.expr_reader.specs.Sizes.{greatest_depth, longest_expression}

-- The text spells the tree, within the limits: it is a list of tokens, each as long as can be, that
-- derives the tree, whose depth is at most 50, and it has at most 20,000 bytes.
pub record Spells (e : Expr) (text : List ℕ) : Type 0 where
  pub shaped : Shaped e
  pub shallow : depth e ≤ greatest_depth
  pub short : length text ≤ longest_expression
  pub lexes : Lexes text (tokens e)

-- The text is an expression.
abbrev pub IsExpression : List ℕ → Type 0
IsExpression text = (e : Expr) × Spells e text
