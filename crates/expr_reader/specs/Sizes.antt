-- The greatest sizes of what is read.
use Rattle.std.specs.Prelude.{ℕ}

-- The greatest depth of an expression's tree.
abbrev pub greatest_depth : ℕ
greatest_depth = 50

-- The most bytes of an expression.
abbrev pub longest_expression : ℕ
longest_expression = 20000

-- The most bytes of a template.
abbrev pub longest_template : ℕ
longest_template = 1048576
