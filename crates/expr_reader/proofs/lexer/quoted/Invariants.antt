-- The text so far and what is left of it are the whole text.
use Rattle.std.proofs.Common.{◌≡◌, cond, drop}
use Rattle.expr_reader.specs.Lexer.{with_front, unquoted, after_quote}
use Rattle.expr_reader.proofs.lexer.quoted.Given as goal

abbrev pub invariant-loop-place : goal.invariant-loop-place
invariant-loop-place l = with_front l.text.items (cond l.after_quote (after_quote (drop l.place l.bytes)) (unquoted (drop l.place l.bytes))) ≡ unquoted l.bytes
