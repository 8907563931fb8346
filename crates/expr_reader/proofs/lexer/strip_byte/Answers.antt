-- A text may be cut after its first byte, where that is ASCII.
use Rattle.std.proofs.Common.{List, ℕ, subst, arith}
use Rattle.std.proofs.lemmas.Str.{IsCharBoundary-after_ascii}
use Rattle.std.specs.Str.{IsCharBoundary}
use Rattle.expr_reader.proofs.lexer.strip_byte.Goals as goal

pub split_at-requires : goal.split_at-requires
split_at-requires c = subst (λ (bs : List ℕ). IsCharBoundary bs 1) c.as_bytes.ensures.value (IsCharBoundary-after_ascii c.as_bytes.result.now 0 c.as_bytes.ensures.utf8 (omega arith) (omega arith))
