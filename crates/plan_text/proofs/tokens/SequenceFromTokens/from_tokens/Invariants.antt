use Rattle.std.proofs.Common.{map, length}
use Rattle.plan_text.proofs.SpelledLaws.{SpellEach}
use Rattle.plan_text.proofs.tokens.SequenceFromTokens.from_tokens.Given as goal

abbrev pub invariant-loop-alloc : goal.invariant-loop-alloc
invariant-loop-alloc g l = SpellEach g.T.FromTokens.levels l.fn.reader (map g.T.FromTokens.document l.parts.items) l.reader

abbrev pub decreases-loop-alloc : goal.decreases-loop-alloc
decreases-loop-alloc g l = length l.reader
