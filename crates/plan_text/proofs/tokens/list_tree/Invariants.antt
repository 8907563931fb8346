use Rattle.std.proofs.Common.{map, length}
use Rattle.serde_json.specs.View.{view}
use Rattle.plan_text.proofs.SpelledLaws.{SpellEach}
use Rattle.plan_text.proofs.tokens.list_tree.Given as goal

abbrev pub invariant-loop-alloc : goal.invariant-loop-alloc
invariant-loop-alloc l = SpellEach 99 l.fn.reader (map view l.trees.items) l.reader

abbrev pub decreases-loop-alloc : goal.decreases-loop-alloc
decreases-loop-alloc l = length l.reader
