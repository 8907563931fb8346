use Rattle.std.proofs.Common.{◌≡◌, ◌-◌, ◌++◌, reverse}
use Rattle.why_causes.specs.Tree.{lines, most_lines}
use Rattle.why_causes.proofs.tree.answer_all.Given as goal
use Rattle.why_notes.specs.Account.{account_seen}

abbrev pub invariant-loop-turn : goal.invariant-loop-turn
invariant-loop-turn l =
    l.out.items ++ lines (most_lines - l.turn) (account_seen l.account) (reverse l.stack.items) l.told
    ≡ lines most_lines (account_seen l.account) (reverse l.initial.stack.items) l.initial.told
