use Rattle.std.proofs.Common.{◌≡◌, ◌++◌, take}
use Rattle.why_notes.specs.Account.{account_seen}
use Rattle.command_why.specs.Words.{tree_text}
use Rattle.command_why.proofs.lines.add_lines.Given as goal

abbrev pub invariant-loop-line : goal.invariant-loop-line
invariant-loop-line l =
    l.out.items ≡ l.initial.out.items ++ tree_text (account_seen l.account) (take l.line-index l.lines)
