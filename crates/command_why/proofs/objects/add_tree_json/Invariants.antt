use Rattle.std.proofs.Common.{◌≡◌, ◌++◌, take}
use Rattle.why_notes.specs.Account.{account_seen}
use Rattle.command_why.specs.Objects.{tree_json}
use Rattle.command_why.proofs.objects.add_tree_json.Given as goal

abbrev pub invariant-loop-line : goal.invariant-loop-line
invariant-loop-line l =
    l.out.items ≡ l.initial.out.items ++ tree_json (account_seen l.account) (take l.line-index l.lines)
