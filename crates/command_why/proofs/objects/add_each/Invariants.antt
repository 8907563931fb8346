use Rattle.std.proofs.Common.{◌≡◌, ◌++◌, take}
use Rattle.why_notes.specs.Account.{account_seen}
use Rattle.command_why.specs.Objects.{each_json}
use Rattle.command_why.proofs.objects.add_each.Given as goal

abbrev pub invariant-loop-question : goal.invariant-loop-question
invariant-loop-question l =
    l.out.items ≡ l.initial.out.items ++ each_json (account_seen l.account) (take l.question-index l.parts)
