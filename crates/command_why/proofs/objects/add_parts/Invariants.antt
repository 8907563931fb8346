use Rattle.std.proofs.Common.{◌≡◌, ◌++◌, drop, false}
use Rattle.serde_json.specs.Written.{items_text}
use Rattle.command_why.specs.Objects.{parts_data}
use Rattle.command_why.proofs.objects.add_parts.Given as goal

abbrev pub invariant-loop-question : goal.invariant-loop-question
invariant-loop-question l =
    l.out.items ++ items_text l.later (parts_data (drop l.question-index l.questions))
    ≡ l.initial.out.items ++ items_text false (parts_data l.questions)
