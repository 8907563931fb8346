use Rattle.std.proofs.Common.{◌≡◌, ◌++◌, string_bytes, drop}
use Rattle.plan_text.specs.BoardText.{steps_text}
use Rattle.plan_text.specs.Changes.{later_steps}
use Rattle.plan_text.proofs.changes.add_steps.Given as goal

abbrev pub invariant-loop-place : goal.invariant-loop-place
invariant-loop-place l =
    string_bytes l.text ++ steps_text l.place (drop l.place l.steps) ≡ string_bytes l.initial.text ++ later_steps l.first l.steps
