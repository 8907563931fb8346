use Rattle.std.proofs.Common.{◌≡◌, ◌++◌, drop}
use Rattle.command_why.specs.Parts.{step_parts}
use Rattle.command_why.proofs.parts.add_steps.Given as goal

abbrev pub invariant-loop-place : goal.invariant-loop-place
invariant-loop-place l =
    l.out.items ++ step_parts l.leg l.place (drop l.place l.steps) ≡ l.initial.out.items ++ step_parts l.leg 0 l.steps
