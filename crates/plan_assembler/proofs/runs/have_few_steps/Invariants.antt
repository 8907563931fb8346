use Rattle.std.proofs.Common.{◌≡◌, drop}
use Rattle.std.specs.List.{list_all}
use Rattle.plan_assembler.specs.Layout.{at_places, has_few_steps}
use Rattle.plan_assembler.proofs.runs.have_few_steps.Given as goal

abbrev pub invariant-loop-place : goal.invariant-loop-place
invariant-loop-place l =
    list_all has_few_steps (at_places l.jobs (drop l.place-index l.places)) ≡ list_all has_few_steps (at_places l.jobs l.places)
