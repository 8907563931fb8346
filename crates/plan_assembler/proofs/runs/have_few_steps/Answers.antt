use Rattle.std.proofs.Common.{◌≡◌, ◌∙◌, false, true, sym, rules}
use Rattle.plan_assembler.proofs.JobSteps.{steps_next}
use Rattle.plan_assembler.proofs.runs.have_few_steps.Goals as goal

pub returns-then-not-has_few_steps : goal.returns-then-not-has_few_steps
returns-then-not-has_few_steps c =
    let no : false ≡ c.has_few_steps.result = search rules in
    rw (← c.as_slice-places.ensures) (sym (steps_next c.args.jobs.now c.as_slice-places.result.now c.loop-place.place-index _ false c.loop-place-test.true (search rules) (no ∙ c.has_few_steps.ensures)) ∙ c.loop-place.invariant)

pub loop-place-preserved : goal.loop-place-preserved
loop-place-preserved c =
    let yes : true ≡ c.has_few_steps.result = search rules in
    sym (steps_next c.args.jobs.now c.as_slice-places.result.now c.loop-place.place-index _ true c.loop-place-test.true (search rules) (yes ∙ c.has_few_steps.ensures)) ∙ c.loop-place.invariant
