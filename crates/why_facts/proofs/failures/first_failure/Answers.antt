use Rattle.std.proofs.Common.{◌≡◌, ◌+◌, Bool, false, ◌∷◌, drop, sym, ◌∙◌}
use Rattle.status_table.specs.Words.{DoneStep, is_failure}
use Rattle.why_facts.proofs.failures.first_failure.Goals as goal
use Rattle.flow_model.proofs.Conversions.{drop-next}
use Rattle.status_table.proofs.Standings.{first_next}

pub loop-place-preserved : goal.loop-place-preserved
loop-place-preserved c =
    let steps = c.args.steps.now in
    let i = c.loop-place.place in
    let step : DoneStep = c.index-steps-place.result in
    let test : DoneStep → Bool = λ x. is_failure x.conclusion in
    let rest : drop i steps ≡ step ∷ drop (i + 1) steps = drop-next steps i step c.loop-place-test.true c.index-steps-place.is in
    let no : test step ≡ false = sym c.is_failure.ensures ∙ c.if-is_failure.false in
    first_next test steps i step _ rest no c.loop-place.invariant
