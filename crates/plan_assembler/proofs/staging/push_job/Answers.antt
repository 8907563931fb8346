use Rattle.std.proofs.Common.{◌≡◌, ◌∙◌, ◌++◌, [], ◌∷◌, ℕ, List, ap}
use Rattle.plan_assembler.specs.Staging.{next_stage}
use Rattle.plan_assembler.proofs.Stagings.{bounded_next}
use Rattle.plan_assembler.proofs.staging.push_job.Goals as goal

pub returns-clause-bounded : goal.returns-clause-bounded
returns-clause-bounded c =
    let stage : c.next_stage-stage.result ≡ next_stage c.args.found.now.items c.args.needs.now =
    c.next_stage-stage.ensures ∙ ap (λ (l : List ℕ). next_stage l c.args.needs.now) c.as_slice.ensures.value in
    bounded_next c.args.found.now.items c.push.new.self.items c.args.needs.now c.requires
    (c.in_ok-push.ensures.items ∙ ap (λ (s : ℕ). c.args.found.now.items ++ s ∷ []) stage)
