use Rattle.std.proofs.Common.{◌∙◌, ℕ, true, ap, replicate}
use Rattle.plan_assembler.proofs.Marks.{alike_each}
use Rattle.plan_assembler.proofs.layout.all_taken.Goals as goal

pub returns : goal.returns
returns c =
    c.new.ensures ∙ c.in_ok-marks.ensures ∙ ap (λ (n : ℕ). replicate n true) c.len.ensures ∙ alike_each true c.args.jobs.now
