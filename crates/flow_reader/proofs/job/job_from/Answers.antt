use Rattle.std.proofs.Common.{ap, ◌∙◌}
use Rattle.flow_reader.specs.Workflow.{job_with}
use Rattle.flow_reader.proofs.job.job_from.Goals as goal

pub returns : goal.returns
returns c =
    c.job_with.ensures ∙ ap (λ steps. job_with c.args.id steps c.split_steps-defaults.result.1.1) c.in_ok-fill_each.ensures ∙ c.split_steps-defaults.ensures c.args.id
