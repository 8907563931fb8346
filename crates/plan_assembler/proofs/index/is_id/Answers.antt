use Rattle.std.proofs.lemmas.List.{length-map}
use Rattle.flow_model.specs.declared.flow.FlowJob.{FlowJob}
use Rattle.plan_assembler.specs.Layout.{ids_of}
use Rattle.plan_assembler.proofs.IdPlaces.{place_among}
use Rattle.plan_assembler.proofs.index.is_id.Goals as goal

pub returns : goal.returns
returns c =
    rw (c.place_of.ensures, c.len.ensures, ← length-map c.args.jobs.now (λ (job : FlowJob). job.id)) (place_among (ids_of c.args.jobs.now) c.args.id.now)
