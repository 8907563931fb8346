use Rattle.std.proofs.Common.{inl}
use Rattle.command_run.proofs.run.run.Goals as goal

pub returns-in-Ok : goal.returns-in-Ok
returns-in-Ok g c =
    inl
    (record {
      both = (c.in-Ok.stubs, c.in-Ok.plan.items);
      read = c.in-Ok.ensures;
      told = c.run_texts.ensures;
    })
