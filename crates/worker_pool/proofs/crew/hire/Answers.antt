use Rattle.std.proofs.Common.{rules, None}
use Rattle.worker_pool.proofs.Hired.{fit_hired, one_hired}
use Rattle.worker_pool.specs.declared.worker.Worker.{Worker}
use Rattle.worker_pool.proofs.crew.hire.Goals as goal

pub loop-share-preserved : goal.loop-share-preserved
loop-share-preserved g c =
    let w : Worker g.row.N.Denot = record { share = c.in-Some.share; pass = c.split-left.result.1; log = c.new.result; halt = None } in
    let crew = c.loop-share.crew.items in
    let all = c.push_reserved.new.self.items in
    record {
      pass = c.split-left.ensures.passes.0;
      whole = one_hired c.loop-share.rest c.split-left.result.0 crew all w c.push_reserved.ensures.items c.split-left.ensures.names c.loop-share.invariant.whole;
      counted = search rules;
      room = search rules;
      kept = search rules;
      fit = fit_hired (g.H.StepHost.admits c.args._host.now) c.args.pool.now.queue crew all w c.push_reserved.ensures.items c.loop-share.invariant.fit
          c.split-left.ensures.passes.1 c.new.ensures.entries c.new.ensures.calls;
    }
