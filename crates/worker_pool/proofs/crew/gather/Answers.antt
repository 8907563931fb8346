use Rattle.std.proofs.Common.{◌≡◌, rules, length, arith}
use Rattle.worker_pool.specs.Log.{HaltsFor}
use Rattle.worker_pool.proofs.Hired.{answered_gathered, fit_left, first_halt, halts_left, one_gathered}
use Rattle.worker_pool.proofs.crew.gather.Goals as goal

pub loop-worker-preserved : goal.loop-worker-preserved
loop-worker-preserved g c =
    let admits = g.H.StepHost.admits c.args._host.now in
    let declines = g.H.StepHost.declines c.args._host.now in
    let queue = c.args.queue.now in
    let at = c.loop-worker.invariant in
    let crew = c.pop.new.self.items in
    let all = c.loop-worker.crew.items in
    let w = c.in-Some.worker in
    let old = c.loop-worker.back.logs in
    let fits = fit_left admits queue crew all w c.in-Some.ensures.items at.fit in
    let halts = halts_left declines crew all w c.in-Some.ensures.items at.halts in
    let same : length old.entries.items ≡ length old.calls.items = omega (arith, at.entries, at.calls, old.entries.ok.0, old.calls.ok.0) in
    record {
      pass = c.join-joined.ensures.pass;
      whole = one_gathered c.loop-worker.joined c.join-joined.result crew all w c.in-Some.ensures.items c.join-joined.ensures.names at.whole;
      shares = search rules;
      entries = search rules;
      calls = search rules;
      share_room = search rules;
      entry_room = search rules;
      call_room = search rules;
      fit = fits.0;
      halts = halts.0;
      answered = answered_gathered admits old c.add.new.self w.log c.add.ensures.entries c.add.ensures.calls same at.answered fits.1.answered;
      first = first_halt (HaltsFor declines) c.loop-worker.first w.halt c.or-first.result c.or-first.ensures at.first halts.1;
    }
