use Rattle.std.proofs.Common.{rules, ◌≡◌, ◌+◌, length, List, IfSome, ap, subst, sym, ◌∙◌}
use Rattle.std.specs.List.{All}
use Rattle.ready_queue.specs.Passes.{records_of}
use Rattle.ready_queue.specs.Records.{keepers}
use Rattle.worker_pool.specs.Log.{HaltsFor}
use Rattle.worker_pool.specs.Worker.{IsFit, crew_keepers}
use Rattle.worker_pool.specs.declared.worker.Worker.{Worker}
use Rattle.worker_pool.proofs.Hired.{written}
use Rattle.worker_pool.proofs.many.play_start.Goals as goal

pub gather-pass-requires-clause-whole : goal.gather-pass-requires-clause-whole
gather-pass-requires-clause-whole g c κs within = λ name.
    let crew = c.hire-rest.new.crew in
    let long : crew.len ≡ length crew.items = search rules in
    let same : length c.play_each.new.workers ≡ length crew.items = search rules in
    let kept = ap (crew_keepers name) (written crew.len crew.items c.play_each.new.workers long same) ∙ c.play_each.ensures.names name
    ∙ ap (crew_keepers name) c.as_mut_slice.ensures.value in
    ap (λ n. keepers name (records_of c.hire-rest.result) + n) kept ∙ c.hire-rest.ensures.whole name

pub gather-pass-requires-clause-fit : goal.gather-pass-requires-clause-fit
gather-pass-requires-clause-fit g c κs within =
    let crew = c.hire-rest.new.crew in
    let long : crew.len ≡ length crew.items = search rules in
    let same : length c.play_each.new.workers ≡ length crew.items = search rules in
    subst (λ (ws : List (Worker g.row.N.Denot)). All (IsFit (g.H.StepHost.admits c.args.host.now) c.args.start.pool.queue) ws)
    (sym (written crew.len crew.items c.play_each.new.workers long same)) c.play_each.ensures.fit

pub gather-pass-requires-clause-halts : goal.gather-pass-requires-clause-halts
gather-pass-requires-clause-halts g c κs within =
    let crew = c.hire-rest.new.crew in
    let long : crew.len ≡ length crew.items = search rules in
    let same : length c.play_each.new.workers ≡ length crew.items = search rules in
    subst (λ (ws : List (Worker g.row.N.Denot)). All (λ w. IfSome w.halt (HaltsFor (g.H.StepHost.declines c.args.host.now))) ws)
    (sym (written crew.len crew.items c.play_each.new.workers long same)) c.play_each.ensures.halts
