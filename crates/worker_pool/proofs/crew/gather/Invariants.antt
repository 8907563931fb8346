use Rattle.std.proofs.Common.{◌≡◌, ◌+◌, ◌≤◌, IfSome, map, vec_len, vec_capacity}
use Rattle.std.specs.List.{All}
use Rattle.ready_queue.specs.Names.{Name}
use Rattle.ready_queue.specs.Passes.{IsPassOf, records_of}
use Rattle.ready_queue.specs.Records.{keepers}
use Rattle.worker_pool.specs.Log.{HaltsFor}
use Rattle.worker_pool.specs.Logs.{AreAnswered}
use Rattle.worker_pool.specs.Worker.{IsFit, crew_keepers}
use Rattle.worker_pool.proofs.crew.gather.Given as goal

-- what the workers so far logged is answered, and the passes of the others with the joined one keep each name once
abbrev pub invariant-loop-worker : goal.invariant-loop-worker
invariant-loop-worker g l = record {
  pass : IsPassOf l.queue l.joined;
  whole : (name : Name) → keepers name (records_of l.joined) + crew_keepers name l.crew.items ≡ 1;
  shares : vec_len l.back.shares + vec_len l.crew ≡ vec_len l.fn.crew;
  entries : vec_len l.back.logs.entries + vec_len l.crew ≡ vec_len l.fn.crew;
  calls : vec_len l.back.logs.calls + vec_len l.crew ≡ vec_len l.fn.crew;
  share_room : vec_len l.fn.crew ≤ vec_capacity l.back.shares;
  entry_room : vec_len l.fn.crew ≤ vec_capacity l.back.logs.entries;
  call_room : vec_len l.fn.crew ≤ vec_capacity l.back.logs.calls;
  fit : All (IsFit (g.H.StepHost.admits l._host) l.queue) l.crew.items;
  halts : All (λ w. IfSome w.halt (HaltsFor (g.H.StepHost.declines l._host))) l.crew.items;
  answered : AreAnswered (g.H.StepHost.admits l._host) (map (λ log. log.items) l.back.logs.entries.items) (map (λ log. log.items) l.back.logs.calls.items);
  first : IfSome l.first (HaltsFor (g.H.StepHost.declines l._host));
}

abbrev pub decreases-loop-worker : goal.decreases-loop-worker
decreases-loop-worker g l = vec_len l.crew
