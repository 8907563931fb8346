use Rattle.std.proofs.Common.{◌≡◌, ◌+◌, ◌≤◌, vec_len, vec_capacity}
use Rattle.std.specs.List.{All}
use Rattle.ready_queue.specs.Names.{Name}
use Rattle.ready_queue.specs.Passes.{IsPassOf, records_of}
use Rattle.ready_queue.specs.Records.{keepers}
use Rattle.worker_pool.specs.Worker.{IsFit, crew_keepers}
use Rattle.worker_pool.proofs.crew.hire.Given as goal

-- each share so far has its worker, and the passes of all keep each name once
abbrev pub invariant-loop-share : goal.invariant-loop-share
invariant-loop-share g l = record {
  pass : IsPassOf l.pool.queue l.rest;
  whole : (name : Name) → keepers name (records_of l.rest) + crew_keepers name l.crew.items ≡ 1;
  counted : vec_len l.crew + vec_len l.shares ≡ vec_len l.fn.shares;
  room : vec_len l.fn.shares ≤ vec_capacity l.crew;
  kept : vec_capacity l.shares ≡ vec_capacity l.fn.shares;
  fit : All (IsFit (g.H.StepHost.admits l._host) l.pool.queue) l.crew.items;
}

abbrev pub decreases-loop-share : goal.decreases-loop-share
decreases-loop-share g l = vec_len l.shares
