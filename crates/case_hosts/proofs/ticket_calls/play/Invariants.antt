use Rattle.std.proofs.Common.{◌≡◌, ◌+◌}
use Rattle.ready_queue.specs.Names.{Name}
use Rattle.ready_queue.specs.Passes.{IsPassOf, records_of}
use Rattle.ready_queue.specs.Records.{keepers}
use Rattle.case_hosts.proofs.ticket_calls.play.Given as goal

-- both are passes of the queue, and together they keep each name once
abbrev pub invariant-loop-line : goal.invariant-loop-line
invariant-loop-line g l = record {
  first : IsPassOf l.queue l.first;
  second : IsPassOf l.queue l.second;
  whole : (name : Name) → keepers name (records_of l.first) + keepers name (records_of l.second) ≡ 1;
}
