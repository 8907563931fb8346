use Rattle.std.proofs.Common.{◌≡◌, drop, []}
use Rattle.plan_assembler.specs.Events.{with_events}
use Rattle.plan_assembler.proofs.events.marked_events.Given as goal

abbrev pub invariant-loop-flow : goal.invariant-loop-flow
invariant-loop-flow l = with_events (drop l.flow-index l.flows) l.marked ≡ with_events l.flows []
