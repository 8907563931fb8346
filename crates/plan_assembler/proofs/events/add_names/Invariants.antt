use Rattle.std.proofs.Common.{◌≡◌, drop}
use Rattle.plan_assembler.specs.Events.{with_names}
use Rattle.plan_assembler.proofs.events.add_names.Given as goal

abbrev pub invariant-loop-name : goal.invariant-loop-name
invariant-loop-name l = with_names (drop l.name-index l.names) l.marked ≡ with_names l.names l.fn.marked
