use Rattle.std.proofs.Common.{◌≡◌, drop}
use Rattle.std.specs.List.{list_all}
use Rattle.plan_assembler.specs.Layout.{ids_of, is_one_of}
use Rattle.plan_assembler.proofs.layout.is_known.Given as goal

abbrev pub invariant-loop-need : goal.invariant-loop-need
invariant-loop-need l = list_all (is_one_of (ids_of l.jobs)) (drop l.need-index l.needs) ≡ list_all (is_one_of (ids_of l.jobs)) l.needs
