use Rattle.std.proofs.Common.{◌≡◌, drop}
use Rattle.plan_assembler.specs.Layout.{is_one_of}
use Rattle.plan_assembler.proofs.layout.is_one_of.Given as goal

abbrev pub invariant-loop-other : goal.invariant-loop-other
invariant-loop-other l = is_one_of (drop l.other-index l.texts) l.text ≡ is_one_of l.texts l.text
