use Rattle.std.proofs.Common.{refl, arith}
use Rattle.flow_lint.proofs.hint.add_step.Goals as goal

pub add_beside-requires-2-clause-both : goal.add_beside-requires-2-clause-both
add_beside-requires-2-clause-both c = (1, omega arith, refl)

pub add_beside-requires-3-clause-both : goal.add_beside-requires-3-clause-both
add_beside-requires-3-clause-both c = (2, omega arith, refl)
