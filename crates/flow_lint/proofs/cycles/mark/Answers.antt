use Rattle.std.proofs.Common.{sym, true, arith}
use Rattle.std.proofs.lemmas.List.{set_past}
use Rattle.flow_lint.proofs.cycles.mark.Goals as goal

pub returns-else-place-len : goal.returns-else-place-len
returns-else-place-len c = sym (set_past c.args.marks.now.items c.args.place true (omega (arith, c.if-place-len.false, c.len.ensures)))
