use Rattle.expr_value.proofs.Mirror.{relations_mirror}
use Rattle.expr_value.proofs.laws.relations_mirror.Goals as goal

pub returns : goal.returns
returns c = relations_mirror
