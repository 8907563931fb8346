use Rattle.matrix_expand.proofs.Entries.{excludes_out as proof}
use Rattle.matrix_expand.proofs.laws.excludes_are_out.Goals as goal

pub returns : goal.returns
returns c = proof
