use Rattle.matrix_expand.proofs.Entries.{includes_alone as proof}
use Rattle.matrix_expand.proofs.laws.includes_alone.Goals as goal

pub returns : goal.returns
returns c = proof
