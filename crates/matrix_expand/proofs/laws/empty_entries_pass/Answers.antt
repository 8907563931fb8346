use Rattle.matrix_expand.proofs.Entries.{empty_entries_pass as proof}
use Rattle.matrix_expand.proofs.laws.empty_entries_pass.Goals as goal

pub returns : goal.returns
returns c = proof
