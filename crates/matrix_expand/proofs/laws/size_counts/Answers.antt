use Rattle.matrix_expand.proofs.Products.{length_product as proof}
use Rattle.matrix_expand.proofs.laws.size_counts.Goals as goal

pub returns : goal.returns
returns c = proof
