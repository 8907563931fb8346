use Rattle.flow_model.proofs.Nesting.{is_within-nests, nests-is_within}
use Rattle.flow_model.proofs.laws.depth_is_nesting.Goals as goal

pub returns : goal.returns
returns c = λ n v. (is_within-nests n v, nests-is_within n v)
