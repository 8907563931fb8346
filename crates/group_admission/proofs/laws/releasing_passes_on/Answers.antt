use Rattle.group_admission.proofs.Leaving.{release_passes_on}
use Rattle.group_admission.proofs.laws.releasing_passes_on.Goals as goal

pub returns : goal.returns
returns c = release_passes_on
