use Rattle.group_admission.proofs.Entering.{Ascends-after_enter}
use Rattle.group_admission.proofs.Lookups.{Ascends-each_held}
use Rattle.group_admission.specs.Content.{released, withdrawn}
use Rattle.group_admission.proofs.laws.order_stays.Goals as goal

pub returns : goal.returns
returns c = λ groups m sorted. record {
  entered = λ name own. Ascends-after_enter name m own groups sorted;
  released = Ascends-each_held (released m) groups sorted;
  withdrawn = Ascends-each_held (withdrawn m) groups sorted;
}
