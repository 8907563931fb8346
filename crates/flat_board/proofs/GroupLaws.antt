-- The laws of the groups by names, as the table asks for them.
use Rattle.flat_board.specs.Words.{released, withdrawn}
use Rattle.status_table.proofs.Grouped.{GroupLaws}
use Rattle.group_admission.proofs.Entering.{first_holds, next_displaces, own_run_changes_nothing, Ascends-after_enter}
use Rattle.group_admission.proofs.Leaving.{release_passes_on, withdraw_leaves_holder}
use Rattle.group_admission.proofs.Lookups.{Ascends-each_held}
use Rattle.group_admission.proofs.Nowhere.{nowhere_is_no_group}
use Rattle.group_admission.proofs.Once.{once_stays}

pub group_laws : GroupLaws
group_laws = record {
  first = first_holds;
  next = next_displaces;
  same = own_run_changes_nothing;
  release = release_passes_on;
  withdraw = withdraw_leaves_holder;
  order = λ groups m sorted. record {
    entered = λ name own. Ascends-after_enter name m own groups sorted;
    released = Ascends-each_held (released m) groups sorted;
    withdrawn = Ascends-each_held (withdrawn m) groups sorted;
  };
  once = once_stays;
  nowhere = nowhere_is_no_group;
}
