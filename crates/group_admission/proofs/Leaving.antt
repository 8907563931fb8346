-- What releasing a name or leaving a wait leaves.
use Rattle.std.proofs.Common.{◌≡◌, ◌≢◌, ℕ, Bool, true, false, List, if◌then◌else◌, Option, Some, None, option_map, option_and_then, refl, ap, ◌∙◌}
use Rattle.flow_model.specs.Mapping.{value_at, Ascends}
use Rattle.flow_model.specs.declared.event.Member.{Member}
use Rattle.group_admission.proofs.Lookups.{found_each}
use Rattle.group_admission.proofs.Members.{another, member_itself, there}
use Rattle.group_admission.specs.Content.{Content, is_member, passed_on, released, withdrawn}
use Rattle.group_admission.specs.Laws.{ReleasePassesOn, WithdrawLeavesHolder}
use Rattle.group_admission.specs.declared.held.Held.{Held}

abbrev holder_in : Option Held → Option Member
holder_in o = option_map (λ (held : Held). held.holder) o

abbrev waiter_in : Option Held → Option Member
waiter_in o = option_and_then (λ (held : Held). held.waiter) o

passed_holder : (w : Option Member) → holder_in (passed_on w) ≡ w
passed_holder None = refl
passed_holder (Some w) = refl

passed_waiter : (w : Option Member) → waiter_in (passed_on w) ≡ None
passed_waiter None = refl
passed_waiter (Some w) = refl

released_holder : (m : Member) (o : Option Held) → holder_in o ≡ Some m → holder_in (option_and_then (released m) o) ≡ waiter_in o
released_holder m None is = cc
released_holder m (Some held) is = rw (there m held.holder is) (passed_holder held.waiter)

released_waiter : (m : Member) (o : Option Held) → holder_in o ≡ Some m → waiter_in (option_and_then (released m) o) ≡ None
released_waiter m None is = refl
released_waiter m (Some held) is = rw (there m held.holder is) (passed_waiter held.waiter)

released_other : (m : Member) (o : Option Held) → holder_in o ≢ Some m → option_and_then (released m) o ≡ o
released_other m None differs = refl
released_other m (Some held) differs = rw (another m held.holder differs) refl

pub release_passes_on : (groups : Content) (m : Member) (name : List ℕ) → Ascends groups → ReleasePassesOn groups m name
release_passes_on groups m name sorted =
    let found = found_each (released m) name groups sorted in
    let was = value_at name groups in
    record {
      holder = λ is. ap holder_in found ∙ released_holder m was is;
      waiter = λ is. ap waiter_in found ∙ released_waiter m was is;
      others = λ differs. found ∙ released_other m was differs;
    }

withdrawn_holder : (m : Member) (o : Option Held) → holder_in (option_and_then (withdrawn m) o) ≡ holder_in o
withdrawn_holder m None = refl
withdrawn_holder m (Some held) = go (is_member m held.waiter)
  where
    go : (b : Bool) → holder_in (if b then Some (record { holder = held.holder; waiter = None }) else Some held) ≡ Some held.holder
    go true = refl
    go false = refl

withdrawn_waiter : (m : Member) (o : Option Held) → waiter_in o ≡ Some m → waiter_in (option_and_then (withdrawn m) o) ≡ None
withdrawn_waiter m None is = refl
withdrawn_waiter m (Some held) is = let itself : is_member m held.waiter ≡ true = ap (is_member m) is ∙ member_itself m in rw itself refl

pub no_member : (m : Member) (w : Option Member) → w ≢ Some m → is_member m w ≡ false
no_member m None differs = refl
no_member m (Some w) differs = another m w differs

withdrawn_other : (m : Member) (o : Option Held) → waiter_in o ≢ Some m → option_and_then (withdrawn m) o ≡ o
withdrawn_other m None differs = refl
withdrawn_other m (Some held) differs = rw (no_member m held.waiter differs) refl

pub withdraw_leaves_holder : (groups : Content) (m : Member) (name : List ℕ) → Ascends groups → WithdrawLeavesHolder groups m name
withdraw_leaves_holder groups m name sorted =
    let found = found_each (withdrawn m) name groups sorted in
    let was = value_at name groups in
    record {
      holder = ap holder_in found ∙ withdrawn_holder m was;
      waiter = λ is. ap waiter_in found ∙ withdrawn_waiter m was is;
      others = λ differs. found ∙ withdrawn_other m was differs;
    }
