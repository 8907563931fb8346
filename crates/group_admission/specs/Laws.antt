-- Laws of the definitions, each the contract of a function of the module `laws`.
use Rattle.std.specs.Prelude.{◌≡◌, ◌≢◌, ℕ, Bool, true, false, List, [], Option, Some, None, IsSome}
use Rattle.expr_reader.specs.Fold.{fold, SameText}
use Rattle.flow_model.specs.Mapping.{value_at, Ascends}
use Rattle.flow_model.specs.declared.event.Member.{Member}
use Rattle.group_admission.specs.Content.{Content, EachOnce, after_enter, after_release, after_withdraw, answer_to, holder_of, is_in_group, is_own, next_after, stopped_by, waiter_of}
use Rattle.group_admission.specs.declared.entered.Entered.TheVariants as answer

-- A name has a waiter only where it has a holder.
abbrev pub WaitersHaveHolders : Type 0
WaitersHaveHolders =
    (name : List ℕ) (waiter : Member) (groups : Content)
    → waiter_of name groups ≡ Some waiter → IsSome (holder_of name groups)

-- Names that are the same ignoring case are one group.
abbrev pub CaseIsIgnored : Type 0
CaseIsIgnored =
    (a b : List ℕ) (m : Member) (own : Option ℕ) (groups : Content) → SameText a b
    → after_enter (fold a) m own groups ≡ after_enter (fold b) m own groups

-- A name is left with this holder and this waiter, and no other name changes.
pub record Becomes (name : List ℕ) (groups after : Content) (h w : Option Member) : Type 0 where
  pub holder : holder_of name after ≡ h
  pub waiter : waiter_of name after ≡ w
  pub others : (q : List ℕ) → q ≢ name → value_at q after ≡ value_at q groups

-- The first to enter a name holds it.
abbrev pub FirstHolds : Type 0
FirstHolds =
    (name : List ℕ) (m : Member) (own : Option ℕ) (cancel : Bool) (groups : Content)
    → name ≢ [] → holder_of name groups ≡ None
    → (answer_to name own cancel groups ≡ answer.Admitted)
    × Becomes name groups (after_enter name m own groups) (Some m) None

-- One that enters a name that is held takes the waiter's place, and the holder stays.
abbrev pub NextDisplaces : Type 0
NextDisplaces =
    (name : List ℕ) (m h : Member) (own : Option ℕ) (cancel : Bool) (groups : Content)
    → name ≢ [] → holder_of name groups ≡ Some h → is_own own h ≡ false
    → (answer_to name own cancel groups
    ≡ answer.Waiting (waiter_of name groups) (stopped_by cancel h))
    × Becomes name groups (after_enter name m own groups) (Some h) (Some m)

-- A leg whose own run holds the name changes nothing.
abbrev pub OwnRunChangesNothing : Type 0
OwnRunChangesNothing =
    (name : List ℕ) (m h : Member) (own : Option ℕ) (cancel : Bool) (groups : Content)
    → name ≢ [] → holder_of name groups ≡ Some h → is_own own h ≡ true
    → (answer_to name own cancel groups ≡ answer.OwnRun) × (after_enter name m own groups ≡ groups)

-- After its holder released it the waiter holds a name, and nobody waits; a name that the member
-- doesn't hold stays.
pub record ReleasePassesOn (groups : Content) (m : Member) (name : List ℕ) : Type 0 where
  pub holder : holder_of name groups ≡ Some m
      → holder_of name (after_release m groups) ≡ waiter_of name groups
  pub waiter : holder_of name groups ≡ Some m → waiter_of name (after_release m groups) ≡ None
  pub others : holder_of name groups ≢ Some m
      → value_at name (after_release m groups) ≡ value_at name groups

-- That is so of each name.
abbrev pub ReleasesPassOn : Type 0
ReleasesPassOn =
    (groups : Content) (m : Member) (name : List ℕ) → Ascends groups → ReleasePassesOn groups m name

-- After its waiter left the wait nobody waits for a name, and its holder stays; a name that the
-- member doesn't wait for stays.
pub record WithdrawLeavesHolder (groups : Content) (m : Member) (name : List ℕ) : Type 0 where
  pub holder : holder_of name (after_withdraw m groups) ≡ holder_of name groups
  pub waiter : waiter_of name groups ≡ Some m → waiter_of name (after_withdraw m groups) ≡ None
  pub others : waiter_of name groups ≢ Some m
      → value_at name (after_withdraw m groups) ≡ value_at name groups

-- That is so of each name.
abbrev pub WithdrawsLeaveHolders : Type 0
WithdrawsLeaveHolders =
    (groups : Content) (m : Member) (name : List ℕ) → Ascends groups → WithdrawLeavesHolder groups m name

-- The names stay in their order.
pub record IsOrderKept (groups : Content) (m : Member) : Type 0 where
  pub entered : (name : List ℕ) (own : Option ℕ) → Ascends (after_enter name m own groups)
  pub released : Ascends (after_release m groups)
  pub withdrawn : Ascends (after_withdraw m groups)

-- That is so whatever happens to a member.
abbrev pub OrderStays : Type 0
OrderStays = (groups : Content) (m : Member) → Ascends groups → IsOrderKept groups m

-- No member stands in two places after one that stood nowhere entered, and after one left.
pub record IsOnceKept (groups : Content) (m : Member) : Type 0 where
  pub entered : (name : List ℕ) (own : Option ℕ)
      → is_in_group m groups ≡ false → EachOnce (after_enter name m own groups)
  pub released : EachOnce (after_release m groups)
  pub withdrawn : EachOnce (after_withdraw m groups)

-- That is so whatever happens to a member.
abbrev pub OnceStays : Type 0
OnceStays = (groups : Content) (m : Member) → Ascends groups → EachOnce groups → IsOnceKept groups m

-- The member that is told at a release is the waiter of the name that was held.
abbrev pub WaiterIsTold : Type 0
WaiterIsTold =
    (groups : Content) (m : Member) (name : List ℕ)
    → EachOnce groups → holder_of name groups ≡ Some m → next_after m groups ≡ waiter_of name groups

-- A member that holds no name and waits for none is in no group.
abbrev pub NowhereIsNoGroup : Type 0
NowhereIsNoGroup =
    (groups : Content) (m : Member) → Ascends groups
    → ((name : List ℕ) → holder_of name groups ≢ Some m)
    → ((name : List ℕ) → waiter_of name groups ≢ Some m) → is_in_group m groups ≡ false
