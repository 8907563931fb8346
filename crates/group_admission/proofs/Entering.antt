-- What entering a name leaves.
use Rattle.std.proofs.Common.{◌≡◌, ℕ, Bool, true, false, List, [], ◌∷◌, Option, Some, None, option_map, option_and_then, if◌then◌else◌, refl, ap, ◌∙◌}
use Rattle.flow_model.specs.Mapping.{value_at, with_pair, Ascends}
use Rattle.flow_model.specs.declared.event.Member.{Member}
use Rattle.flow_model.proofs.Lookups.{found_same, found_other, Ascends-with_pair}
use Rattle.group_admission.specs.Content.{Content, after_at, after_enter, answer_at, is_own, stopped_by}
use Rattle.group_admission.specs.Laws.{Becomes, FirstHolds, NextDisplaces, OwnRunChangesNothing}
use Rattle.group_admission.specs.declared.entered.Entered.TheVariants as answer
use Rattle.group_admission.specs.declared.held.Held.{Held}

-- a name that was set has this holder and this waiter
set_becomes : (name : List ℕ) (held : Held) (groups : Content) → Becomes name groups (with_pair name held groups) (Some held.holder) held.waiter
set_becomes name held groups = record {
  holder = ap (option_map (λ (h : Held). h.holder)) (found_same name held groups);
  waiter = ap (option_and_then (λ (h : Held). h.waiter)) (found_same name held groups);
  others = λ q differs. found_other q name held groups differs;
}

pub first_holds : FirstHolds
first_holds [] m own cancel groups named free = absurd (named refl)
first_holds (c ∷ name) m own cancel groups named free = go (value_at (c ∷ name) groups) free
  where
    go : (o : Option Held) → option_map (λ (h : Held). h.holder) o ≡ None
        → (answer_at own cancel o ≡ answer.Admitted) × Becomes (c ∷ name) groups (after_at (c ∷ name) m own o groups) (Some m) None
    go None free = (refl, set_becomes (c ∷ name) (record { holder = m; waiter = None }) groups)
    go (Some held) free = cc

same_some : (a b : Member) → Some a ≡ Some b → a ≡ b
same_some a b e = cc

pub next_displaces : NextDisplaces
next_displaces [] m h own cancel groups named is not_own = absurd (named refl)
next_displaces (c ∷ name) m h own cancel groups named is not_own = go (value_at (c ∷ name) groups) is
  where
    go : (o : Option Held) → option_map (λ (held : Held). held.holder) o ≡ Some h
        → (answer_at own cancel o ≡ answer.Waiting (option_and_then (λ (held : Held). held.waiter) o) (stopped_by cancel h))
        × Becomes (c ∷ name) groups (after_at (c ∷ name) m own o groups) (Some h) (Some m)
    go None is = cc
    go (Some held) is =
        let same : held.holder ≡ h = same_some held.holder h is in
        let other : is_own own held.holder ≡ false = ap (is_own own) same ∙ not_own in
        let new = set_becomes (c ∷ name) (record { holder = held.holder; waiter = Some m }) groups in (
          rw other (ap (λ (x : Member). answer.Waiting held.waiter (stopped_by cancel x)) same),
          rw other (record { holder = new.holder ∙ is; waiter = new.waiter; others = new.others }),
        )

pub own_run_changes_nothing : OwnRunChangesNothing
own_run_changes_nothing [] m h own cancel groups named is own_run = absurd (named refl)
own_run_changes_nothing (c ∷ name) m h own cancel groups named is own_run = go (value_at (c ∷ name) groups) is
  where
    go : (o : Option Held) → option_map (λ (held : Held). held.holder) o ≡ Some h
        → (answer_at own cancel o ≡ answer.OwnRun) × (after_at (c ∷ name) m own o groups ≡ groups)
    go None is = cc
    go (Some held) is =
        let itself : is_own own held.holder ≡ true = ap (is_own own) (same_some held.holder h is) ∙ own_run in
        (rw itself refl, rw itself refl)

pub Ascends-after_enter : (name : List ℕ) (m : Member) (own : Option ℕ) (groups : Content) → Ascends groups → Ascends (after_enter name m own groups)
Ascends-after_enter [] m own groups sorted = sorted
Ascends-after_enter (c ∷ name) m own groups sorted = go (value_at (c ∷ name) groups)
  where
    either : (own_run : Bool) (held : Held) → Ascends (if own_run then groups else with_pair (c ∷ name) (record { holder = held.holder; waiter = Some m }) groups)
    either true held = sorted
    either false held = Ascends-with_pair (c ∷ name) (record { holder = held.holder; waiter = Some m }) groups sorted

    go : (o : Option Held) → Ascends (after_at (c ∷ name) m own o groups)
    go None = Ascends-with_pair (c ∷ name) (record { holder = m; waiter = None }) groups sorted
    go (Some held) = either (is_own own held.holder) held
