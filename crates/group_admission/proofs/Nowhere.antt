-- A member that stands nowhere.
use Rattle.std.proofs.Common.{◌≡◌, ◌≢◌, ℕ, Bool, true, false, ◌||◌, List, [], ◌∷◌, Option, Some, None, option_map, option_and_then, cond, Ordering, Less, Equal, Greater, nat_cmp, is_eq, refl, sym, ap, ◌∙◌}
use Rattle.std.specs.Cmp.Lexicographic.{slice_cmp}
use Rattle.std.specs.List.{list_any}
use Rattle.std.specs.List.Sorted.{IsStrictlySortedBy}
use Rattle.flow_model.specs.Mapping.{value_at, Ascends}
use Rattle.flow_model.specs.declared.event.Member.{Member}
use Rattle.flow_model.proofs.Lookups.{name_itself, none_below, same_below}
use Rattle.group_admission.proofs.Members.{one_member}
use Rattle.group_admission.specs.Content.{Content, after_release, after_withdraw, each_held, holder_of, holds, is_member, released, waiter_of, waits, with_held, withdrawn}
use Rattle.group_admission.specs.Laws.{NowhereIsNoGroup}
use Rattle.group_admission.specs.declared.held.Held.{Held}

none_some : (m : Member) → None ≡ Some m → ⊥
none_some m e = cc

-- what is told of a name by the names behind the first is told by all
behind : (tell : Held → Option Member) (m : Member) (p : List ℕ × Held) (ps : Content) → Ascends (p ∷ ps) → (q : List ℕ)
    → option_and_then tell (value_at q ps) ≡ Some m → option_and_then tell (value_at q (p ∷ ps)) ≡ Some m
unfolding IsStrictlySortedBy
behind tell m p ps sorted q is = go (slice_cmp nat_cmp q p.0) refl
  where
    go : (o : Ordering) → slice_cmp nat_cmp q p.0 ≡ o → option_and_then tell (cond (is_eq o) (Some p.1) (value_at q ps)) ≡ Some m
    go Less order = is
    go Equal order = absurd (none_some m (sym (ap (option_and_then tell) (none_below q ps (same_below q p.0 ps order sorted.0))) ∙ is))
    go Greater order = is

-- what the first tells is told of its name
ahead : (tell : Held → Option Member) (m : Member) (p : List ℕ × Held) (ps : Content) → tell p.1 ≡ Some m → option_and_then tell (value_at p.0 (p ∷ ps)) ≡ Some m
ahead tell m p ps is = rw (name_itself p.0) is

-- a test that holds nowhere of what is told
nowhere : (tell : Held → Option Member) (m : Member) (test : List ℕ × Held → Bool) → ((p : List ℕ × Held) → test p ≡ true → tell p.1 ≡ Some m)
    → (groups : Content) → Ascends groups → ((q : List ℕ) → option_and_then tell (value_at q groups) ≢ Some m) → list_any test groups ≡ false
unfolding IsStrictlySortedBy
nowhere tell m test means [] sorted none = refl
nowhere tell m test means (p ∷ ps) sorted none = go (test p) refl (nowhere tell m test means ps sorted.1 (λ q is. none q (behind tell m p ps sorted q is)))
  where
    go : (b : Bool) → test p ≡ b → list_any test ps ≡ false → (b || list_any test ps) ≡ false
    go true is ih = absurd (none p.0 (ahead tell m p ps (means p is)))
    go false is ih = ih

is_there : (m : Member) (w : Option Member) → is_member m w ≡ true → w ≡ Some m
is_there m None is = cc
is_there m (Some w) is = ap (λ (x : Member). Some x) (sym (one_member m w is))

-- neither of two tests holds of any
neither : (a b : List ℕ × Held → Bool) (groups : Content) → list_any a groups ≡ false → list_any b groups ≡ false → list_any (λ p. a p || b p) groups ≡ false
neither a b [] x y = refl
neither a b (p ∷ ps) x y = go (a p) (b p) x y (neither a b ps)
  where
    go : (c d : Bool) → (c || list_any a ps) ≡ false → (d || list_any b ps) ≡ false
        → (list_any a ps ≡ false → list_any b ps ≡ false → list_any (λ p. a p || b p) ps ≡ false) → ((c || d) || list_any (λ p. a p || b p) ps) ≡ false
    go true d x y ih = cc
    go false true x y ih = cc
    go false false x y ih = ih x y

as_map : (o : Option Held) → option_and_then (λ (held : Held). Some held.holder) o ≡ option_map (λ (held : Held). held.holder) o
as_map None = refl
as_map (Some held) = refl

pub nowhere_is_no_group : NowhereIsNoGroup
nowhere_is_no_group groups m sorted holder waiter = neither (holds m) (waits m) groups
    (nowhere (λ held. Some held.holder) m (holds m) (λ p is. ap (λ (x : Member). Some x) (sym (one_member m p.1.holder is))) groups sorted (λ q is. holder q (sym (as_map (value_at q groups)) ∙ is)))
    (nowhere (λ held. held.waiter) m (waits m) (λ p is. is_there m p.1.waiter is) groups sorted waiter)

-- each name is as it was where a change leaves each
each_left : (f : Held → Option Held) (test : List ℕ × Held → Bool) → ((p : List ℕ × Held) → test p ≡ false → f p.1 ≡ Some p.1)
    → (groups : Content) → list_any test groups ≡ false → each_held f groups ≡ groups
each_left f test leaves [] none = refl
each_left f test leaves (p ∷ ps) none = go (test p) refl none (each_left f test leaves ps)
  where
    go : (b : Bool) → test p ≡ b → (b || list_any test ps) ≡ false → (list_any test ps ≡ false → each_held f ps ≡ ps) → with_held p.0 (f p.1) (each_held f ps) ≡ p ∷ ps
    go true is none ih = cc
    go false is none ih = ap (λ (o : Option Held). with_held p.0 o (each_held f ps)) (leaves p is) ∙ ap (λ (rest : Content). p ∷ rest) (ih none)

-- who holds nothing releases nothing
pub nothing_released : (groups : Content) (m : Member) → Ascends groups → ((q : List ℕ) → holder_of q groups ≢ Some m) → after_release m groups ≡ groups
nothing_released groups m sorted holder = each_left (released m) (holds m) (λ p is. rw is refl) groups
    (nowhere (λ held. Some held.holder) m (holds m) (λ p is. ap (λ (x : Member). Some x) (sym (one_member m p.1.holder is))) groups sorted (λ q is. holder q (sym (as_map (value_at q groups)) ∙ is)))

-- and who waits for nothing leaves no wait
pub nothing_withdrawn : (groups : Content) (m : Member) → Ascends groups → ((q : List ℕ) → waiter_of q groups ≢ Some m) → after_withdraw m groups ≡ groups
nothing_withdrawn groups m sorted waiter = each_left (withdrawn m) (waits m) (λ p is. rw is refl) groups
    (nowhere (λ held. held.waiter) m (waits m) (λ p is. is_there m p.1.waiter is) groups sorted waiter)
