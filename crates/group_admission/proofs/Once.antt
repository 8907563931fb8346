-- In how many places a member stands, after the groups changed.
use Rattle.std.proofs.Common.{◌≡◌, ℕ, ◌+◌, ◌≤◌, Bool, true, false, ◌||◌, List, [], ◌∷◌, if◌then◌else◌, Option, Some, None, option_map, option_and_then, find, cond, Ordering, Less, Equal, Greater, nat_cmp, is_eq, refl, sym, ap, ◌∙◌, arith}
use Rattle.std.proofs.lemmas.Bool.{true≢false}
use Rattle.std.specs.Cmp.Lexicographic.{slice_cmp}
use Rattle.std.specs.List.{list_any}
use Rattle.std.specs.List.Sorted.{IsStrictlySortedBy}
use Rattle.std.specs.Ordering.{match_ordering}
use Rattle.flow_model.specs.Mapping.{value_at, with_pair, Ascends}
use Rattle.flow_model.specs.declared.event.Member.{Member}
use Rattle.flow_model.proofs.Lookups.{below_more, none_below}
use Rattle.group_admission.proofs.Members.{one_member, there}
use Rattle.group_admission.specs.Content.{Content, EachOnce, after_at, after_enter, each_held, holds, is_in_group, is_member, is_own, next_after, one, passed_on, places_of, released, same_member, stands_in, waits, with_held, withdrawn}
use Rattle.group_admission.specs.Laws.{OnceStays, WaiterIsTold}
use Rattle.group_admission.specs.declared.held.Held.{Held}

-- in how many places of one name a member stands
abbrev pub weight : Member → Held → ℕ
weight x held = one (same_member x held.holder) + one (is_member x held.waiter)

none_some : (old : Held) → None ≡ Some old → ⊥
none_some old e = cc

same_some : (a b : Held) → Some a ≡ Some b → a ≡ b
same_some a b e = cc

-- a name that nobody held adds its members
added : (x : Member) (k : List ℕ) (v : Held) (ps : Content) → value_at k ps ≡ None → places_of x (with_pair k v ps) ≡ weight x v + places_of x ps
added x k v [] none = omega arith
added x k v (p ∷ ps) none = go (slice_cmp nat_cmp k p.0) refl none (added x k v ps)
  where
    go : (o : Ordering) → slice_cmp nat_cmp k p.0 ≡ o → cond (is_eq o) (Some p.1) (value_at k ps) ≡ None
        → (value_at k ps ≡ None → places_of x (with_pair k v ps) ≡ weight x v + places_of x ps)
        → places_of x (match_ordering o ((k, v) ∷ p ∷ ps) ((p.0, v) ∷ ps) (p ∷ with_pair k v ps)) ≡ weight x v + places_of x (p ∷ ps)
    go Less is none ih = refl
    go Equal is none ih = absurd (none_some p.1 (sym none))
    go Greater is none ih = let e = ih none in omega (arith, e)

-- a name that was held has the new members in place of the old
replaced : (x : Member) (k : List ℕ) (v old : Held) (ps : Content) → Ascends ps → value_at k ps ≡ Some old → places_of x (with_pair k v ps) + weight x old ≡ weight x v + places_of x ps
unfolding IsStrictlySortedBy
replaced x k v old [] sorted is = absurd (none_some old is)
replaced x k v old (p ∷ ps) sorted is = go (slice_cmp nat_cmp k p.0) refl is (replaced x k v old ps sorted.1)
  where
    go : (o : Ordering) → slice_cmp nat_cmp k p.0 ≡ o → cond (is_eq o) (Some p.1) (value_at k ps) ≡ Some old
        → (value_at k ps ≡ Some old → places_of x (with_pair k v ps) + weight x old ≡ weight x v + places_of x ps)
        → places_of x (match_ordering o ((k, v) ∷ p ∷ ps) ((p.0, v) ∷ ps) (p ∷ with_pair k v ps)) + weight x old ≡ weight x v + places_of x (p ∷ ps)
    go Less order is ih = absurd (none_some old (sym (none_below k ps (below_more k p.0 ps order sorted.0)) ∙ is))
    go Equal order is ih = let e : weight x p.1 ≡ weight x old = ap (weight x) (same_some p.1 old is) in omega (arith, e)
    go Greater order is ih = let e = ih is in omega (arith, e)

-- who stands in no group stands in no place
nowhere : (m : Member) (groups : Content) → is_in_group m groups ≡ false → places_of m groups ≡ 0
nowhere m [] h = refl
nowhere m (p ∷ ps) h = go (holds m p) (waits m p) h (nowhere m ps)
  where
    go : (a b : Bool) → ((a || b) || list_any (stands_in m) ps) ≡ false → (list_any (stands_in m) ps ≡ false → places_of m ps ≡ 0) → (one a + one b) + places_of m ps ≡ 0
    go true b h ih = absurd (true≢false h)
    go false true h ih = absurd (true≢false h)
    go false false h ih = let e = ih h in omega (arith, e)

module _ (m : Member) (groups : Content) (once : EachOnce groups) (free : is_in_group m groups ≡ false) where
  -- another than m stands where it stood; m stood nowhere
  room : (x : Member) → (b : Bool) → same_member x m ≡ b → one b + places_of x groups ≤ 1
  room x true is = let e : places_of x groups ≡ 0 = ap (λ (y : Member). places_of y groups) (one_member x m is) ∙ nowhere m groups free in omega (arith, e)
  room x false is = let e = once x in omega (arith, e)

  -- no member stands in two places after one that stood nowhere came to hold a name
  pub once_first : (k : List ℕ) → value_at k groups ≡ None → EachOnce (with_pair k (record { holder = m; waiter = None }) groups)
  once_first k is = λ x.
      let e = added x k (record { holder = m; waiter = None }) groups is in
      let r = room x (same_member x m) refl in
      omega (arith, e, r)

  -- no member stands in two places after one that stood nowhere came to wait for a name
  pub once_further : (k : List ℕ) (held : Held) → Ascends groups → value_at k groups ≡ Some held → EachOnce (with_pair k (record { holder = held.holder; waiter = Some m }) groups)
  once_further k held sorted is = λ x.
      let e = replaced x k (record { holder = held.holder; waiter = Some m }) held groups sorted is in
      let r = room x (same_member x m) refl in
      omega (arith, e, r)

  once_at : (k : List ℕ) (own : Option ℕ) → Ascends groups → (o : Option Held) → value_at k groups ≡ o → EachOnce (after_at k m own o groups)
  once_at k own sorted None is = once_first k is
  once_at k own sorted (Some held) is = either (is_own own held.holder)
    where
      either : (own_run : Bool) → EachOnce (if own_run then groups else with_pair k (record { holder = held.holder; waiter = Some m }) groups)
      either true = once
      either false = once_further k held sorted is

  once_entered : (name : List ℕ) (own : Option ℕ) → Ascends groups → EachOnce (after_enter name m own groups)
  once_entered [] own sorted = once
  once_entered (c ∷ name) own sorted = once_at (c ∷ name) own sorted (value_at (c ∷ name) groups) refl

-- in how many places of a name, if somebody holds it, a member stands
abbrev pub weight_of : Member → Option Held → ℕ
weight_of x None = 0
weight_of x (Some held) = weight x held

-- what is left of each name has no more places
pub fewer : (x : Member) (f : Held → Option Held) → ((held : Held) → weight_of x (f held) ≤ weight x held) → (groups : Content) → places_of x (each_held f groups) ≤ places_of x groups
fewer x f less [] = omega arith
fewer x f less (p ∷ ps) = go (f p.1) (less p.1) (fewer x f less ps)
  where
    go : (o : Option Held) → weight_of x o ≤ weight x p.1 → places_of x (each_held f ps) ≤ places_of x ps → places_of x (with_held p.0 o (each_held f ps)) ≤ weight x p.1 + places_of x ps
    go None h ih = omega (arith, ih)
    go (Some held) h ih = omega (arith, h, ih)

-- a release adds no place
pub released_fewer : (x m : Member) (held : Held) → weight_of x (released m held) ≤ weight x held
released_fewer x m held = go (same_member m held.holder)
  where
    passed : (a : ℕ) (w : Option Member) → weight_of x (passed_on w) ≤ a + one (is_member x w)
    passed a None = omega arith
    passed a (Some w) = omega arith

    go : (b : Bool) → weight_of x (if b then passed_on held.waiter else Some held) ≤ weight x held
    go true = passed (one (same_member x held.holder)) held.waiter
    go false = omega arith

-- leaving a wait adds no place
pub withdrawn_fewer : (x m : Member) (held : Held) → weight_of x (withdrawn m held) ≤ weight x held
withdrawn_fewer x m held = go (is_member m held.waiter)
  where
    go : (b : Bool) → weight_of x (if b then Some (record { holder = held.holder; waiter = None }) else Some held) ≤ weight x held
    go true = omega arith
    go false = omega arith

pub once_stays : OnceStays
once_stays groups m sorted once = record {
  entered = λ name own free. once_entered m groups once free name own sorted;
  released = λ x. let a = fewer x (released m) (released_fewer x m) groups in let b = once x in omega (arith, a, b);
  withdrawn = λ x. let a = fewer x (withdrawn m) (withdrawn_fewer x m) groups in let b = once x in omega (arith, a, b);
}

-- a name's members have their places
pub has_places : (x : Member) (k : List ℕ) (held : Held) (ps : Content) → value_at k ps ≡ Some held → weight x held ≤ places_of x ps
has_places x k held [] is = absurd (none_some held is)
has_places x k held (p ∷ ps) is = go (is_eq (slice_cmp nat_cmp k p.0)) is (has_places x k held ps)
  where
    go : (b : Bool) → cond b (Some p.1) (value_at k ps) ≡ Some held → (value_at k ps ≡ Some held → weight x held ≤ places_of x ps) → weight x held ≤ weight x p.1 + places_of x ps
    go true is ih = let e : weight x p.1 ≡ weight x held = ap (weight x) (same_some p.1 held is) in omega (arith, e)
    go false is ih = let e = ih is in omega (arith, e)

told : (k : List ℕ) (m : Member) (held : Held) (ps : Content) → same_member m held.holder ≡ true → places_of m ps ≤ 1 → value_at k ps ≡ Some held → next_after m ps ≡ held.waiter
told k m held [] holder once is = absurd (none_some held is)
told k m held (p ∷ ps) holder once is = go (is_eq (slice_cmp nat_cmp k p.0)) (same_member m p.1.holder) refl is once (told k m held ps holder)
  where
    go : (b c : Bool) → same_member m p.1.holder ≡ c → cond b (Some p.1) (value_at k ps) ≡ Some held → (one c + one (is_member m p.1.waiter)) + places_of m ps ≤ 1
        → (places_of m ps ≤ 1 → value_at k ps ≡ Some held → next_after m ps ≡ held.waiter)
        → option_and_then (λ (pair : List ℕ × Held). pair.1.waiter) (if c then Some p else find (holds m) ps) ≡ held.waiter
    go true true at is once ih = ap (λ (h : Held). h.waiter) (same_some p.1 held is)
    go true false at is once ih =
        absurd (true≢false (sym holder ∙ sym (ap (λ (h : Held). same_member m h.holder) (same_some p.1 held is)) ∙ at))
    go false true at is once ih =
        let e = has_places m k held ps is in let h : one (same_member m held.holder) ≡ 1 = ap one holder in absurd (omega (arith, e, h, once))
    go false false at is once ih = ih (omega (arith, once)) is

pub waiter_is_told : WaiterIsTold
waiter_is_told groups m name once is = go (value_at name groups) refl is
  where
    go : (o : Option Held) → value_at name groups ≡ o → option_map (λ (held : Held). held.holder) o ≡ Some m → next_after m groups ≡ option_and_then (λ (held : Held). held.waiter) o
    go None at is = cc
    go (Some held) at is = told name m held groups (there m held.holder is) (once m) at
