-- A name that is put back: who was there before is there again.
use Rattle.std.proofs.Common.{◌≡◌, ◌≢◌, ℕ, Bool, true, false, List, [], ◌∷◌, map, if◌then◌else◌, cond, Option, Some, None, is_some, option_and_then, Ordering, Less, Equal, Greater, nat_cmp, is_eq, refl, sym, ap, subst, ◌∙◌}
use Rattle.std.specs.Cmp.Lexicographic.{slice_cmp}
use Rattle.std.specs.List.Sorted.{IsStrictlySortedBy}
use Rattle.flow_model.specs.Mapping.{keys_of, value_at, with_pair, Ascends}
use Rattle.flow_model.proofs.Lookups.{Ascends-with_pair, IsBelowKeys, below_more, found_other, found_same, name_itself, none_below, one_name, same_below, turned}
use Rattle.group_admission.proofs.Known.{either}
use Rattle.group_admission.specs.Cells.{Ascend, known_in}
use Rattle.group_admission.specs.Content.{Content, with_held}
use Rattle.group_admission.specs.Known.{Known, content, is_known, put_known}
use Rattle.group_admission.specs.declared.cell.Cell.{Cell}
use Rattle.group_admission.specs.declared.held.Held.{Held}

-- the names of cells are those that are known
names_known : (cells : List Cell) → map (λ (cell : Cell). cell.name) cells ≡ keys_of (known_in cells)
names_known [] = refl
names_known (x ∷ xs) = ap (λ (names : List (List ℕ)). x.name ∷ names) (names_known xs)

-- the names that are known ascend
pub Ascends-known_in : (cells : List Cell) → Ascend cells → Ascends (known_in cells)
Ascends-known_in cells sorted = subst (IsStrictlySortedBy (slice_cmp nat_cmp)) (names_known cells) sorted

-- ---- the names that are held, among those that are known

abbrev held_by : Option (Option Held) → Option Held
held_by o = option_and_then (λ held. held) o

found_content : (q : List ℕ) (known : Known) → Ascends known → value_at q (content known) ≡ held_by (value_at q known)
unfolding IsStrictlySortedBy
found_content q [] sorted = refl
found_content q (p ∷ ps) sorted = go (slice_cmp nat_cmp q p.0) refl p.1 (found_content q ps sorted.1)
  where
    go : (o : Ordering) → slice_cmp nat_cmp q p.0 ≡ o → (h : Option Held) → value_at q (content ps) ≡ held_by (value_at q ps)
        → value_at q (with_held p.0 h (content ps)) ≡ held_by (cond (is_eq o) (Some h) (value_at q ps))
    go Less is None ih = ih
    go Less is (Some held) ih = rw is ih
    go Equal is None ih = ih ∙ ap held_by (none_below q ps (same_below q p.0 ps is sorted.0))
    go Equal is (Some held) ih = rw is refl
    go Greater is None ih = ih
    go Greater is (Some held) ih = rw is ih

below_content : (first : List ℕ) (known : Known) → IsBelowKeys first known → IsBelowKeys first (content known)
below_content first [] h = tt
below_content first (p ∷ ps) h = go p.1 (below_content first ps h.1)
  where
    go : (o : Option Held) → IsBelowKeys first (content ps) → IsBelowKeys first (with_held p.0 o (content ps))
    go None ih = ih
    go (Some held) ih = (h.0, ih)

pub Ascends-content : (known : Known) → Ascends known → Ascends (content known)
unfolding IsStrictlySortedBy
Ascends-content [] sorted = tt
Ascends-content (p ∷ ps) sorted = go p.1 (Ascends-content ps sorted.1)
  where
    go : (o : Option Held) → Ascends (content ps) → Ascends (with_held p.0 o (content ps))
    go None ih = ih
    go (Some held) ih = (below_content p.0 ps sorted.0, ih)

-- a name that is held is known
pub held_is_known : (q : List ℕ) (known : Known) (held : Held) → value_at q (content known) ≡ Some held → is_known q known ≡ true
held_is_known q [] held is = none held is
  where
    none : (held : Held) → None ≡ Some held → false ≡ true
    none held e = cc
held_is_known q (p ∷ ps) held is = go (is_eq (slice_cmp nat_cmp q p.0)) refl p.1 is (held_is_known q ps held)
  where
    go : (b : Bool) → is_eq (slice_cmp nat_cmp q p.0) ≡ b → (h : Option Held) → value_at q (with_held p.0 h (content ps)) ≡ Some held
        → (value_at q (content ps) ≡ Some held → is_known q ps ≡ true) → is_some (cond b (Some p.1) (value_at q ps)) ≡ true
    go true at h is ih = refl
    go false at None is ih = ih is
    go false at (Some other) is ih = ih (rw at at is)

-- ---- names that are found with the same

itself : (k : List ℕ) (v : Held) (ps : Content) → value_at k ((k, v) ∷ ps) ≡ Some v
itself k v ps = rw (name_itself k) refl

none_some : {X : Type 0} (held : Held) → None ≡ Some held → X
none_some held e = absurd (cc)

same_some : (a b : Held) → Some a ≡ Some b → a ≡ b
same_some a b e = cc

-- Two lists of names in order, in which each name is found with the same, are one.
pub same_content : (a b : Content) → Ascends a → Ascends b → ((q : List ℕ) → value_at q a ≡ value_at q b) → a ≡ b
unfolding IsStrictlySortedBy
same_content [] [] up down same = refl
same_content [] (r ∷ rs) up down same = none_some r.1 (same r.0 ∙ itself r.0 r.1 rs)
same_content (p ∷ ps) [] up down same = none_some p.1 (sym (same p.0) ∙ itself p.0 p.1 ps)
same_content (p ∷ ps) (r ∷ rs) up down same = go (slice_cmp nat_cmp p.0 r.0) refl (λ tails_same. same_content ps rs up.1 down.1 tails_same)
  where
    tails : slice_cmp nat_cmp p.0 r.0 ≡ Equal → (q : List ℕ) → value_at q ps ≡ value_at q rs
    tails is q = by (slice_cmp nat_cmp q p.0) refl
      where
        moved : slice_cmp nat_cmp q r.0 ≡ slice_cmp nat_cmp q p.0
        moved = ap (slice_cmp nat_cmp q) (sym (one_name p.0 r.0 is))

        by : (o : Ordering) → slice_cmp nat_cmp q p.0 ≡ o → value_at q ps ≡ value_at q rs
        by Less at = rw (moved, at) at (same q)
        by Equal at = none_below q ps (same_below q p.0 ps at up.0) ∙ sym (none_below q rs (same_below q r.0 rs (moved ∙ at) down.0))
        by Greater at = rw (moved, at) at (same q)

    go : (o : Ordering) → slice_cmp nat_cmp p.0 r.0 ≡ o → (((q : List ℕ) → value_at q ps ≡ value_at q rs) → ps ≡ rs) → p ∷ ps ≡ r ∷ rs
    go Less is ih = none_some p.1 (sym (none_below p.0 (r ∷ rs) (is, below_more p.0 r.0 rs is down.0)) ∙ sym (same p.0) ∙ itself p.0 p.1 ps)
    go Equal is ih =
        let name : p.0 ≡ r.0 = one_name p.0 r.0 is in
        let found : value_at p.0 (r ∷ rs) ≡ Some r.1 = ap (λ (k : List ℕ). value_at k (r ∷ rs)) name ∙ itself r.0 r.1 rs in
        let held : p.1 ≡ r.1 = same_some p.1 r.1 (sym (itself p.0 p.1 ps) ∙ same p.0 ∙ found) in
        let more = ih (tails is) in
        (λ i. (name i, held i) ∷ more i)
    go Greater is ih =
        let less = turned p.0 r.0 is in
        none_some r.1 (sym (none_below r.0 (p ∷ ps) (less, below_more r.0 p.0 ps less up.0)) ∙ same r.0 ∙ itself r.0 r.1 rs)

-- Where a name is known, and others are found as before, it is put back with what it was found with.
pub all_put_back : (name : List ℕ) (held : Option Held) (known : Known) (before : Content) → Ascends known → is_known name known ≡ true → Ascends before → value_at name before ≡ held
    → ((q : List ℕ) → q ≢ name → value_at q (content known) ≡ value_at q before) → content (put_known name held known) ≡ before
all_put_back name held known before up is_there sorted was others =
    ap (λ (c : Bool). content (if c then with_pair name held known else known)) is_there
    ∙ same_content (content (with_pair name held known)) before (Ascends-content (with_pair name held known) up_with) sorted found
  where
    up_with : Ascends (with_pair name held known)
    up_with = Ascends-with_pair name held known up

    found : (q : List ℕ) → value_at q (content (with_pair name held known)) ≡ value_at q before
    found q = either q name (value_at q (content (with_pair name held known)) ≡ value_at q before)
        (λ same. found_content q (with_pair name held known) up_with ∙ ap held_by (ap (λ (k : List ℕ). value_at k (with_pair name held known)) same ∙ found_same name held known)
        ∙ sym was ∙ ap (λ (k : List ℕ). value_at k before) (sym same))
        (λ differs. found_content q (with_pair name held known) up_with ∙ ap held_by (found_other q name held known differs) ∙ sym (found_content q known up) ∙ others q differs)

-- what is known stays so
pub put_keeps : (name : List ℕ) (held : Option Held) (known : Known) (q : List ℕ) → is_known q known ≡ true → is_known q (put_known name held known) ≡ true
put_keeps name held known q h = by (is_known name known)
  where
    by : (c : Bool) → is_known q (if c then with_pair name held known else known) ≡ true
    by true = either q name (is_known q (with_pair name held known) ≡ true)
        (λ same. ap (λ (k : List ℕ). is_known k (with_pair name held known)) same ∙ ap (λ (o : Option (Option Held)). is_some o) (found_same name held known))
        (λ differs. ap (λ (o : Option (Option Held)). is_some o) (found_other q name held known differs) ∙ h)
    by false = h
