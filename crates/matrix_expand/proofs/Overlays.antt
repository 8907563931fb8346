-- Entries laid over an original leave its values.
use Rattle.std.proofs.Common.{◌≡◌, ◌∙◌, ℕ, Bool, true, false, not, ◌||◌, List, [], ◌∷◌, Option, Some, Ordering, Less, Equal, Greater, nat_cmp, is_eq, refl, ap, sym, cond, true≢false}
use Rattle.std.proofs.lemmas.Map.Text.{is_eq-slice_cmp}
use Rattle.std.proofs.lemmas.Slice.Eq.{bytes_eq-Decides}
use Rattle.std.specs.Ordering.{match_ordering}
use Rattle.std.specs.Cmp.Lexicographic.{slice_cmp}
use Rattle.flow_model.specs.Mapping.{value_at, with_pair}
use Rattle.flow_model.specs.Plain.{Plain}
use Rattle.matrix_expand.specs.Combos.{Pairs, is_other, contradicts, laid_over, overlaid}
use Rattle.matrix_expand.specs.Same.{is_same}
use Rattle.matrix_expand.proofs.SameValues.{same_equal}

pub same_key : (a b : List ℕ) → is_eq (slice_cmp nat_cmp a b) ≡ true → a ≡ b
same_key a b e = (bytes_eq-Decides a b).0 (sym (is_eq-slice_cmp a b) ∙ e)

-- not two keys at once
other_key : (k name key : List ℕ) → is_eq (slice_cmp nat_cmp k name) ≡ true → is_eq (slice_cmp nat_cmp k key) ≡ true → slice_cmp nat_cmp name key ≡ Greater → ⊥
other_key k name key e f g =
    let self : is_eq (slice_cmp nat_cmp k key) ≡ is_eq (slice_cmp nat_cmp name key) = ap (λ (x : List ℕ). is_eq (slice_cmp nat_cmp x key)) (same_key k name e) in
    true≢false (sym f ∙ self ∙ ap is_eq g)

cond_twice : (b : Bool) (x y : Plain) (z : Option Plain) → cond b (Some x) z ≡ cond b (Some x) (cond b (Some y) z)
cond_twice true x y z = refl
cond_twice false x y z = refl

greater_case : (k name key : List ℕ) (x : Plain) (y : Option Plain) (z : Option Plain) (a b : Bool) → is_eq (slice_cmp nat_cmp k name) ≡ a → is_eq (slice_cmp nat_cmp k key) ≡ b
    → slice_cmp nat_cmp name key ≡ Greater → cond b y (cond a (Some x) z) ≡ cond a (Some x) (cond b y z)
greater_case k name key x y z true true e f g = absurd (other_key k name key e f g)
greater_case k name key x y z true false e f g = refl
greater_case k name key x y z false true e f g = refl
greater_case k name key x y z false false e f g = refl

set_case : (k name : List ℕ) (x : Plain) (p : List ℕ × Plain) (c : Pairs) (o : Ordering) → slice_cmp nat_cmp name p.0 ≡ o
    → value_at k (with_pair name x c) ≡ cond (is_eq (slice_cmp nat_cmp k name)) (Some x) (value_at k c)
    → value_at k (match_ordering o ((name, x) ∷ p ∷ c) ((p.0, x) ∷ c) (p ∷ with_pair name x c)) ≡ cond (is_eq (slice_cmp nat_cmp k name)) (Some x) (value_at k (p ∷ c))
set_case k name x p c Less e h = refl
set_case k name x p c Equal e h =
    let same : name ≡ p.0 = same_key name p.0 (ap is_eq e) in
    rw same (cond_twice (is_eq (slice_cmp nat_cmp k p.0)) x p.1 (value_at k c))
set_case k name x p c Greater e h =
    ap (λ (r : Option Plain). cond (is_eq (slice_cmp nat_cmp k p.0)) (Some p.1) r) h
    ∙ greater_case k name p.0 x (Some p.1) (value_at k c) (is_eq (slice_cmp nat_cmp k name)) (is_eq (slice_cmp nat_cmp k p.0)) refl refl e

-- a value that was set, and the others
pub value_at-with_pair : (k name : List ℕ) (x : Plain) (c : Pairs) → value_at k (with_pair name x c) ≡ cond (is_eq (slice_cmp nat_cmp k name)) (Some x) (value_at k c)
value_at-with_pair k name x [] = refl
value_at-with_pair k name x (p ∷ c) = set_case k name x p c (slice_cmp nat_cmp name p.0) refl (value_at-with_pair k name x c)

-- neither of two
neither : (a b : Bool) → (a || b) ≡ false → (a ≡ false) × (b ≡ false)
neither true b e = absurd (cc)
neither false b e = (refl, e)

is_true : (b : Bool) → not b ≡ false → b ≡ true
is_true true e = refl
is_true false e = absurd (cc)

-- what an entry that contradicts nothing sets is what was there
set_again : (name k : List ℕ) (x y : Plain) (o z : Option Plain) (b : Bool) → is_eq (slice_cmp nat_cmp name k) ≡ b → o ≡ Some y → (b ≡ true → is_other x o ≡ false) → z ≡ Some y
    → cond b (Some x) z ≡ Some y
set_again name k x y o z true e f n h =
    let same : is_same x y ≡ true = is_true (is_same x y) (ap (λ (r : Option Plain). is_other x r) (sym f) ∙ n refl) in
    ap (λ (v : Plain). Some v) (same_equal x y same)
set_again name k x y o z false e f n h = h

laid_stays : (o e c : Pairs) → contradicts o e ≡ false → ((name : List ℕ) (x : Plain) → value_at name o ≡ Some x → value_at name c ≡ Some x)
    → (name : List ℕ) (x : Plain) → value_at name o ≡ Some x → value_at name (laid_over e c) ≡ Some x
laid_stays o [] c n s name x h = s name x h
laid_stays o (p ∷ e) c n s name x h =
    let parts = neither (is_other p.1 (value_at p.0 o)) (contradicts o e) n in
    laid_stays o e (with_pair p.0 p.1 c) parts.1
    (λ k y there. value_at-with_pair k p.0 p.1 c
    ∙ set_again k p.0 p.1 y (value_at k o) (value_at k c) (is_eq (slice_cmp nat_cmp k p.0)) refl there
    (λ same. ap (λ (q : List ℕ). is_other p.1 (value_at q o)) (same_key k p.0 same) ∙ parts.0) (s k y there)) name x h

step_stays : (o e c : Pairs) (b : Bool) → contradicts o e ≡ b → ((name : List ℕ) (x : Plain) → value_at name o ≡ Some x → value_at name c ≡ Some x)
    → (name : List ℕ) (x : Plain) → value_at name o ≡ Some x → value_at name (cond b c (laid_over e c)) ≡ Some x
step_stays o e c true k s = s
step_stays o e c false k s = laid_stays o e c k s

overlay_stays : (es : List Pairs) (o c : Pairs) → ((name : List ℕ) (x : Plain) → value_at name o ≡ Some x → value_at name c ≡ Some x)
    → (name : List ℕ) (x : Plain) → value_at name o ≡ Some x → value_at name (overlaid es o c) ≡ Some x
overlay_stays [] o c s = s
overlay_stays (e ∷ es) o c s = overlay_stays es o (cond (contradicts o e) c (laid_over e c)) (step_stays o e c (contradicts o e) refl s)

pub original_stays : (es : List Pairs) (o : Pairs) (name : List ℕ) (x : Plain) → value_at name o ≡ Some x → value_at name (overlaid es o o) ≡ Some x
original_stays es o = overlay_stays es o o (λ name x h. h)
