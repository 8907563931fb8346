-- The values of a matrix nest no deeper than they may, and so do those of its combinations.
use Rattle.std.proofs.Common.{◌≡◌, ◌≤◌, ◌&&◌, ℕ, suc, Bool, true, false, IsTrue, not, decimal, cond, List, [], ◌∷◌, ◌++◌, map, length, Option, Some, None, Ordering, Less, Equal, Greater, nat_cmp, refl, arith}
use Rattle.std.specs.List.{list_all, filter, flat_map}
use Rattle.std.specs.Cmp.Lexicographic.{slice_cmp}
use Rattle.std.specs.Ordering.{match_ordering}
use Rattle.flow_model.specs.Found.{rule, under, each, each_pair}
use Rattle.flow_model.specs.Flow.{is_matrix_key, is_matrix_variable, is_matrix_entry, is_flow_matrix}
use Rattle.flow_model.specs.Mapping.{with_pair}
use Rattle.flow_model.specs.Plain.{Plain}
use Rattle.flow_model.specs.Rules.{all_there, is_within, is_property, leg_rules}
use Rattle.flow_model.specs.declared.plan.Matrix.{Matrix}
use Rattle.flow_model.proofs.FoundNothing.{none_or_else, none_under, none_rule}
use Rattle.flow_model.proofs.Tests.{both, pair}
use Rattle.matrix_expand.specs.Combos.{Pairs, Variables, product, is_original, originals, contradicts, laid_over, overlaid, stands_alone, combos}
use Rattle.plan_assembler.specs.Plans.{legs_of, HasLegs}

-- ---- what holds of each item

all_append : {X : Type 0} (test : X → Bool) (xs ys : List X) → IsTrue (list_all test xs) → IsTrue (list_all test ys) → IsTrue (list_all test (xs ++ ys))
all_append test [] ys h k = k
all_append test (x ∷ xs) ys h k =
    let a = both (test x) (list_all test xs) h in
    pair (test x) (list_all test (xs ++ ys)) a.0 (all_append test xs ys a.1 k)

all_cond : {X : Type 0} (test : X → Bool) (x : X) (xs : List X) (b : Bool) → IsTrue (test x) → IsTrue (list_all test xs) → IsTrue (list_all test (cond b (x ∷ xs) xs))
all_cond test x xs true h k = pair (test x) (list_all test xs) h k
all_cond test x xs false h k = k

all_filter : {X : Type 0} (test keep : X → Bool) (xs : List X) → IsTrue (list_all test xs) → IsTrue (list_all test (filter keep xs))
all_filter test keep [] h = refl
all_filter test keep (x ∷ xs) h =
    let a = both (test x) (list_all test xs) h in
    all_cond test x (filter keep xs) (keep x) a.0 (all_filter test keep xs a.1)

all_map : {X : Type 0} (test : X → Bool) (f : X → X) → ((x : X) → IsTrue (test x) → IsTrue (test (f x))) → (xs : List X) → IsTrue (list_all test xs) → IsTrue (list_all test (map f xs))
all_map test f t [] h = refl
all_map test f t (x ∷ xs) h =
    let a = both (test x) (list_all test xs) h in
    pair (test (f x)) (list_all test (map f xs)) (t x a.0) (all_map test f t xs a.1)

-- ---- choices

choices : (name : List ℕ) (xs : List Plain) (cs : List Pairs) → IsTrue (list_all (is_within 100) xs) → IsTrue (list_all is_matrix_entry cs)
    → IsTrue (list_all is_matrix_entry (flat_map (λ x. map (λ c. (name, x) ∷ c) cs) xs))
choices name [] cs h k = refl
choices name (x ∷ xs) cs h k =
    let a = both (is_within 100 x) (list_all (is_within 100) xs) h in
    all_append is_matrix_entry (map (λ c. (name, x) ∷ c) cs) (flat_map (λ y. map (λ c. (name, y) ∷ c) cs) xs)
    (all_map is_matrix_entry (λ c. (name, x) ∷ c) (λ c w. pair (is_within 100 x) (is_matrix_entry c) a.0 w) cs k)
    (choices name xs cs a.1 k)

products : (vs : Variables) → IsTrue (list_all is_matrix_variable vs) → IsTrue (list_all is_matrix_entry (product vs))
products [] h = refl
products (v ∷ vs) h =
    let a = both (is_matrix_variable v) (list_all is_matrix_variable vs) h in
    let b = both (not (is_matrix_key v.0)) (list_all (is_within 100) v.1) a.0 in
    choices v.0 v.1 (product vs) b.1 (products vs a.1)

-- ---- includes

set_case : (key : List ℕ) (v : Plain) (p : List ℕ × Plain) (c : Pairs) (o : Ordering) → IsTrue (is_within 100 v) → IsTrue (is_property p) → IsTrue (is_matrix_entry c) → IsTrue (is_matrix_entry (with_pair key v c))
    → IsTrue (is_matrix_entry (match_ordering o ((key, v) ∷ p ∷ c) ((p.0, v) ∷ c) (p ∷ with_pair key v c)))
set_case key v p c Less h e k m = pair (is_within 100 v) (is_matrix_entry (p ∷ c)) h (pair (is_property p) (is_matrix_entry c) e k)
set_case key v p c Equal h e k m = pair (is_within 100 v) (is_matrix_entry c) h k
set_case key v p c Greater h e k m = pair (is_property p) (is_matrix_entry (with_pair key v c)) e m

set_value : (key : List ℕ) (v : Plain) (c : Pairs) → IsTrue (is_within 100 v) → IsTrue (is_matrix_entry c) → IsTrue (is_matrix_entry (with_pair key v c))
set_value key v [] h k = pair (is_within 100 v) true h refl
set_value key v (p ∷ c) h k =
    let a = both (is_property p) (is_matrix_entry c) k in
    set_case key v p c (slice_cmp nat_cmp key p.0) h a.0 a.1 (set_value key v c h a.1)

laid : (e c : Pairs) → IsTrue (is_matrix_entry e) → IsTrue (is_matrix_entry c) → IsTrue (is_matrix_entry (laid_over e c))
laid [] c h k = k
laid (p ∷ e) c h k =
    let a = both (is_property p) (is_matrix_entry e) h in
    laid e (with_pair p.0 p.1 c) a.1 (set_value p.0 p.1 c a.0 k)

one_of : (c d : Pairs) (b : Bool) → IsTrue (is_matrix_entry c) → IsTrue (is_matrix_entry d) → IsTrue (is_matrix_entry (cond b c d))
one_of c d true h k = h
one_of c d false h k = k

overlays : (es : List Pairs) (o c : Pairs) → IsTrue (list_all is_matrix_entry es) → IsTrue (is_matrix_entry c) → IsTrue (is_matrix_entry (overlaid es o c))
overlays [] o c h k = k
overlays (e ∷ es) o c h k =
    let a = both (is_matrix_entry e) (list_all is_matrix_entry es) h in
    overlays es o (cond (contradicts o e) c (laid_over e c)) a.1 (one_of c (laid_over e c) (contradicts o e) k (laid e c a.0 k))

-- ---- combinations

combos_kept : (m : Matrix) → IsTrue (is_flow_matrix m) → IsTrue (list_all is_matrix_entry (combos m))
combos_kept m h =
    let a = both (list_all is_matrix_variable m.variables) (list_all is_matrix_entry m.exclude && list_all is_matrix_entry m.include) h in
    let b = both (list_all is_matrix_entry m.exclude) (list_all is_matrix_entry m.include) a.1 in
    all_append is_matrix_entry (map (λ o. overlaid m.include o o) (originals m)) (filter (stands_alone (originals m)) m.include)
    (all_map is_matrix_entry (λ o. overlaid m.include o o) (λ o k. overlays m.include o o b.1 k) (originals m)
    (all_filter is_matrix_entry (is_original m.exclude) (product m.variables) (products m.variables a.0)))
    (all_filter is_matrix_entry (stands_alone (originals m)) m.include b.1)

legs_kept : (o : Option Matrix) → IsTrue (all_there is_flow_matrix o) → IsTrue (list_all is_matrix_entry (legs_of o))
legs_kept None h = refl
legs_kept (Some m) h = combos_kept m h

leg_kept : (c : Pairs) → IsTrue (is_matrix_entry c) → leg_rules c ≡ None
leg_kept [] h = refl
leg_kept (p ∷ c) h =
    let a = both (is_property p) (is_matrix_entry c) h in
    none_or_else (rule p.0 (is_property p)) (each_pair is_property c) (none_rule p.0 (is_property p) a.0) (leg_kept c a.1)

each_kept : (k : ℕ) (cs : List Pairs) → IsTrue (list_all is_matrix_entry cs) → each leg_rules k cs ≡ None
each_kept k [] h = refl
each_kept k (c ∷ cs) h =
    let a = both (is_matrix_entry c) (list_all is_matrix_entry cs) h in
    none_or_else (under (decimal k) (leg_rules c)) (each leg_rules (suc k) cs) (none_under (decimal k) (leg_rules c) (leg_kept c a.0)) (each_kept (suc k) cs a.1)

-- no leg of a job breaks a rule
pub each_leg : (o : Option Matrix) → IsTrue (all_there is_flow_matrix o) → each leg_rules 0 (legs_of o) ≡ None
each_leg o h = each_kept 0 (legs_of o) (legs_kept o h)

-- there is a leg, and there are at most 256
pub count_legs : (o : Option Matrix) → HasLegs o → (1 ≤ length (legs_of o)) × (length (legs_of o) ≤ 256)
count_legs None h = (omega arith, omega arith)
count_legs (Some m) h = (omega (arith, h.3), h.4)
