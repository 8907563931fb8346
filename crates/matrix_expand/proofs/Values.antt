-- Each combination gives every variable one of its values.
use Rattle.std.proofs.Common.{◌≡◌, ◌∙◌, ◌⊎◌, ℕ, Bool, true, false, List, [], ◌∷◌, ◌++◌, map, Some, refl, ap, cond, nat_cmp, is_eq, Less, Greater, inl, inr}
use Rattle.std.proofs.lemmas.Cmp.{nat_list_cmp_total}
use Rattle.std.proofs.lemmas.Map.Text.{is_eq-slice_cmp}
use Rattle.std.proofs.lemmas.Slice.Eq.{bytes_eq-Decides}
use Rattle.std.specs.Cmp.Lexicographic.{slice_cmp}
use Rattle.std.specs.List.{filter, flat_map, AllByRecursion}
use Rattle.std.specs.List.Sorted.{IsStrictlySortedBy}
use Rattle.std.specs.Ordering.{ordering_reverse}
use Rattle.flow_model.specs.Mapping.{value_at, keys_of, Ascends}
use Rattle.flow_model.specs.Plain.{Plain}
use Rattle.flow_model.specs.declared.plan.Matrix.{Matrix}
use Rattle.matrix_expand.specs.Combos.{Pairs, Variables, product, is_original, originals, overlaid, stands_alone, combos}
use Rattle.matrix_expand.specs.Laws.{IsOneOf, GivesOne}
use Rattle.matrix_expand.proofs.Overlays.{original_stays}

-- ---- what holds of each element

all_append : {X : Type 0} (P : X → Type 0) (xs ys : List X) → AllByRecursion P xs → AllByRecursion P ys → AllByRecursion P (xs ++ ys)
all_append P [] ys h k = k
all_append P (x ∷ xs) ys h k = (h.0, all_append P xs ys h.1 k)

all_map : {X Y : Type 0} (Q : X → Type 0) (P : Y → Type 0) (f : X → Y) → ((x : X) → Q x → P (f x)) → (xs : List X) → AllByRecursion Q xs → AllByRecursion P (map f xs)
all_map Q P f t [] h = tt
all_map Q P f t (x ∷ xs) h = (t x h.0, all_map Q P f t xs h.1)

all_cond : {X : Type 0} (P : X → Type 0) (x : X) (xs : List X) (b : Bool) → P x → AllByRecursion P xs → AllByRecursion P (cond b (x ∷ xs) xs)
all_cond P x xs true h k = (h, k)
all_cond P x xs false h k = k

all_filter : {X : Type 0} (P : X → Type 0) (test : X → Bool) (xs : List X) → AllByRecursion P xs → AllByRecursion P (filter test xs)
all_filter P test [] h = tt
all_filter P test (x ∷ xs) h = all_cond P x (filter test xs) (test x) h.0 (all_filter P test xs h.1)

all_one : {X : Type 0} (P : X → Type 0) (xs : List X) → ((x : X) → IsOneOf x xs → P x) → AllByRecursion P xs
all_one P [] h = tt
all_one P (x ∷ xs) h = (h x (inl refl), all_one P xs (λ y k. h y (inr k)))

all_flat : {X Y : Type 0} (P : Y → Type 0) (f : X → List Y) (xs : List X) → ((x : X) → IsOneOf x xs → AllByRecursion P (f x)) → AllByRecursion P (flat_map f xs)
all_flat P f [] h = tt
all_flat P f (x ∷ xs) h = all_append P (f x) (flat_map f xs) (h x (inl refl)) (all_flat P f xs (λ y k. h y (inr k)))

all_weaker : {X : Type 0} (Q P : X → Type 0) → ((x : X) → Q x → P x) → (xs : List X) → AllByRecursion Q xs → AllByRecursion P xs
all_weaker Q P t [] h = tt
all_weaker Q P t (x ∷ xs) h = (t x h.0, all_weaker Q P t xs h.1)

-- ---- choices

front : (name : List ℕ) (x : Plain) (c : Pairs) → value_at name ((name, x) ∷ c) ≡ Some x
front name x c = ap (λ b. cond b (Some x) (value_at name c)) (is_eq-slice_cmp name name ∙ (bytes_eq-Decides name name).1 refl)

behind : (name key : List ℕ) (x : Plain) (c : Pairs) → slice_cmp nat_cmp name key ≡ Less → value_at key ((name, x) ∷ c) ≡ value_at key c
behind name key x c h =
    let above : slice_cmp nat_cmp key name ≡ Greater = nat_list_cmp_total.antisymm key name ∙ ap ordering_reverse h in
    ap (λ o. cond (is_eq o) (Some x) (value_at key c)) above

others : (name : List ℕ) (x : Plain) (c : Pairs) (us : Variables) → AllByRecursion (λ k. slice_cmp nat_cmp name k ≡ Less) (keys_of us) → AllByRecursion (GivesOne c) us
    → AllByRecursion (GivesOne ((name, x) ∷ c)) us
others name x c [] h k = tt
others name x c (u ∷ us) h k = ((k.0.0, (behind name u.0 x c h.0 ∙ k.0.1.0, k.0.1.1)), others name x c us h.1 k.1)

choices_give : (vs : Variables) → Ascends vs → AllByRecursion (λ c. AllByRecursion (GivesOne c) vs) (product vs)
unfolding IsStrictlySortedBy
choices_give [] h = (tt, tt)
choices_give (v ∷ vs) h =
    all_flat (λ c. AllByRecursion (GivesOne c) (v ∷ vs)) (λ x. map (λ c. (v.0, x) ∷ c) (product vs)) v.1
    (λ x one. all_map (λ c. AllByRecursion (GivesOne c) vs) (λ c. AllByRecursion (GivesOne c) (v ∷ vs)) (λ c. (v.0, x) ∷ c)
    (λ c k. ((x, (front v.0 x c, one)), others v.0 x c vs h.0 k)) (product vs) (choices_give vs h.1))

-- ---- combinations

stays : (es : List Pairs) (o : Pairs) (vs : Variables) → AllByRecursion (GivesOne o) vs → AllByRecursion (GivesOne (overlaid es o o)) vs
stays es o vs h =
    all_weaker (GivesOne o) (GivesOne (overlaid es o o)) (λ v k. (k.0, (original_stays es o v.0 k.0 k.1.0, k.1.1))) vs h

pub values_of_variables : (m : Matrix) → Ascends m.variables → AllByRecursion (λ c. AllByRecursion (GivesOne c) m.variables ⊎ IsOneOf c m.include) (combos m)
values_of_variables m h =
    let Gives : Pairs → Type 0 = λ c. AllByRecursion (GivesOne c) m.variables in
    let Holds : Pairs → Type 0 = λ c. AllByRecursion (GivesOne c) m.variables ⊎ IsOneOf c m.include in
    all_append Holds (map (λ o. overlaid m.include o o) (originals m)) (filter (stands_alone (originals m)) m.include)
    (all_map Gives Holds (λ o. overlaid m.include o o) (λ o k. inl (stays m.include o m.variables k)) (originals m)
    (all_filter Gives (is_original m.exclude) (product m.variables) (choices_give m.variables h)))
    (all_filter Holds (stands_alone (originals m)) m.include (all_one Holds m.include (λ e k. inr k)))
