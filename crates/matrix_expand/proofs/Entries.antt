-- Which entries count: those that have pairs.
use Rattle.std.proofs.Common.{◌≡◌, ◌∙◌, ◌++◌, ℕ, Bool, true, false, not, ◌&&◌, ◌||◌, List, [], ◌∷◌, map, refl, ap, sym, cond, arith, true≢false, inl, inr}
use Rattle.std.proofs.lemmas.Bool.Decides.{nat_tests}
use Rattle.std.specs.List.{filter, list_any, AllByRecursion}
use Rattle.flow_model.specs.Plain.{Plain}
use Rattle.flow_model.specs.declared.plan.Matrix.{Matrix}
use Rattle.matrix_expand.specs.Combos.{Pairs, product, is_there, stands_in, takes_out, is_original, originals, contradicts, laid_over, overlaid, stands_alone, combos}
use Rattle.matrix_expand.specs.Laws.{IsOneOf, with_pairs_only}

kept_each : {X : Type 0} (P : X → Type 0) (x : X) (xs : List X) (b : Bool) → (b ≡ true → P x) → AllByRecursion P xs → AllByRecursion P (cond b (x ∷ xs) xs)
kept_each P x xs true h k = (h refl, k)
kept_each P x xs false h k = k

filter_each : {X : Type 0} (test : X → Bool) (P : X → Type 0) → ((x : X) → test x ≡ true → P x) → (xs : List X) → AllByRecursion P (filter test xs)
filter_each test P h [] = tt
filter_each test P h (x ∷ xs) = kept_each P x (filter test xs) (test x) (h x) (filter_each test P h xs)

filter_same : {X : Type 0} (p q : X → Bool) → ((x : X) → p x ≡ q x) → (xs : List X) → filter p xs ≡ filter q xs
filter_same p q h [] = refl
filter_same p q h (x ∷ xs) = rw (h x, filter_same p q h xs) refl

map_same : {X Y : Type 0} (f g : X → Y) → ((x : X) → f x ≡ g x) → (xs : List X) → map f xs ≡ map g xs
map_same f g h [] = refl
map_same f g h (x ∷ xs) = rw (h x, map_same f g h xs) refl

first_false : (b c : Bool) → (b || c) ≡ false → (b ≡ false) × (c ≡ false)
first_false true c e = absurd (cc)
first_false false c e = (refl, e)

was_false : (b : Bool) → not b ≡ true → b ≡ false
was_false true e = absurd (cc)
was_false false e = refl

second_of : (a b : Bool) → (a && b) ≡ true → b ≡ true
second_of true b e = e
second_of false b e = absurd (cc)

none_takes : (c e : Pairs) (es : List Pairs) → IsOneOf e es → list_any (takes_out c) es ≡ false → takes_out c e ≡ false
none_takes c e [] h n = absurd h
none_takes c e (d ∷ es) (inl s) n = ap (takes_out c) s ∙ (first_false (takes_out c d) (list_any (takes_out c) es) n).0
none_takes c e (d ∷ es) (inr h) n = none_takes c e es h (first_false (takes_out c d) (list_any (takes_out c) es) n).1

out : (excludes : List Pairs) (e c : Pairs) → IsOneOf e excludes → is_there e ≡ true → is_original excludes c ≡ true → stands_in e c ≡ false
unfolding is_original takes_out
out excludes e c h t o =
    let none : list_any (takes_out c) excludes ≡ false = was_false _ (second_of (is_there c) (not (list_any (takes_out c) excludes)) o) in
    let no : takes_out c e ≡ false = none_takes c e excludes h none in
    sym (ap (λ b. b && stands_in e c) t) ∙ no

pub excludes_out : (m : Matrix) (e : Pairs) → IsOneOf e m.exclude → is_there e ≡ true → AllByRecursion (λ c. stands_in e c ≡ false) (originals m)
excludes_out m e h t = filter_each (is_original m.exclude) (λ c. stands_in e c ≡ false) (λ c. out m.exclude e c h t) (product m.variables)

-- ---- entries that stand alone

and_true : (b : Bool) → (b && true) ≡ b
and_true true = refl
and_true false = refl

alone_there : (e : Pairs) → stands_alone [] e ≡ is_there e
unfolding stands_alone
alone_there e = and_true (is_there e)

no_variable : (excludes : List Pairs) → filter (is_original excludes) ([] ∷ []) ≡ []
unfolding is_original
no_variable excludes = refl

pub includes_alone : (m : Matrix) → (m.variables ≡ [] → originals m ≡ []) × (originals m ≡ [] → combos m ≡ filter is_there m.include)
includes_alone m = (
  λ e. ap (λ vs. filter (is_original m.exclude) (product vs)) e ∙ no_variable m.exclude,
  λ e. ap (λ (os : List Pairs). map (λ o. overlaid m.include o o) os ++ filter (stands_alone os) m.include) e ∙ filter_same (stands_alone []) is_there alone_there m.include,
)

-- ---- entries without pairs

there : (p : List ℕ × Plain) (e : Pairs) → is_there (p ∷ e) ≡ true
there p e = grind (arith, nat_tests)

nothing_there : (e : Pairs) → is_there e ≡ false → e ≡ []
nothing_there [] h = refl
nothing_there (p ∷ e) h = absurd (true≢false (sym (there p e) ∙ h))

any_there : (c e : Pairs) (es : List Pairs) (b : Bool) → is_there e ≡ b → list_any (takes_out c) (cond b (e ∷ es) es) ≡ (takes_out c e || list_any (takes_out c) es)
unfolding takes_out
any_there c e es true h = refl
any_there c e es false h = rw h refl

pub takes_same : (c : Pairs) (es : List Pairs) → list_any (takes_out c) (filter is_there es) ≡ list_any (takes_out c) es
takes_same c [] = refl
takes_same c (e ∷ es) = any_there c e (filter is_there es) (is_there e) refl ∙ ap (λ b. takes_out c e || b) (takes_same c es)

original_same : (es : List Pairs) (c : Pairs) → is_original (filter is_there es) c ≡ is_original es c
unfolding is_original
original_same es c = ap (λ b. is_there c && not b) (takes_same c es)

overlaid_there : (o c e : Pairs) (es : List Pairs) (b : Bool) → is_there e ≡ b → overlaid (cond b (e ∷ es) es) o c ≡ overlaid (e ∷ es) o c
overlaid_there o c e es true h = refl
overlaid_there o c e es false h = rw (nothing_there e h) refl

overlaid_same : (es : List Pairs) (o c : Pairs) → overlaid (filter is_there es) o c ≡ overlaid es o c
overlaid_same [] o c = refl
overlaid_same (e ∷ es) o c = overlaid_there o c e (filter is_there es) (is_there e) refl ∙ overlaid_same es o (cond (contradicts o e) c (laid_over e c))

alone_step : (os : List Pairs) (e : Pairs) (es : List Pairs) (b : Bool) → is_there e ≡ b
    → filter (stands_alone os) (cond b (e ∷ es) es) ≡ cond (stands_alone os e) (e ∷ filter (stands_alone os) es) (filter (stands_alone os) es)
unfolding stands_alone
alone_step os e es true h = refl
alone_step os e es false h = rw h refl

alone_same : (os : List Pairs) (es : List Pairs) → filter (stands_alone os) (filter is_there es) ≡ filter (stands_alone os) es
alone_same os [] = refl
alone_same os (e ∷ es) =
    alone_step os e (filter is_there es) (is_there e) refl
    ∙ ap (λ (l : List Pairs). cond (stands_alone os e) (e ∷ l) l) (alone_same os es)

pub empty_entries_pass : (m : Matrix) → combos (with_pairs_only m) ≡ combos m
empty_entries_pass m =
    let os : originals (with_pairs_only m) ≡ originals m =
    filter_same (is_original (filter is_there m.exclude)) (is_original m.exclude) (original_same m.exclude) (product m.variables) in
    ap (λ (l : List Pairs). map (λ o. overlaid (filter is_there m.include) o o) l ++ filter (stands_alone l) (filter is_there m.include)) os
    ∙ ap (λ (l : List Pairs). l ++ filter (stands_alone (originals m)) (filter is_there m.include))
    (map_same (λ o. overlaid (filter is_there m.include) o o) (λ o. overlaid m.include o o) (λ o. overlaid_same m.include o o) (originals m))
    ∙ ap (λ (l : List Pairs). map (λ o. overlaid m.include o o) (originals m) ++ l) (alone_same (originals m) m.include)
