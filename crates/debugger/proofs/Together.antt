-- The breaks that are set are a set.
use Rattle.std.proofs.Common.{◌≡◌, Bool, true, false, List, [], ◌∷◌, ◌++◌, refl, ap, subst, ◌∙◌}
use Rattle.std.specs.Prelude.{ℕ, ◌==◌, ◌&&◌, ◌||◌, not}
use Rattle.std.proofs.lemmas.Bool.Decides.{Decides-eqb}
use Rattle.std.proofs.lemmas.List.Folds.{list_any-append}
use Rattle.std.proofs.lemmas.Map.Views.{any-filter_same}
use Rattle.debugger.specs.declared.breaks.Break.{Break}
use Rattle.debugger.specs.Breaks.{AddsAlone, ClearsAlone, is_set, same_break, without_break}

equal : (l m : ℕ) → (l == m) ≡ true → l ≡ m
equal l m h = (Decides-eqb l m).0 h

first-true : (a b : Bool) → (a && b) ≡ true → a ≡ true
first-true true b h = refl
first-true false b h = h

second-true : (a b : Bool) → (a && b) ≡ true → b ≡ true
second-true true b h = h
second-true false b h = absurd (no h)
  where
    no : false ≡ true → ⊥
    no e = cc

-- two breaks are one only where they are equal
same-is : (a b : Break) → same_break a b ≡ true → a ≡ b
same-is (Break.Leg l) (Break.Leg m) h = ap Break.Leg (equal l m h)
same-is (Break.Leg l) (Break.Step m t) h = cc
same-is (Break.Leg l) (Break.Ends m) h = cc
same-is (Break.Leg l) Break.Failed h = cc
same-is (Break.Step l s) (Break.Leg m) h = cc
same-is (Break.Step l s) (Break.Step m t) h =
    ap (λ (x : ℕ). Break.Step x s) (equal l m (first-true (l == m) (s == t) h)) ∙ ap (Break.Step m) (equal s t (second-true (l == m) (s == t) h))
same-is (Break.Step l s) (Break.Ends m) h = cc
same-is (Break.Step l s) Break.Failed h = cc
same-is (Break.Ends l) (Break.Leg m) h = cc
same-is (Break.Ends l) (Break.Step m t) h = cc
same-is (Break.Ends l) (Break.Ends m) h = ap Break.Ends (equal l m h)
same-is (Break.Ends l) Break.Failed h = cc
same-is Break.Failed (Break.Leg m) h = cc
same-is Break.Failed (Break.Step m t) h = cc
same-is Break.Failed (Break.Ends m) h = cc
same-is Break.Failed Break.Failed h = refl

-- a break that is set may be set again
pub adds-set : (added : Break) (breaks : List Break) → is_set added breaks ≡ true → AddsAlone added breaks breaks
adds-set added breaks was b = go (same_break added b) refl
  where
    go : (same : Bool) → same_break added b ≡ same → is_set b breaks ≡ (same_break added b || is_set b breaks)
    go true s = rw s (subst (λ (x : Break). is_set x breaks ≡ true) (same-is added b s) was)
    go false s = rw s refl

-- one more at the end is set
pub adds-last : (added : Break) (breaks : List Break) → AddsAlone added breaks (breaks ++ added ∷ [])
adds-last added breaks b = list_any-append (λ x. same_break x b) breaks (added ∷ []) ∙ turned (is_set b breaks) (same_break added b)
  where
    turned : (x y : Bool) → (x || (y || false)) ≡ (y || x)
    turned true true = refl
    turned true false = refl
    turned false true = refl
    turned false false = refl

-- one that is left out is not set
pub clears-alone : (cleared : Break) (breaks : List Break) → ClearsAlone cleared breaks (without_break cleared breaks)
clears-alone cleared breaks b =
    any-filter_same (λ x. same_break x b) (λ x. not (same_break x cleared)) (not (same_break b cleared))
    (λ x h. ap (λ (y : Break). not (same_break y cleared)) (same-is x b h)) breaks
