-- A search that finds nothing: none of its parts does.
use Rattle.std.proofs.Common.{◌≡◌, ℕ, suc, Bool, true, false, IsTrue, List, [], ◌∷◌, decimal, Option, Some, None, IfSome, refl, ap, ◌∙◌}
use Rattle.flow_model.specs.Found.{Path, rule, or_else, under, each, each_pair, if_there}
use Rattle.flow_model.specs.Sound.{Each}
use Rattle.flow_model.proofs.Places.{Each-nil, Each-cons, Each-head, Each-tail}

pub or_else_none : (a b : Option Path) → or_else a b ≡ None → (a ≡ None) × (b ≡ None)
or_else_none None b e = (refl, e)
or_else_none (Some path) b e = absurd (cc)

pub none_or_else : (a b : Option Path) → a ≡ None → b ≡ None → or_else a b ≡ None
none_or_else a b e f = ap (λ (o : Option Path). or_else o b) e ∙ f

pub under_none : (key : Path) (o : Option Path) → under key o ≡ None → o ≡ None
under_none key None e = refl
under_none key (Some path) e = absurd (cc)

pub none_under : (key : Path) (o : Option Path) → o ≡ None → under key o ≡ None
none_under key o e = ap (under key) e

pub rule_none : (path : Path) (holds : Bool) → rule path holds ≡ None → IsTrue holds
rule_none path true e = refl
rule_none path false e = absurd (cc)

pub none_rule : (path : Path) (holds : Bool) → IsTrue holds → rule path holds ≡ None
none_rule path holds h = ap (rule path) h

pub each_none : {T : Type 0} (rules : T → Option Path) (P : T → Type 0) → ((x : T) → rules x ≡ None → P x) → (k : ℕ) (xs : List T) → each rules k xs ≡ None → Each P xs
each_none rules P tells k [] e = Each-nil P
each_none rules P tells k (x ∷ xs) e =
    let r = or_else_none (under (decimal k) (rules x)) (each rules (suc k) xs) e in
    Each-cons P x xs (tells x (under_none (decimal k) (rules x) r.0)) (each_none rules P tells (suc k) xs r.1)

pub none_each : {T : Type 0} (rules : T → Option Path) (P : T → Type 0) → ((x : T) → P x → rules x ≡ None) → (k : ℕ) (xs : List T) → Each P xs → each rules k xs ≡ None
none_each rules P tells k [] h = refl
none_each rules P tells k (x ∷ xs) h =
    none_or_else (under (decimal k) (rules x)) (each rules (suc k) xs) (none_under (decimal k) (rules x) (tells x (Each-head P x xs h)))
    (none_each rules P tells (suc k) xs (Each-tail P x xs h))

pub each_pair_none : {V : Type 0} (test : List ℕ × V → Bool) (P : List ℕ × V → Type 0) → ((p : List ℕ × V) → IsTrue (test p) → P p) → (ps : List (List ℕ × V)) → each_pair test ps ≡ None → Each P ps
each_pair_none test P tells [] e = Each-nil P
each_pair_none test P tells (p ∷ ps) e =
    let r = or_else_none (rule p.0 (test p)) (each_pair test ps) e in
    Each-cons P p ps (tells p (rule_none p.0 (test p) r.0)) (each_pair_none test P tells ps r.1)

pub none_each_pair : {V : Type 0} (test : List ℕ × V → Bool) (P : List ℕ × V → Type 0) → ((p : List ℕ × V) → P p → IsTrue (test p)) → (ps : List (List ℕ × V)) → Each P ps → each_pair test ps ≡ None
none_each_pair test P tells [] h = refl
none_each_pair test P tells (p ∷ ps) h =
    none_or_else (rule p.0 (test p)) (each_pair test ps) (none_rule p.0 (test p) (tells p (Each-head P p ps h))) (none_each_pair test P tells ps (Each-tail P p ps h))

pub if_there_none : {T : Type 0} (rules : T → Option Path) (P : T → Type 0) → ((x : T) → rules x ≡ None → P x) → (o : Option T) → if_there rules o ≡ None → IfSome o P
if_there_none rules P tells None e = tt
if_there_none rules P tells (Some x) e = tells x e

pub none_if_there : {T : Type 0} (rules : T → Option Path) (P : T → Type 0) → ((x : T) → P x → rules x ≡ None) → (o : Option T) → IfSome o P → if_there rules o ≡ None
none_if_there rules P tells None h = refl
none_if_there rules P tells (Some x) h = tells x h
