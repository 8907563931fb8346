-- A search that finds something ends there.
use Rattle.std.proofs.Common.{◌≡◌, ℕ, suc, ◌<◌, List, ◌∷◌, Option, Some, None, Err, decimal, drop, length, get_or, drop-cons, ap, sym, subst, ◌∙◌}
use Rattle.flow_model.specs.Found.{Path, or_else, under, each, Checks}
use Rattle.flow_model.specs.declared.check.Broken.{Broken}
use Rattle.flow_model.specs.declared.check.Broken.TheVariants.{Rule, Memory}

pub or_else_stop : (a b : Option Path) (e : Broken) → Checks a (Err e) → Checks (or_else a b) (Err e)
or_else_stop None b (Rule path) h = cc
or_else_stop None b Memory h = tt
or_else_stop (Some found) b (Rule path) h = h
or_else_stop (Some found) b Memory h = tt

pub each_stop : {T : Type 0} (rules : T → Option Path) (xs : List T) (k : ℕ) (x : T) (e : Broken) → each rules k (drop k xs) ≡ each rules 0 xs
    → k < length xs → x ≡ get_or xs k x → Checks (under (decimal k) (rules x)) (Err e) → Checks (each rules 0 xs) (Err e)
each_stop {T} rules xs k x e kept h is stop =
    let there : drop k xs ≡ x ∷ drop (suc k) xs = drop-cons xs k x h ∙ ap (λ (y : T). y ∷ drop (suc k) xs) (sym is) in
    let found : each rules 0 xs ≡ or_else (under (decimal k) (rules x)) (each rules (suc k) (drop (suc k) xs)) =
    sym kept ∙ ap (λ (ys : List T). each rules k ys) there in
    subst (λ (f : Option Path). Checks f (Err e)) (sym found) (or_else_stop (under (decimal k) (rules x)) (each rules (suc k) (drop (suc k) xs)) e stop)
