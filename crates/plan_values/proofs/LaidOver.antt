-- A level laid over nothing, and nothing laid over a level.
use Rattle.std.proofs.Common.{◌≡◌, ◌==◌, ℕ, true, length, List, [], ◌∷◌, ◌++◌, append_assoc, append-nil, refl, sym, ap, ◌∙◌, nat_cmp, arith}
use Rattle.std.proofs.lemmas.Bool.Decides.{nat_tests}
use Rattle.std.specs.Cmp.Lexicographic.{slice_cmp}
use Rattle.std.specs.List.Sorted.{IsStrictlySortedBy}
use Rattle.flow_model.specs.Mapping.{with_pair, keys_of, Ascends}
use Rattle.flow_model.proofs.LastPair.{with_pair-above, keys_of-next}
use Rattle.plan_values.specs.Env.{laid_over}

-- laid over pairs whose keys are below its own, it stands behind them
over_lower : {V : Type 0} (ps made : List (List ℕ × V)) (all : List (List ℕ)) → keys_of made ++ keys_of ps ≡ all
    → IsStrictlySortedBy (slice_cmp nat_cmp) all → laid_over ps made ≡ made ++ ps
unfolding laid_over
over_lower [] made all e h = sym (append-nil made)
over_lower {V} (p ∷ ps) made all e h =
    over_lower ps (with_pair p.0 p.1 made) all (keys_of-next made p.0 p.1 (keys_of ps) all e h) h
    ∙ ap (λ (front : List (List ℕ × V)). front ++ ps) (with_pair-above made p.0 p.1 (keys_of ps) all e h)
    ∙ append_assoc made ((p.0, p.1) ∷ []) ps

-- Laid over nothing it is itself.
pub over_empty : {V : Type 0} (ps below : List (List ℕ × V)) → Ascends ps → (length below == 0) ≡ true → laid_over ps below ≡ ps
over_empty ps [] h none = over_lower ps [] (keys_of ps) refl h
over_empty ps (q ∷ qs) h none = absurd (grind (arith, nat_tests))

-- Nothing laid over it leaves it as it is.
pub none_over : {V : Type 0} (ps below : List (List ℕ × V)) → (length ps == 0) ≡ true → laid_over ps below ≡ below
unfolding laid_over
none_over [] below none = refl
none_over (p ∷ ps) below none = absurd (grind (arith, nat_tests))
