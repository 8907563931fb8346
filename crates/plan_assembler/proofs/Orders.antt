-- Going over the stages.
use Rattle.std.proofs.Common.{◌≡◌, ◌<◌, ◌+◌, ◌-◌, ◌∙◌, ℕ, zero, suc, List, [], ◌∷◌, ◌++◌, get_or, refl, ap, sym, append_assoc, append-nil, arith}
use Rattle.std.proofs.lemmas.Grind.{common_steps}
use Rattle.plan_assembler.specs.Order.{by_stage, places_of}

-- the stage at hand, and those after it
pub next_stage : (n stage : ℕ) (ss : List ℕ) → stage < n → by_stage (n - stage) stage ss ≡ places_of stage 0 ss ++ by_stage (n - (stage + 1)) (stage + 1) ss
next_stage n stage ss h =
    let one : n - stage ≡ suc (n - (stage + 1)) = omega arith in
    let more : suc stage ≡ stage + 1 = omega arith in
    ap (λ (k : ℕ). by_stage k stage ss) one ∙ ap (λ (k : ℕ). places_of stage 0 ss ++ by_stage (n - (stage + 1)) k ss) more

-- the places of one stage more
pub stage_pushed : (done all new ss : List ℕ) (n stage : ℕ) → stage < n → done ++ by_stage (n - stage) stage ss ≡ all → new ≡ done ++ places_of stage 0 ss
    → new ++ by_stage (n - (stage + 1)) (stage + 1) ss ≡ all
stage_pushed done all new ss n stage h e is =
    ap (λ (l : List ℕ). l ++ by_stage (n - (stage + 1)) (stage + 1) ss) is ∙ append_assoc done (places_of stage 0 ss) _
    ∙ sym (ap (λ (l : List ℕ). done ++ l) (next_stage n stage ss h)) ∙ e

-- ---- above the greatest stage there are no places

none_at : (stage place : ℕ) (ss : List ℕ) → ((j : ℕ) → get_or ss j 0 < stage) → places_of stage place ss ≡ []
none_at stage place [] h = refl
none_at stage place (s ∷ ss) h = grind (arith, common_steps, h 0, none_at stage (suc place) ss (λ j. h (suc j)))

none_above : (n stage : ℕ) (ss : List ℕ) → ((j : ℕ) → get_or ss j 0 < stage) → by_stage n stage ss ≡ []
none_above zero stage ss h = refl
none_above (suc n) stage ss h =
    ap (λ (l : List ℕ). l ++ by_stage n (suc stage) ss) (none_at stage 0 ss h) ∙ none_above n (suc stage) ss (λ j. omega (arith, h j))

pub all_pushed : (done all ss : List ℕ) (n stage : ℕ) → ((j : ℕ) → get_or ss j 0 < stage) → done ++ by_stage n stage ss ≡ all → done ≡ all
all_pushed done all ss n stage h e = sym (append-nil done) ∙ ap (λ (l : List ℕ). done ++ l) (sym (none_above n stage ss h)) ∙ e
