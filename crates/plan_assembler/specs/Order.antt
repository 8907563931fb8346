-- The order of a run's jobs: by their stage, and in a stage by their id, which is by their place.
use Rattle.std.specs.Prelude.{◌≡◌, ℕ, zero, suc, ◌==◌, Bool, false, List, [], ◌∷◌, ◌++◌, length, get_or, nat_eq, if◌then◌else◌}
use Rattle.std.specs.List.{filter, list_any}

-- the places, counted from `place` on, that have this stage
abbrev pub places_of : ℕ → ℕ → List ℕ → List ℕ
places_of stage place [] = []
places_of stage place (s ∷ ss) = if s == stage then place ∷ places_of stage (suc place) ss else places_of stage (suc place) ss

-- the places of so many stages, from `stage` on
abbrev pub by_stage : ℕ → ℕ → List ℕ → List ℕ
by_stage zero stage ss = []
by_stage (suc n) stage ss = places_of stage 0 ss ++ by_stage n (suc stage) ss

-- the chosen jobs, by their stage and then by their id
abbrev pub order_of : List ℕ → List Bool → List ℕ
order_of ss chosen = filter (λ j. get_or chosen j false) (by_stage (length ss) 0 ss)

-- the numbers, counted from `number` on, of those jobs that are needed: they ascend, and a repeated need counts once
abbrev pub numbers_of : ℕ → List ℕ → List ℕ → List ℕ
numbers_of number [] needs = []
numbers_of number (j ∷ js) needs = if list_any (nat_eq j) needs then number ∷ numbers_of (suc number) js needs else numbers_of (suc number) js needs

-- ---- for this crate's own use

-- the chosen ones of these places
abbrev pub chosen_of : List Bool → List ℕ → List ℕ
chosen_of chosen places = filter (λ j. get_or chosen j false) places

-- these are marks at exactly these places
abbrev pub AreMarks : List ℕ → List Bool → Type 0
AreMarks places marks = (j : ℕ) → get_or marks j false ≡ list_any (nat_eq j) places
