-- How a job that needs itself is looked for: from job to job by what they need, and back from those that are left, since they need
-- none that needs itself.
use Rattle.std.specs.Prelude.{ℕ, true, if◌then◌else◌, Bool, List, [], ◌∷◌, get_or, nat_eq, Option, Some, None}

-- A place was left: it has a mark, or it is beyond all, where nothing is needed.
abbrev pub is_left : List Bool → ℕ → Bool
is_left left place = get_or left place true

-- The first of some places that was not left.
abbrev pub first_open : List Bool → List ℕ → Option ℕ
first_open left [] = None
first_open left (place ∷ places) = if is_left left place then first_open left places else Some place

-- The places behind this one.
abbrev pub behind : ℕ → List ℕ → Option (List ℕ)
behind place [] = None
behind place (other ∷ places) = if nat_eq place other then Some places else behind place places
