-- The jobs of a run for one job: that job, and all that it needs, directly or not.
use Rattle.std.specs.Prelude.{◌≡◌, ◌<◌, ◌↔◌, ◌⊎◌, ℕ, Bool, true, false, not, List, [], length, get_or}
use Rattle.std.specs.List.{count_by}
use Rattle.plan_assembler.specs.Graph.{Graph, Needs, NeedsBy}

-- a job is the target, or the target needs it, directly or not
abbrev pub IsChosen : Graph → ℕ → ℕ → Type 0
IsChosen g target j = (j ≡ target) ⊎ ((ms : List ℕ) × NeedsBy g target ms j)

-- these are the jobs of a run for the target
abbrev pub AreChosen : Graph → ℕ → List Bool → Type 0
AreChosen g target marks = (length marks ≡ length g) × ((j : ℕ) → (get_or marks j false ≡ true) ↔ IsChosen g target j)

-- ---- for this crate's own use

-- all that those with a mark need has one
abbrev pub AreClosed : Graph → List Bool → Type 0
AreClosed g marks =
    (j i : ℕ) → j < length g → get_or marks j false ≡ true → i < length (get_or g j []) → get_or marks (get_or (get_or g j []) i 0) false ≡ true

-- some of the jobs of a run have a mark, among them the target
pub record Marking (g : Graph) (target : ℕ) (marks : List Bool) : Type 0 where
  pub one_each : length marks ≡ length g
  pub first : get_or marks target false ≡ true
  pub sound : (j : ℕ) → get_or marks j false ≡ true → IsChosen g target j

-- one that is not among them yet, and that one of them needs
pub record IsNext (g : Graph) (marks : List Bool) (k : ℕ) : Type 0 where
  pub needer : ℕ
  pub marked : get_or marks needer false ≡ true
  pub needed : Needs g needer k
  pub new : get_or marks k false ≡ false

-- how many jobs are not among them
abbrev pub count_unmarked : List Bool → ℕ
count_unmarked marks = count_by not marks
