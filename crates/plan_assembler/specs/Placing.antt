-- How stages are found: by passes over the jobs, in which a job gets its stage once all that it needs have theirs. For this
-- crate's own use.
use Rattle.std.specs.Prelude.{◌≡◌, ◌<◌, ◌≤◌, ◌+◌, ℕ, Bool, true, false, List, [], map, length, get_or, Option, Some, None}
use Rattle.std.specs.Prelude.{is_none, unwrap_or}
use Rattle.std.specs.List.{count_by, list_any}
use Rattle.plan_assembler.specs.Graph.{Graph}
use Rattle.plan_assembler.specs.Stages.{stage_after}

-- a job has no stage yet
abbrev pub is_open : List (Option ℕ) → ℕ → Bool
is_open found k = is_none (get_or found k None)

-- the stage of a job, 0 while it has none
abbrev pub found_at : List (Option ℕ) → ℕ → ℕ
found_at found k = unwrap_or (get_or found k None) 0

-- one of these needs has no stage yet
abbrev pub waits : List (Option ℕ) → List ℕ → Bool
waits found needs = list_any (is_open found) needs

-- each job that has no stage waits
abbrev pub AllWait : Graph → List (Option ℕ) → Type 0
AllWait g found = (j : ℕ) → j < length g → is_open found j ≡ true → waits found (get_or g j []) ≡ true

-- how many jobs have no stage yet
abbrev pub count_open : List (Option ℕ) → ℕ
count_open found = count_by is_none found

-- where the search stands: who has a stage has the one after those of its needs
pub record IsPlacing (g : Graph) (found : List (Option ℕ)) : Type 0 where
  pub one_each : length found ≡ length g
  pub closed : (j : ℕ) → is_open found j ≡ false → waits found (get_or g j []) ≡ false
  pub right : (j : ℕ) → is_open found j ≡ false → found_at found j ≡ stage_after (map (found_at found) (get_or g j []))
  pub bounded : (k : ℕ) → found_at found k + count_open found ≤ length g

-- a job got its stage, or nothing is changed, and the job has one or waits
abbrev pub Places : Graph → List (Option ℕ) → ℕ → List (Option ℕ) → Bool → Type 0
Places g old j new true = count_open new < count_open old
Places g old j new false = (new ≡ old) × (is_open old j ≡ true → waits old (get_or g j []) ≡ true)

-- these are the stages that were found, or a job has none
abbrev pub Settles : List (Option ℕ) → Option (List ℕ) → Type 0
Settles found (Some ss) = map Some ss ≡ found
Settles found None = (j : ℕ) × (j < length found) × (is_open found j ≡ true)
