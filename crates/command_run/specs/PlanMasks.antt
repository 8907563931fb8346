-- The masks that the secrets of a plan are.
use Rattle.std.specs.Prelude.{ℕ, List, [], ◌∷◌, ◌++◌, flat_map}
use Rattle.status_table.specs.Words.{Items, Members, Plain, Plan, RunPlan, item, list, map as plain_map, member, no_items, no_members, null, text, truth, whole}

-- the text, if it has a byte
abbrev pub some_text : List ℕ → List (List ℕ)
some_text [] = []
some_text (b ∷ bytes) = (b ∷ bytes) ∷ []

-- the masks that a secret is: each text in it that has a byte, also inside lists and maps
abbrev mutual
  pub texts_in : Plain → List (List ℕ)
  texts_in null = []
  texts_in (truth b) = []
  texts_in (whole z) = []
  texts_in (text bytes) = some_text bytes
  texts_in (list vs) = texts_in_items vs
  texts_in (plain_map ms) = texts_in_members ms

  -- the same of a list's items
  pub texts_in_items : Items → List (List ℕ)
  texts_in_items no_items = []
  texts_in_items (item v vs) = texts_in v ++ texts_in_items vs

  -- the same of a map's values
  pub texts_in_members : Members → List (List ℕ)
  texts_in_members no_members = []
  texts_in_members (member k v ms) = texts_in v ++ texts_in_members ms

-- the masks that secrets are, and those of the secrets of runs
abbrev pub secret_masks : List (List ℕ × Plain) → List (List ℕ)
secret_masks secrets = flat_map (λ p. texts_in p.1) secrets

abbrev pub run_masks : RunPlan → List (List ℕ)
run_masks run = secret_masks run.roots.secrets

abbrev pub plan_masks : Plan → List (List ℕ)
plan_masks plan = flat_map run_masks plan.runs
