-- What jobs need. The jobs of a workflow stand at places, from 0; a graph has for each the places of the jobs that it needs.
use Rattle.std.specs.Prelude.{◌<◌, ℕ, List, [], ◌∷◌, get_or, length}
use Rattle.std.specs.List.{Contains}

abbrev pub Graph : Type 0
Graph = List (List ℕ)

-- job j needs job k
abbrev pub Needs : Graph → ℕ → ℕ → Type 0
Needs g j k = Contains (get_or g j []) k

-- job j needs job k by way of these jobs, each of which needs the next
abbrev pub NeedsBy : Graph → ℕ → List ℕ → ℕ → Type 0
NeedsBy g j [] k = Needs g j k
NeedsBy g j (m ∷ ms) k = Needs g j m × NeedsBy g m ms k

-- a job needs itself, directly or not
abbrev pub HasCycle : Graph → Type 0
HasCycle g = (j : ℕ) × (ms : List ℕ) × NeedsBy g j ms j

-- each need is one of the jobs
abbrev pub IsGraph : Graph → Type 0
IsGraph g = (j k : ℕ) → Needs g j k → k < length g
