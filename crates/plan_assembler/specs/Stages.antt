-- The stages of jobs: the stage of a job is 0 without needs, else 1 + the greatest stage of its needs.
use Rattle.std.specs.Prelude.{◌≡◌, ℕ, suc, List, [], ◌∷◌, map, max, get_or, Option, Some, None}
use Rattle.plan_assembler.specs.Graph.{Graph, HasCycle}

-- the stage of a job whose needs have these stages
abbrev pub stage_after : List ℕ → ℕ
stage_after [] = 0
stage_after (s ∷ ss) = max (suc s) (stage_after ss)

-- These are the stages of all jobs: each is the one after the stages of the job's needs. Where a job needs itself no list
-- is, and where none does exactly one list is.
abbrev pub AreStages : Graph → List ℕ → Type 0
AreStages g ss = ss ≡ map (λ needs. stage_after (map (λ k. get_or ss k 0) needs)) g

-- The stages, or none since a job needs itself.
abbrev pub Stages : Graph → Option (List ℕ) → Type 0
Stages g (Some ss) = AreStages g ss
Stages g None = HasCycle g
