-- Jobs that need themselves, and what is said of them.
use Rattle.std.specs.Prelude.{◌≡◌, ◌⊎◌, ℕ, List, [], ◌∷◌, ◌++◌, codes, get_or, map, Option, Some, None}
use Rattle.flow_model.specs.declared.flow.FlowJob.{FlowJob}
use Rattle.plan_assembler.specs.Graph.{NeedsBy, HasCycle}
use Rattle.plan_assembler.specs.Layout.{graph_of, ids_of}
use Rattle.flow_lint.specs.Places.{below}
use Rattle.flow_lint.specs.declared.note.Note.{Note}

-- The id of the job at a place.
abbrev pub id_at : List FlowJob → ℕ → List ℕ
id_at jobs place = get_or (ids_of jobs) place []

-- That the first of some jobs is needed, which needs the next, and so on to this last one.
abbrev pub needs_text : List (List ℕ) → List ℕ → List ℕ
needs_text [] last = codes " needs `" ++ (last ++ codes "`")
needs_text (id ∷ ids) last = codes " needs `" ++ (id ++ (codes "`, which" ++ needs_text ids last))

-- A job needs itself by way of others, and it is said at its needs, by the ids in the order of the needs.
pub record IsCycle (jobs : List FlowJob) (note : Note) : Type 0 where
  pub place : ℕ
  pub ways : List ℕ
  pub needs_itself : NeedsBy (graph_of jobs) place ways place
  pub is_path : note.path ≡ below (below (codes "jobs") (id_at jobs place)) (codes "needs")
  pub is : note.sentence ≡ codes "this job"
      ++ (needs_text (map (id_at jobs) ways) (id_at jobs place) ++ codes ": take one of the needs out")

-- What is found of the jobs that need themselves: nothing exactly where there are none.
abbrev pub FindsCycle : List FlowJob → Option Note → Type 0
FindsCycle jobs None = HasCycle (graph_of jobs) → ⊥
FindsCycle jobs (Some note) = IsCycle jobs note

-- It is told, or there is none.
abbrev pub TellsCycle : List FlowJob → Note → Type 0
TellsCycle jobs note = IsCycle jobs note ⊎ (HasCycle (graph_of jobs) → ⊥)
