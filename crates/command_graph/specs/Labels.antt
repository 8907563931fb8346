-- The strings of a graph: its labels, which are all that stands in quotes.
use Rattle.std.specs.Prelude.{◌≡◌, ◌==◌, ◌+◌, ◌++◌, ℕ, suc, Bool, true, not, List, [], ◌∷◌, length, Option, Some, slice_get}
use Rattle.std.specs.List.{list_all}
use Rattle.status_table.specs.Words.{JobPlan, Plan, Run, RunPlan}
use Rattle.command_graph.specs.Dot.{job_label, legs_count, run_label}
use Rattle.command_graph.specs.Quoted.{shown_text}
use Rattle.command_graph.specs.Reading.{read_quoted}
use Rattle.command_graph.specs.Standing.{legs_at, stand_at, stand_of_run}

-- ---- the strings of any text

-- No byte of a text is a quote.
abbrev pub has_no_quote : List ℕ → Bool
has_no_quote text = list_all (λ b. not (b == 34)) text

-- Before its first quote a text has this; the string that begins there is read as s, and of what follows it that is so.
pub record NextString (s : List ℕ) (Is : List ℕ → Type 0) (text : List ℕ) : Type 0 where
  pub before : List ℕ
  pub from : List ℕ
  pub after : List ℕ
  pub whole : text ≡ before ++ from
  pub bare : has_no_quote before ≡ true
  pub read : read_quoted from ≡ Some (s, after)
  pub rest : Is after

-- The strings of a text are read as these, one after the other, and these are all.
abbrev pub HasStrings : List (List ℕ) → List ℕ → Type 0
HasStrings [] text = has_no_quote text ≡ true
HasStrings (s ∷ ss) text = NextString s (HasStrings ss) text

-- ---- those of a graph

-- The labels of the jobs from this place on, as they are shown.
abbrev pub jobs_strings : Option Run → ℕ → ℕ → List JobPlan → List (List ℕ)
jobs_strings run place l [] = []
jobs_strings run place l (job ∷ jobs) =
    shown_text (job_label l job (stand_at run place) (legs_at run place)) ∷ jobs_strings run (suc place) (l + length job.legs) jobs

-- The labels of the runs from number r on, as they are shown, each before those of its jobs.
abbrev pub runs_strings : List Run → ℕ → ℕ → List RunPlan → List (List ℕ)
runs_strings states r l [] = []
runs_strings states r l (run ∷ runs) =
    shown_text (run_label r run (stand_of_run (slice_get states r)))
    ∷ (jobs_strings (slice_get states r) 0 l run.jobs ++ runs_strings states (suc r) (l + legs_count run.jobs) runs)

-- The strings of the graph of a plan whose board has these runs: the labels of its runs and jobs.
abbrev pub graph_strings : Plan → List Run → List (List ℕ)
graph_strings plan states = runs_strings states 0 0 plan.runs
