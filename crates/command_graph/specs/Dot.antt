-- The graph of a plan in DOT: a cluster for each run, in it a node for each job, and an edge to it from each job that it
-- needs. Of a board the labels say how runs, jobs and legs stand, and the nodes have a colour.
use Rattle.std.specs.Prelude.{◌==◌, ◌+◌, ◌++◌, ℕ, suc, if◌then◌else◌, List, [], ◌∷◌, length, codes, decimal, Option, Some, None, slice_get}
use Rattle.std.specs.List.{flat_map}
use Rattle.status_table.specs.Words.{Board, JobPlan, Leg, Plan, Run, RunPlan}
use Rattle.command_graph.specs.Quoted.{quoted}
use Rattle.command_graph.specs.Standing.{leg_words, legs_at, stand_at, stand_colour, stand_of_run, stand_word}
use Rattle.command_graph.specs.declared.standing.Stand.{Stand}

-- ---- labels

-- How something stands, where there is a board.
abbrev pub stand_words : Option Stand → List ℕ
stand_words None = []
stand_words (Some stand) = codes ": " ++ stand_word stand

-- How many legs a job has, where it is not one.
abbrev pub count_words : ℕ → List ℕ
count_words n = if n == 1 then [] else (codes ", " ++ decimal n ++ codes " legs")

-- The line of the leg with this number.
abbrev pub leg_line : ℕ → Leg → List ℕ
leg_line l leg = codes "\nleg " ++ decimal l ++ codes ": " ++ leg_words leg.state

-- The legs from number l on.
abbrev pub leg_lines : ℕ → List Leg → List ℕ
leg_lines l [] = []
leg_lines l (leg ∷ legs) = leg_line l leg ++ leg_lines (suc l) legs

-- The legs of a job that has n: each with its state where they are shown, and else how many.
abbrev pub legs_words : ℕ → ℕ → List Leg → List ℕ
legs_words n l [] = count_words n
legs_words n l (leg ∷ legs) = leg_lines l (leg ∷ legs)

-- The name of a job, its number and how it stands, and its legs, of which the first has the number l.
abbrev pub job_label : ℕ → JobPlan → Option Stand → List Leg → List ℕ
job_label l job stand legs =
    job.name ++ (codes "\njob " ++ decimal job.number) ++ stand_words stand ++ legs_words (length job.legs) l legs

-- The name of a workflow, the number of its run and how it stands.
abbrev pub run_label : ℕ → RunPlan → Option Stand → List ℕ
run_label r run stand = run.flow ++ (codes "\nrun " ++ decimal r) ++ stand_words stand

-- ---- statements

-- The end of a node, with its colour where there is a board.
abbrev pub node_end : Option Stand → List ℕ
node_end None = codes "];\n"
node_end (Some stand) = codes " fillcolor=" ++ stand_colour stand ++ codes "];\n"

-- The node of the job with this number.
abbrev pub node_text : ℕ → List ℕ → Option Stand → List ℕ
node_text number label stand =
    (codes "\t\tj" ++ decimal number) ++ codes " [label=" ++ quoted label ++ node_end stand

-- The edge from the job that is needed to the one that needs it.
abbrev pub edge_text : ℕ → ℕ → List ℕ
edge_text number need = (codes "\t\tj" ++ decimal need) ++ (codes " -> j" ++ decimal number) ++ codes ";\n"

-- The job at this place of a run, of whose legs the first has the number l: its node, and an edge for each need.
abbrev pub job_text : Option Run → ℕ → ℕ → JobPlan → List ℕ
job_text run place l job =
    node_text job.number (job_label l job (stand_at run place) (legs_at run place)) (stand_at run place)
    ++ flat_map (edge_text job.number) job.needs

-- The jobs from this place on.
abbrev pub jobs_text : Option Run → ℕ → ℕ → List JobPlan → List ℕ
jobs_text run place l [] = []
jobs_text run place l (job ∷ jobs) = job_text run place l job ++ jobs_text run (suc place) (l + length job.legs) jobs

-- How many legs some jobs have.
abbrev pub legs_count : List JobPlan → ℕ
legs_count [] = 0
legs_count (job ∷ jobs) = length job.legs + legs_count jobs

-- The beginning of the cluster of the run with this number.
unfoldable pub cluster_begin : ℕ → List ℕ → List ℕ
cluster_begin number label =
    (codes "\tsubgraph cluster_" ++ decimal number) ++ codes " {\n\t\tlabel=" ++ quoted label ++ codes ";\n"

-- The beginning of the cluster of a run, with its label.
abbrev pub run_begin : Option Run → ℕ → RunPlan → List ℕ
run_begin state r run = cluster_begin r (run_label r run (stand_of_run state))

-- The cluster of the run with this number, of whose legs the first has the number l.
abbrev pub run_text : Option Run → ℕ → ℕ → RunPlan → List ℕ
run_text state r l run = run_begin state r run ++ jobs_text state 0 l run.jobs ++ codes "\t}\n"

-- The runs from number r on; the board has these.
abbrev pub runs_text : List Run → ℕ → ℕ → List RunPlan → List ℕ
runs_text states r l [] = []
runs_text states r l (run ∷ runs) =
    run_text (slice_get states r) r l run ++ runs_text states (suc r) (l + legs_count run.jobs) runs

-- ---- graphs

abbrev pub graph_head : List ℕ
graph_head =
    codes "digraph plan {\n\trankdir=LR;\n\tfontname=Helvetica;\n"
    ++ codes "\tnode [shape=box style=filled fillcolor=white fontname=Helvetica];\n"

-- The graph of a plan whose board has these runs; with none it is the plan alone.
abbrev pub graph_text : Plan → List Run → List ℕ
graph_text plan states = graph_head ++ runs_text states 0 0 plan.runs ++ codes "}\n"

-- The graph of a plan alone.
abbrev pub plan_graph : Plan → List ℕ
plan_graph plan = graph_text plan []

-- The graph of a plan in play.
abbrev pub board_graph : Plan → Board → List ℕ
board_graph plan board = graph_text plan board.runs
