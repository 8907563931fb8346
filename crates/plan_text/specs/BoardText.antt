-- The text of a board: for each run its line, then for each of its jobs the job's line, then for each leg its
-- line, its done steps and its outputs; last the line of the ends. A step's line is followed by its variables.
use Rattle.std.specs.Prelude.{◌≡◌, String, string_bytes, ℕ, suc, ◌+◌, ◌++◌, codes, decimal, List, [], ◌∷◌, length, Bool, true, false, Option, Some, None}
use Rattle.std.specs.List.{flat_map}
use Rattle.std.specs.declared.alloc.Global.{Global}
use Rattle.serde_json.specs.Data.{string}
use Rattle.serde_json.specs.Written.{compact_text}
use Rattle.plan_documents.specs.Parts.{map_data}
use Rattle.flow_model.specs.declared.board.Board.{Board}
use Rattle.flow_model.specs.declared.board.Run.{Run}
use Rattle.flow_model.specs.declared.board.RunState.{RunState}
use Rattle.flow_model.specs.declared.board.RunState.TheVariants as run_state
use Rattle.flow_model.specs.declared.board.Job.{Job}
use Rattle.flow_model.specs.declared.board.JobState.{JobState}
use Rattle.flow_model.specs.declared.board.JobState.TheVariants as job_state
use Rattle.flow_model.specs.declared.board.Leg.{Leg}
use Rattle.flow_model.specs.declared.board.LegState.{LegState}
use Rattle.flow_model.specs.declared.board.LegState.TheVariants as leg_state
use Rattle.flow_model.specs.declared.board.DoneStep.{DoneStep}
use Rattle.flow_model.specs.Outcome.{outcome_word}

-- ---- words

abbrev pub run_state_words : RunState → List ℕ
run_state_words run_state.New = codes "new"
run_state_words run_state.Waiting = codes "waiting"
run_state_words run_state.Going = codes "going"
run_state_words (run_state.Closed result) = codes "closed " ++ outcome_word result

abbrev pub job_state_words : JobState → List ℕ
job_state_words job_state.Unjudged = codes "unjudged"
job_state_words job_state.Open = codes "open"
job_state_words (job_state.Shut result) = codes "shut " ++ outcome_word result

-- a worker's leg is idle or in a call
abbrev pub call_words : Bool → List ℕ
call_words false = codes " idle"
call_words true = codes " call"

-- a failure may be tolerated
abbrev pub tolerated_words : Bool → List ℕ
tolerated_words false = []
tolerated_words true = codes " tolerated"

abbrev pub leg_state_words : LegState → List ℕ
leg_state_words leg_state.Fresh = codes "fresh"
leg_state_words leg_state.Waiting = codes "waiting"
leg_state_words leg_state.Admitted = codes "admitted"
leg_state_words (leg_state.Running worker in_call) = codes "running " ++ decimal worker ++ call_words in_call
leg_state_words (leg_state.Ended result tolerated) = codes "ended " ++ outcome_word result ++ tolerated_words tolerated

-- whoever was told to stop
abbrev pub stop_words : Bool → List ℕ
stop_words false = []
stop_words true = codes " stop"

-- the name of a group, as a JSON text
abbrev pub group_words : Option (List ℕ) → List ℕ
group_words None = []
group_words (Some name) = codes " group " ++ compact_text (string name)

-- outputs or variables, as a JSON object of texts
abbrev pub texts_words : List (List ℕ × List ℕ) → List ℕ
texts_words texts = compact_text (map_data string texts)

-- ---- lines

-- `run R STATE`, then ` stop` and ` group NAME` where they hold
abbrev pub run_line : ℕ → Run → List ℕ
run_line r run = codes "run " ++ decimal r ++ codes " " ++ run_state_words run.state ++ stop_words run.stop ++ group_words run.group ++ codes "\n"

-- `job J STATE`
abbrev pub job_line : ℕ → Job → List ℕ
job_line j job = codes "job " ++ decimal j ++ codes " " ++ job_state_words job.state ++ codes "\n"

-- `leg L STATE`, then ` stop` and ` group NAME` where they hold
abbrev pub leg_line : ℕ → Leg → List ℕ
leg_line l leg = codes "leg " ++ decimal l ++ codes " " ++ leg_state_words leg.state ++ stop_words leg.stop ++ group_words leg.group ++ codes "\n"

-- `step S OUTCOME CONCLUSION OUTPUTS`
abbrev pub step_line : ℕ → DoneStep → List ℕ
step_line s step =
    codes "step " ++ decimal s ++ codes " " ++ outcome_word step.outcome ++ codes " " ++ outcome_word step.conclusion ++ codes " " ++ texts_words step.outputs ++ codes "\n"

-- outputs or variables after their word, where there are any
abbrev pub texts_line : List ℕ → List (List ℕ × List ℕ) → List ℕ
texts_line word [] = []
texts_line word (p ∷ ps) = word ++ texts_words (p ∷ ps) ++ codes "\n"

-- `set PAIRS`, where a step has set variables
abbrev pub set_line : List (List ℕ × List ℕ) → List ℕ
set_line env = texts_line (codes "set ") env

-- `out OUTPUTS`, where a leg has any
abbrev pub out_line : List (List ℕ × List ℕ) → List ℕ
out_line outputs = texts_line (codes "out ") outputs

-- `ends L L ..`
abbrev pub ends_line : List ℕ → List ℕ
ends_line ends = codes "ends" ++ flat_map (λ l. codes " " ++ decimal l) ends ++ codes "\n"

-- ---- the text

-- a step: its line, and the variables that it set
abbrev pub step_text : ℕ → DoneStep → List ℕ
step_text s step = step_line s step ++ set_line step.env

-- the steps from place s on
abbrev pub steps_text : ℕ → List DoneStep → List ℕ
steps_text s [] = []
steps_text s (step ∷ steps) = step_text s step ++ steps_text (suc s) steps

abbrev pub leg_text : ℕ → Leg → List ℕ
leg_text l leg = leg_line l leg ++ steps_text 0 leg.steps ++ out_line leg.outputs

-- the legs from number l on
abbrev pub legs_text : ℕ → List Leg → List ℕ
legs_text l [] = []
legs_text l (leg ∷ legs) = leg_text l leg ++ legs_text (suc l) legs

-- the jobs from number j on, whose legs have the numbers from l on
abbrev pub jobs_text : ℕ → ℕ → List Job → List ℕ
jobs_text j l [] = []
jobs_text j l (job ∷ jobs) = job_line j job ++ legs_text l job.legs ++ jobs_text (suc j) (l + length job.legs) jobs

-- how many legs some jobs have
abbrev pub legs_count : List Job → ℕ
legs_count [] = 0
legs_count (job ∷ jobs) = length job.legs + legs_count jobs

-- the runs from number r on, whose jobs have the numbers from j on, and these legs from l on
abbrev pub runs_text : ℕ → ℕ → ℕ → List Run → List ℕ
runs_text r j l [] = []
runs_text r j l (run ∷ runs) =
    run_line r run ++ jobs_text j l run.jobs ++ runs_text (suc r) (j + length run.jobs) (l + legs_count run.jobs) runs

-- the text of a board
abbrev pub board_text : Board → List ℕ
board_text b = runs_text 0 0 0 b.runs ++ ends_line b.ends

-- these words were added to a text
abbrev pub Adds : String Global → String Global → List ℕ → Type 0
Adds old new words = string_bytes new ≡ string_bytes old ++ words
