-- The lines that tell how runs ended.
use Rattle.std.specs.Prelude.{ℕ, suc, List, [], ◌∷◌, ◌++◌, codes, decimal}
use Rattle.status_table.specs.Words.{Run, RunState, outcome_word}
use Rattle.flow_model.specs.declared.board.RunState.TheVariants.{New, Waiting, Going, Closed}

-- how a run ended, or that nothing goes on
abbrev pub state_word : RunState → List ℕ
state_word New = codes "stalled"
state_word Waiting = codes "stalled"
state_word Going = codes "stalled"
state_word (Closed outcome) = outcome_word outcome

abbrev pub run_line : ℕ → RunState → List ℕ
run_line n state = codes "run " ++ (decimal n ++ (codes " " ++ (state_word state ++ codes "\n")))

-- The lines of runs, of which the first has this number.
abbrev pub run_lines : ℕ → List Run → List ℕ
run_lines n [] = []
run_lines n (run ∷ runs) = run_line n run.state ++ run_lines (suc n) runs
