-- The matrix and the strategy that a JSON value stands for.
use Rattle.std.specs.Prelude.{ℕ, List, [], codes, Option, None, unwrap_or, Ok, Bool, true, not, ⊤}
use Rattle.serde_json.specs.Data.{Data}
use Rattle.flow_model.specs.Flow.{is_matrix_key}
use Rattle.flow_model.specs.Plain.{Plain}
use Rattle.flow_model.specs.declared.plan.Matrix.{Matrix}
use Rattle.flow_reader.specs.Checked.{Checked, both, made, spelled, spelled_in, in_object, of_members, list_of, pairs_checked}
use Rattle.flow_reader.specs.Parts.{truth_of, limit_of, plain_of, properties_of}
use Rattle.flow_reader.specs.declared.strategy.Strategy.{Strategy}

-- a variable of a matrix, with its values
abbrev pub matrix_variable_at : List ℕ → Data → Checked (List Plain)
matrix_variable_at name d = spelled_in (list_of plain_of) name d

-- the keys of a matrix that are variables
abbrev pub is_variable_key : List ℕ → Bool
is_variable_key key = not (is_matrix_key key)

-- the variables of a matrix
unfoldable pub matrix_variables_of : Data → Checked (List (List ℕ × List Plain))
matrix_variables_of d = of_members (pairs_checked is_variable_key matrix_variable_at) d

-- the entries of a matrix, none where they are missing
abbrev pub MatrixEntries : Type 0
MatrixEntries = List (List (List ℕ × Plain))

abbrev pub matrix_from : List (List ℕ × List Plain) × (Option MatrixEntries × (Option MatrixEntries × ⊤)) → Matrix
matrix_from (variables, (exclude, (include, _))) = record { variables = variables; exclude = unwrap_or exclude []; include = unwrap_or include [] }

-- a matrix
unfoldable pub matrix_of : Data → Checked Matrix
matrix_of d =
    made matrix_from (both (matrix_variables_of d) (in_object (λ o. both (spelled (list_of properties_of) (codes "exclude") o)
    (both (spelled (list_of properties_of) (codes "include") o) (Ok tt))) d))

-- the strategy where none is named
abbrev pub no_strategy : Strategy
no_strategy = record { fail_fast = true; matrix = None; max_parallel = None }

abbrev pub strategy_from : Option Bool × (Option Matrix × (Option ℕ × ⊤)) → Strategy
strategy_from (fail_fast, (matrix, (max_parallel, _))) = record { fail_fast = unwrap_or fail_fast true; matrix = matrix; max_parallel = max_parallel }

-- a strategy
unfoldable pub strategy_of : Data → Checked Strategy
strategy_of d =
    made strategy_from (in_object (λ o. both (spelled truth_of (codes "fail-fast") o) (both (spelled matrix_of (codes "matrix") o)
    (both (spelled limit_of (codes "max-parallel") o) (Ok tt)))) d)
