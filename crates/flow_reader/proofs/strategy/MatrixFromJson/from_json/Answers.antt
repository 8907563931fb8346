use Rattle.std.proofs.lemmas.Result.{err_from_is_err_and}
use Rattle.serde_json.specs.View.{view}
use Rattle.flow_reader.specs.Strategy.{matrix_of, matrix_from, matrix_variables_of}
use Rattle.flow_reader.proofs.Faults.{stands_made, stands_left, stands_right}
use Rattle.flow_reader.proofs.strategy.MatrixFromJson.from_json.Goals as goal

pub returns-in_err-variables : goal.returns-in_err-variables
unfolding matrix_of
returns-in_err-variables c =
    let p = err_from_is_err_and c.from_residual.result c.from_residual.ensures.1 in
    rw (p.1, p.2) (stands_made matrix_from _ c.in_err-variables.field-0.0
    (stands_left (matrix_variables_of (view c.args.json.now)) _ c.in_err-variables.field-0.0 c.in_err-variables.ensures))

pub returns-in_err-parts : goal.returns-in_err-parts
unfolding matrix_of
returns-in_err-parts c =
    let p = err_from_is_err_and c.from_residual-in_err-parts.result c.from_residual-in_err-parts.ensures.1 in
    rw (p.1, p.2) (stands_made matrix_from _ c.in_err-parts.field-0.0
    (stands_right (matrix_variables_of (view c.args.json.now)) _ c.in_err-parts.field-0.0 c.in_err-parts.ensures))
