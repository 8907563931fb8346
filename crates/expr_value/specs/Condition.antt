-- Whether a condition holds (GitHub Docs, "Evaluate expressions in workflows and actions": status check
-- functions).
use Rattle.std.specs.Prelude.{Bool, false, ◌||◌, if◌then◌else◌, Result, Ok, Err, List}
use Rattle.expr_reader.specs.Template.{Piece, names_status}
use Rattle.expr_value.specs.Context.{Contexts}
use Rattle.expr_value.specs.Evaluate.{Answer, is_truthy}
use Rattle.expr_value.specs.Functions.{is_success}
use Rattle.expr_value.specs.Template.{template_value}
use Rattle.expr_value.specs.declared.status.Status.{Status}
use Rattle.flow_model.specs.declared.reply.ValueFault.{ValueFault}

-- The truth of a value, or the fault.
abbrev pub truth_value : Answer → Result Bool ValueFault
truth_value (Ok v) = Ok (is_truthy v)
truth_value (Err fault) = Err fault

-- One that names no status function is `success() && (condition)`, so it is not evaluated where the status is not
-- success.
abbrev pub condition_holds : Contexts → Status → List Piece → Result Bool ValueFault
condition_holds c s ps = if names_status ps || is_success s then truth_value (template_value c s ps) else Ok false
