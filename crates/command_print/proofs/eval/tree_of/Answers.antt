use Rattle.std.proofs.Common.{Err, sym, subst}
use Rattle.command_print.proofs.Expressions.{tree_fault}
use Rattle.command_print.specs.Eval.{IsTree}
use Rattle.command_io.specs.declared.error.CommandError.{CommandError}
use Rattle.command_print.proofs.eval.tree_of.Goals as goal

pub returns-in-Err : goal.returns-in-Err
returns-in-Err c =
    subst (λ (error : CommandError). IsTree c.args.expression.now (Err error)) (sym c.expression_error.ensures)
    (tree_fault c.args.expression.now c.in-Err.fault c.in-Err.ensures.only c.in-Err.ensures.stands)
