use Rattle.std.proofs.Common.{List, ℕ, subst, sym}
use Rattle.std.proofs.lemmas.Result.{IfOk-weaker}
use Rattle.status_table.specs.Words.{Run}
use Rattle.command_graph.proofs.LabelLaws.{graph_has_strings}
use Rattle.command_graph.specs.Labels.{HasStrings, graph_strings}
use Rattle.command_graph.proofs.dot.board_graph.Goals as goal

pub returns-clause-strings : goal.returns-clause-strings
returns-clause-strings c =
    let plan = c.args.plan.now in
    let lent = c.as_slice.result.now in
    IfOk-weaker c.graph_text.result _ _
    (λ text is. subst (λ (states : List Run). HasStrings (graph_strings plan states) text.items) c.as_slice.ensures
    (subst (λ (bytes : List ℕ). HasStrings (graph_strings plan lent) bytes) (sym is) (graph_has_strings plan lent))) c.graph_text.ensures
