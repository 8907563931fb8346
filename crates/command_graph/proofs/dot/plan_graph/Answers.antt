use Rattle.std.proofs.Common.{List, ℕ, [], subst, sym}
use Rattle.std.proofs.lemmas.Result.{IfOk-weaker}
use Rattle.command_graph.proofs.LabelLaws.{graph_has_strings}
use Rattle.command_graph.specs.Labels.{HasStrings, graph_strings}
use Rattle.command_graph.proofs.dot.plan_graph.Goals as goal

pub returns-clause-strings : goal.returns-clause-strings
returns-clause-strings c =
    let plan = c.args.plan.now in
    IfOk-weaker c.graph_text.result _ _
    (λ text is. subst (λ (bytes : List ℕ). HasStrings (graph_strings plan []) bytes) (sym is) (graph_has_strings plan [])) c.graph_text.ensures
