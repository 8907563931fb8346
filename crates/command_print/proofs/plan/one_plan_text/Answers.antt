use Rattle.std.proofs.Common.{ap, sym, ◌∙◌}
use Rattle.command_print.specs.Plan.{plan_line}
use Rattle.command_print.proofs.OneAnswer.{same_plan}
use Rattle.command_print.proofs.plan.one_plan_text.Goals as goal

pub returns : goal.returns
returns c = λ choice contexts flows a b x y. x.2.line ∙ ap plan_line (same_plan c.one_plan.ensures choice contexts flows x.0 y.0 x.1 y.1) ∙ sym y.2.line
