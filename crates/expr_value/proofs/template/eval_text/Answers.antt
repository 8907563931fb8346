use Rattle.std.proofs.Common.{subst}
use Rattle.expr_reader.specs.TemplateView.{template_of}
use Rattle.expr_value.proofs.Statuses.{template_alike}
use Rattle.expr_value.specs.Answer.{Gives}
use Rattle.expr_value.specs.Evaluate.{Answer}
use Rattle.expr_value.specs.declared.status.Status.TheVariants.{Success}
use Rattle.flow_model.specs.Plain.{Plain}
use Rattle.expr_value.proofs.template.eval_text.Goals as goal

-- The value under Success is that under every status.
pub returns : goal.returns
returns g c = λ s. subst (λ (meaning : Answer). Gives (λ (v : Plain). v) c.owned_value.result meaning) (template_alike (g.C.Context.contexts c.args.contexts.now) Success s (template_of c.args.template.now) c.requires) c.owned_value.ensures
