use Rattle.std.proofs.Common.{◌≡◌, Bool, subst}
use Rattle.expr_reader.specs.TemplateView.{template_of}
use Rattle.expr_reader.specs.declared.tree.Context.{Context}
use Rattle.expr_value.specs.Answer.{Gives}
use Rattle.expr_value.specs.Evaluate.{Answer}
use Rattle.expr_value.specs.Template.{template_value}
use Rattle.expr_value.specs.declared.status.Status.TheVariants.{Success}
use Rattle.expr_value.specs.Named.{pieces_name_context}
use Rattle.plan_values.specs.Known.{known_env, made_all, contexts_made}
use Rattle.plan_values.specs.Places.{seen_at}
use Rattle.plan_values.specs.Values.{Values, with_env, contexts_at}
use Rattle.plan_values.specs.declared.known.Known.{Known}
use Rattle.plan_values.proofs.Sighting.{made_agree}
use Rattle.plan_values.proofs.evaluate.template_at.Goals as goal

pub returns-clause-value : goal.returns-clause-value
returns-clause-value g c =
    let pieces = template_of c.args.template.now in
    let named : Context → Bool = λ x. pieces_name_context x (template_of c.args.template.now) in
    let values : Values = with_env (known_env c.args.known.now) (g.S.Scene.values c.args.scene.now) in
    let made : Known = made_all named values (seen_at c.args.place) c.args.known.now in
    let alike : template_value (contexts_made c.args.place made) Success pieces ≡ template_value (contexts_at c.args.place values) Success pieces =
    c.template_by_its_contexts.ensures (contexts_made c.args.place made) (contexts_at c.args.place values) Success pieces (made_agree named values c.args.place c.args.known.now c.requires.known.each) in
    subst (λ (m : Answer). Gives (λ v. v) c.eval_text.result m) alike
    (subst (λ (k : Known). Gives (λ v. v) c.eval_text.result (template_value (contexts_made c.args.place k) Success pieces)) c.in_ok-make_named.ensures.ok (c.eval_text.ensures Success))
