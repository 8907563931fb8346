use Rattle.std.proofs.Common.{◌≡◌, Bool, Result, subst}
use Rattle.expr_reader.specs.TemplateView.{template_of}
use Rattle.expr_reader.specs.declared.tree.Context.{Context}
use Rattle.expr_value.specs.Answer.{Gives}
use Rattle.expr_value.specs.Condition.{condition_holds}
use Rattle.flow_model.specs.declared.reply.ValueFault.{ValueFault}
use Rattle.expr_value.specs.Named.{pieces_name_context}
use Rattle.plan_values.specs.Known.{known_env, made_all, contexts_made}
use Rattle.plan_values.specs.Places.{seen_at}
use Rattle.plan_values.specs.Values.{Values, with_env, contexts_at}
use Rattle.plan_values.specs.declared.known.Known.{Known}
use Rattle.plan_values.proofs.Sighting.{made_agree}
use Rattle.plan_values.proofs.evaluate.condition_read_at.Goals as goal

pub returns-clause-value : goal.returns-clause-value
returns-clause-value g c =
    let pieces = template_of c.args.template.now in
    let named : Context → Bool = λ x. pieces_name_context x (template_of c.args.template.now) in
    let values : Values = with_env (known_env c.args.known.now) (g.S.Scene.values c.args.scene.now) in
    let made : Known = made_all named values (seen_at c.args.place) c.args.known.now in
    let alike : condition_holds (contexts_made c.args.place made) c.args.status pieces ≡ condition_holds (contexts_at c.args.place values) c.args.status pieces =
    c.condition_by_its_contexts.ensures (contexts_made c.args.place made) (contexts_at c.args.place values) c.args.status pieces (made_agree named values c.args.place c.args.known.now c.requires.each) in
    subst (λ (m : (Result Bool ValueFault)). Gives (λ v. v) c.eval_condition.result m) alike
    (subst (λ (k : Known). Gives (λ v. v) c.eval_condition.result (condition_holds (contexts_made c.args.place k) c.args.status pieces)) c.in_ok-make_named.ensures.ok c.eval_condition.ensures)
