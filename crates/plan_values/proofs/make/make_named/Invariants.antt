use Rattle.std.proofs.Common.{◌≡◌, drop}
use Rattle.expr_reader.specs.TemplateView.{template_of}
use Rattle.expr_reader.specs.declared.tree.Context.{Context}
use Rattle.expr_value.specs.Named.{pieces_name_context}
use Rattle.plan_values.specs.Known.{IsKnownOf, known_env, made_all}
use Rattle.plan_values.specs.Values.{Values, with_env}
use Rattle.plan_values.proofs.make.make_named.Given as goal

abbrev pub invariant-loop-context : goal.invariant-loop-context
invariant-loop-context g l =
    let values : Values = with_env (known_env l.initial.known) (g.S.Scene.values l.scene) in
    (made_all (λ (x : Context). pieces_name_context x (template_of l.template)) values (drop l.context-index l.contexts) l.known ≡ made_all (λ (x : Context). pieces_name_context x (template_of l.template)) values l.contexts l.initial.known)
    × (known_env l.known ≡ known_env l.initial.known) × IsKnownOf (g.S.Scene.values l.scene) l.known
