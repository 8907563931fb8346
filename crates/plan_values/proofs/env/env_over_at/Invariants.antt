use Rattle.std.proofs.Common.{◌≡◌}
use Rattle.expr_value.specs.Context.{Contexts}
use Rattle.flow_model.specs.Mapping.{pairs_of}
use Rattle.plan_values.specs.Known.{IsKnownOf, known_env}
use Rattle.plan_values.specs.Values.{with_env, contexts_at}
use Rattle.plan_values.proofs.Onto.{env_onto}
use Rattle.plan_values.proofs.env.env_over_at.Given as goal

abbrev pub invariant-loop-name : goal.invariant-loop-name
invariant-loop-name g l =
    let contexts : Contexts = contexts_at l.place (with_env (known_env l.initial.known) (g.S.Scene.values l.scene)) in
    (env_onto contexts (pairs_of l.name-iterator) l.made ≡ env_onto contexts l.env l.fn.below) × (known_env l.known ≡ known_env l.initial.known) × IsKnownOf (g.S.Scene.values l.scene) l.known
