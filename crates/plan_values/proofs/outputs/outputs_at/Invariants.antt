use Rattle.std.proofs.Common.{◌≡◌, []}
use Rattle.expr_value.specs.Context.{Contexts}
use Rattle.flow_model.specs.Mapping.{pairs_of}
use Rattle.plan_values.specs.Known.{IsKnownOf, known_env}
use Rattle.plan_values.specs.Values.{with_env, contexts_at}
use Rattle.plan_values.proofs.Onto.{outputs_onto}
use Rattle.plan_values.proofs.outputs.outputs_at.Given as goal

abbrev pub invariant-loop-name : goal.invariant-loop-name
invariant-loop-name g l =
    let contexts : Contexts = contexts_at l.place (with_env (known_env l.initial.known) (g.S.Scene.values l.scene)) in
    (outputs_onto contexts (pairs_of l.name-iterator) l.made ≡ outputs_onto contexts l.outputs []) × (known_env l.known ≡ known_env l.initial.known) × IsKnownOf (g.S.Scene.values l.scene) l.known
