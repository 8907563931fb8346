use Rattle.std.proofs.Common.{◌≡◌, map, drop}
use Rattle.plan_values.specs.Words.{IsKnownOf, known_env}
use Rattle.board_decisions.specs.Contexts.{overlaid}
use Rattle.board_decisions.specs.Scenes.{leg_scene}
use Rattle.board_decisions.proofs.decisions.know_set.Given as goal

-- What the steps that are left set, over what was laid, is what all set over what there was.
abbrev pub invariant-loop-done : goal.invariant-loop-done
invariant-loop-done l = record {
  left : overlaid (map (λ step. step.env) (drop l.done-index l.steps)) (known_env l.known)
      ≡ overlaid (map (λ step. step.env) l.steps) (known_env l.initial.known);
  known : IsKnownOf (leg_scene l.at) l.known;
}
