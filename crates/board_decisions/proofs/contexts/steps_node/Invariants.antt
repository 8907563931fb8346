use Rattle.std.proofs.Common.{◌≡◌, [], drop}
use Rattle.std.specs.List.{filter_map, zip}
use Rattle.plan_values.specs.Words.{laid_over, viewed}
use Rattle.board_decisions.specs.Contexts.{step_pair}
use Rattle.board_decisions.proofs.contexts.steps_node.Given as goal

-- The steps that are left, over those that were set, are all.
abbrev pub invariant-loop-place : goal.invariant-loop-place
invariant-loop-place l =
    laid_over (filter_map step_pair (zip (drop l.place l.plans) (drop l.place l.steps))) (viewed l.made)
    ≡ laid_over (filter_map step_pair (zip l.plans l.steps)) []
