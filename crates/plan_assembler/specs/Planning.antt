-- What a planner keeps.
use Rattle.std.specs.Prelude.{List}
use Rattle.flow_model.specs.declared.flow.Workflow.{Workflow}
use Rattle.flow_model.specs.declared.plan.Roots.{Roots}

-- the workflows in the order in which they were handed in, and the contexts
pub record Planning : Type 0 where
  pub flows : List Workflow
  pub roots : Roots
