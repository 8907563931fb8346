-- A plan in play.
use Rattle.plan_values.specs.Words.{Board, Plan}

-- a plan, and how far it is
pub record Play : Type 0 where
  pub plan : Plan
  pub board : Board
