-- What is true of each plan in play.
use Rattle.plan_values.specs.Words.{Board, IsPlan, Plan}
use Rattle.status_table.specs.Ends.{EndOnce}
use Rattle.status_table.specs.Lawful.{Lawful}
use Rattle.status_table.specs.Shape.{HasShape}

-- No rule of the plan is broken, the board has its shape, its ends are the legs that are Ended, each once,
-- and it is as legal lists leave it.
pub record InPlay (p : Plan) (b : Board) : Type 0 where
  pub rules : IsPlan p
  pub shape : HasShape p b
  pub ends : EndOnce b
  pub laws : Lawful p b
