use Rattle.board_settled.proofs.Called.{calls_are_in_order, calls_are_most_specific}
use Rattle.board_settled.proofs.call_laws.calls_are_in_order.Goals as goal

pub returns-clause-order : goal.returns-clause-order
returns-clause-order c = calls_are_in_order c.env_has_its_names.ensures c.levels_stay_in_order.ensures

pub returns-clause-levels : goal.returns-clause-levels
returns-clause-levels c = calls_are_most_specific c.env_has_its_names.ensures
