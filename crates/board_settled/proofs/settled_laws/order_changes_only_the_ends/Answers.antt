use Rattle.board_settled.proofs.Agreeing.{only_ends_differ}
use Rattle.board_settled.proofs.settled_laws.order_changes_only_the_ends.Goals as goal

pub returns : goal.returns
returns c = only_ends_differ c.needs_point_back.ensures c.rules_hold.ensures
