use Rattle.board_settled.proofs.Decided.{no_call_after_failure}
use Rattle.board_settled.proofs.decision_laws.no_call_after_failure.Goals as goal

pub returns : goal.returns
returns c = no_call_after_failure c.waits_for_success.ensures
