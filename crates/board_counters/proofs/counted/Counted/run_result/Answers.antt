use Rattle.std.proofs.Common.{◌∙◌}
use Rattle.board_counters.specs.Words.{told_result}
use Rattle.board_counters.proofs.Standings.{result_told}
use Rattle.board_counters.proofs.counted.Counted.run_result.Goals as goal

pub returns : goal.returns
returns c = λ run at going same. c.result.ensures ∙ (λ i. told_result (same i) (c.run_tally.ensures run at i)) ∙ result_told run going
