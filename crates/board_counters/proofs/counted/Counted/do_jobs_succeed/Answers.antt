use Rattle.std.proofs.Common.{◌==◌, ap, ◌∙◌}
use Rattle.board_counters.specs.Words.{RunTally}
use Rattle.board_counters.proofs.Standings.{success_told}
use Rattle.board_counters.proofs.counted.Counted.do_jobs_succeed.Goals as goal

pub returns : goal.returns
returns c = λ run at going. ap (λ (t : RunTally). t.unsuccessful == 0) (c.run_tally.ensures run at) ∙ success_told run going
