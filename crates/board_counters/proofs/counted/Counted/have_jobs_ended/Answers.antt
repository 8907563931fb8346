use Rattle.std.proofs.Common.{◌==◌, ap, ◌∙◌}
use Rattle.board_counters.specs.Words.{RunTally}
use Rattle.board_counters.proofs.Standings.{ended_told}
use Rattle.board_counters.proofs.counted.Counted.have_jobs_ended.Goals as goal

pub returns : goal.returns
returns c = λ run at going. ap (λ (t : RunTally). t.pending == 0) (c.run_tally.ensures run at) ∙ ended_told run going
