use Rattle.std.proofs.Common.{sym}
use Rattle.status_table.specs.Words.{job_seen}
use Rattle.status_table.proofs.Sound.{stands_after_needs}
use Rattle.status_table.proofs.events.judge.Goals as goal

pub judgement-requires : goal.judgement-requires
judgement-requires c = stands_after_needs c.args.plan.now c.args.board.now c.args.number (job_seen c.in-Some.at) c.requires (sym c.in-Some.ensures)
