use Rattle.std.proofs.Common.{sym}
use Rattle.status_table.specs.Words.{job_seen}
use Rattle.why_notes.proofs.changes.add_judge.Goals as goal
use Rattle.status_table.proofs.Sound.{stands_after_needs}

pub judged_fact-requires : goal.judged_fact-requires
judged_fact-requires c = stands_after_needs c.args.plan.now c.args.board.now c.args.number (job_seen c.in-Some.at) c.requires (sym c.in-Some.ensures)
