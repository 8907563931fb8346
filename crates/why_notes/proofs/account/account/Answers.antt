use Rattle.std.proofs.Common.{subst}
use Rattle.status_table.specs.Words.{Play, StopsAt}
use Rattle.why_notes.proofs.account.account.Goals as goal

pub returns-in-Err-clause-accounts : goal.returns-in-Err-clause-accounts
returns-in-Err-clause-accounts c = λ named. (
  c.play_all.new.table.board,
  subst (λ (play : Play). StopsAt c.args.plan.now play.board c.args.entries.now c.in-Err.stop.0 c.in-Err.stop.1 c.play_all.new.table.board)
      c.in-Ok.ensures c.in-Err.ensures.runs,
)
