use Rattle.std.proofs.Common.{refl, ap, sym}
use Rattle.flat_board.specs.Words.{is_going, job_seen}
use Rattle.flat_board.proofs.Reached.{judge_accepted}
use Rattle.flat_board.proofs.moves.judges.Goals as goal

pub returns-in-Going-Unjudged : goal.returns-in-Going-Unjudged
returns-in-Going-Unjudged c =
    let at = job_seen c.in-Some.at in
    let p = c.args.state.now.plan in
    let b = c.args.state.now.board in
    let found = sym c.in-Some.ensures in
    judge_accepted p b c.args.number at c.have_needs_ended.result found c.in-Going-Unjudged.is-0 c.in-Going-Unjudged.is-1
    (sym (c.have_needs_ended.ensures c.args.number at c.requires found refl (ap is_going c.in-Going-Unjudged.is-0)))
