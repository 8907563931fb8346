use Rattle.std.proofs.Common.{length, sum_by, ap, refl, arith}
use Rattle.status_table.specs.Words.{Board, Run, board_legs}
use Rattle.status_table.proofs.Accepting.{legs_counted}
use Rattle.status_table.proofs.InPlay.{few_in_play}
use Rattle.worker_pool.proofs.many.make_room.Goals as goal

-- a board in play has no more legs than a plan may have
pub count_legs-legs-requires : goal.count_legs-legs-requires
count_legs-legs-requires g c =
    let plan = g.T.Table.plan c.args.table.now in
    let board = g.T.Table.board c.args.table.now in
    let in_play = c.lend.ensures.in_play in
    let few = few_in_play plan plan board refl ((c.rules_hold.ensures plan).0 in_play.rules) in_play in
    let lent = ap (λ (b : Board). length (board_legs b)) c.lend.ensures.board in
    let counted = legs_counted c.lend.result.now in
    let same = ap (sum_by (λ (run : Run). sum_by (λ job. length job.legs) run.jobs)) c.as_slice.ensures in
    omega (arith, same, counted, lent, few)
