use Rattle.std.proofs.Common.{◌≡◌, true, rules, slice_get}
use Rattle.board_counters.proofs.Followed.{alike_recounted}
use Rattle.board_counters.proofs.counts.recount_leg.Goals as goal

pub returns-then-are_alike : goal.returns-then-are_alike
returns-then-are_alike c =
    let is : c.are_alike.result ≡ true = search rules in
    alike_recounted c.args.turn.place c.args.turn.was c.args.turn.is (slice_get c.args.board.now.runs c.args.turn.place.run) c.args.lasting.now.dependents c.args.counts.now (λ t. c.are_alike.ensures t is)
