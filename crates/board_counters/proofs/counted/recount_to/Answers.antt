use Rattle.std.proofs.Common.{◌≡◌, true, rules, slice_get}
use Rattle.board_counters.specs.Words.{state_there}
use Rattle.board_counters.proofs.Followed.{came_alike}
use Rattle.board_counters.proofs.counted.recount_to.Goals as goal

pub returns-then-are_alike : goal.returns-then-are_alike
returns-then-are_alike c =
    let is : c.are_alike.result ≡ true = search rules in
    came_alike c.args.turn.place c.args.turn.was c.args.turn.is (state_there c.args.board.now c.args.turn.place) (slice_get c.args.board.now.runs c.args.turn.place.run) c.args.lasting.now.dependents c.args.counts.now c.requires (λ t. c.are_alike.ensures t is)
