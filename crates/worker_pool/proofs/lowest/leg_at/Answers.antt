use Rattle.std.proofs.Common.{◌∙◌}
use Rattle.worker_pool.proofs.lowest.leg_at.Goals as goal

pub returns : goal.returns
returns c = c.numbered_leg.ensures ∙ (c.numbers_are_places.ensures.legs c.args.board.now).there c.args.place
