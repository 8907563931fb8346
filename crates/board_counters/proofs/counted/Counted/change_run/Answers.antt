use Rattle.board_counters.proofs.Followed.{run_counted}
use Rattle.board_counters.proofs.counted.Counted.change_run.Goals as goal

pub invariant_of-self : goal.invariant_of-self
invariant_of-self c =
    run_counted c.self.inside.plan c.self.inside.board c.exchange_run_at-how.new.board c.args.place c.args.how c.self.inside.counts c.self.inside.failing c.self.inside.lasting c.self.invariant
    c.exchange_run_at-how.ensures.board
