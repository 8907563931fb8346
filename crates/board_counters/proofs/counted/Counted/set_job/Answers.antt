use Rattle.std.proofs.Common.{ap, slice_get, ◌∙◌}
use Rattle.board_counters.specs.Words.{standing_read}
use Rattle.board_counters.proofs.Followed.{job_counted}
use Rattle.board_counters.proofs.counted.Counted.set_job.Goals as goal

pub invariant_of-self : goal.invariant_of-self
invariant_of-self c =
    job_counted c.self.inside.plan c.self.inside.board c.set_job_state.new.board c.args.place c.args.state c.standing_at-before.result c.standing_at-after.result c.self.inside.counts c.recount_job.new.counts
    c.self.inside.failing c.self.inside.lasting c.self.invariant c.set_job_state.ensures
    (c.standing_at-before.ensures ∙ ap (λ ts. standing_read (slice_get c.self.inside.board.runs c.args.place.run) (slice_get ts c.args.place.run) c.args.place.job) c.as_slice.ensures)
    (c.standing_at-after.ensures ∙ ap (λ ts. standing_read (slice_get c.set_job_state.new.board.runs c.args.place.run) (slice_get ts c.args.place.run) c.args.place.job) c.as_slice-2.ensures)
    c.recount_job.ensures.tallies c.recount_job.ensures.legs c.recount_job.ensures.runs c.recount_job.ensures.needs
