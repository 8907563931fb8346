use Rattle.std.proofs.Common.{◌≡◌, ℕ, true, Some, sym, subst, ◌∙◌}
use Rattle.board_counters.specs.Words.{InPlay, JobAt, Play, first_of, is_going, job_at, needs_have_ended, needs_none, needs_there}
use Rattle.board_counters.proofs.Ended.{needs_told}
use Rattle.board_counters.proofs.counted.Counted.have_needs_ended.Goals as goal

pub returns : goal.returns
returns c =
    let needed = c.as_slice.ensures ∙ c.self.invariant.counted.needed in
    subst (λ (s : Play). (n : ℕ) (at : JobAt) → InPlay s.plan s.board → job_at s.plan s.board n ≡ Some at → at.place ≡ c.args.place → is_going at.run.state ≡ true
    → c.needs_none_at.result ≡ needs_have_ended (first_of n at) at.run at.plan) c.self.view_is
    (λ n at play is same going.
    c.needs_none_at.ensures
    ∙ (λ i. needs_none (needs_there (needed i) (sym same i)))
    ∙ needs_told c.needs_point_back.ensures c.self.inside.plan c.self.inside.board n at play is going)
