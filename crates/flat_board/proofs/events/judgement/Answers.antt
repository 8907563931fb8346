use Rattle.std.proofs.Common.{◌≡◌, ℕ, true, false, Ok, refl, ap, sym, subst, ◌∙◌}
use Rattle.flat_board.specs.Words.{Gives, JobState, StandsAfterNeeds, Status, first_of, is_going, job_condition, job_seen, job_status}
use Rattle.flat_board.proofs.Reached.{judged_by}
use Rattle.status_table.proofs.Sound.{stands_after_needs}
use Rattle.flat_board.proofs.events.judgement.Goals as goal

pub returns-then-not-have_needs_ended : goal.returns-then-not-have_needs_ended
returns-then-not-have_needs_ended c =
    let at = job_seen c.args.at.now in
    let ended = c.have_needs_ended.ensures c.args.number at c.requires.play c.requires.found refl (ap is_going c.in-Going-Unjudged.is-0) in
    judged_by c.args.number at false c.in-Going-Unjudged.is-0 c.in-Going-Unjudged.is-1 (sym ended ∙ c.if-not-have_needs_ended.true)

pub job_status_kept-requires-clause-stands : goal.job_status_kept-requires-clause-stands
job_status_kept-requires-clause-stands c =
    subst (λ (first : ℕ). StandsAfterNeeds first (job_seen c.args.at.now)) (sym c.saturating_sub-first.ensures)
    (stands_after_needs c.args.state.now.plan c.args.state.now.board c.args.number (job_seen c.args.at.now) c.requires.play c.requires.found)

pub returns : goal.returns
returns c =
    let at = job_seen c.args.at.now in
    let ended = c.have_needs_ended.ensures c.args.number at c.requires.play c.requires.found refl (ap is_going c.in-Going-Unjudged.is-0) in
    let status : c.in_ok-status.status ≡ job_status (first_of c.args.number at) at = c.in_ok-status.ensures ∙ ap (λ (first : ℕ). job_status first at) c.saturating_sub-first.ensures in
    let gives = subst (λ (s : Status). Gives (λ holds. holds) c.job_condition.result (job_condition at s)) status c.job_condition.ensures in
    judged_by c.args.number at true c.in-Going-Unjudged.is-0 c.in-Going-Unjudged.is-1 (sym ended ∙ c.if-not-have_needs_ended.false)
    ∙ ap (λ (x : JobState). Ok x) (sym (c.in_ok-judged_state.ensures (job_condition at (job_status (first_of c.args.number at) at)) gives))
