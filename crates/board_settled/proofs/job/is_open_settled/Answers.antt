use Rattle.std.proofs.Common.{◌≡◌, ◌↔◌, IsTrue, List, rules, subst}
use Rattle.board_settled.specs.Words.{AllZip, JobState, Leg, LegIsSettled, job_seen, legs_settled, needs_value}
use Rattle.std.proofs.lemmas.Result.{IfOk-weaker}
use Rattle.board_settled.proofs.job.is_open_settled.Goals as goal

-- what a job needs is not told by its own state
pub returns : goal.returns
unfolding needs_value
returns g c =
    let opened : c.args.at.now.job.now.state ≡ JobState.Open = search rules in
    IfOk-weaker c.are_legs_settled.result _ _ (λ yes h answers are.
    let at = c.args.at.now in
    let same = subst (λ (legs : List Leg). IsTrue yes ↔ AllZip LegIsSettled (legs_settled answers at.run_plan.now at.plan.now (needs_value (job_seen at)) c.args.first) legs) c.as_slice.ensures (h answers are) in
    (λ t. record { state = opened; legs = same.0 t }, λ s. same.1 s.legs)) c.are_legs_settled.ensures
