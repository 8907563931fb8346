use Rattle.std.proofs.Common.{◌≡◌, ◌↔◌, IsTrue, rules, sym, ◌∙◌}
use Rattle.std.proofs.lemmas.Result.{IfOk-weaker}
use Rattle.board_settled.specs.Words.{JobState, job_seen, job_settled, legs_settled, needs_value}
use Rattle.board_settled.proofs.Loops.{through}
use Rattle.board_settled.proofs.Jobs.{judged_stands, open_settled, shut_settled}
use Rattle.board_settled.proofs.job.is_job_settled.Goals as goal

pub returns-in-Open : goal.returns-in-Open
returns-in-Open g c =
    IfOk-weaker c.is_open_settled.result _ _ (λ yes h answers are before sees.
    let at = c.args.at.now in
    let is = judged_stands answers c.args.first_job c.args.first_leg before (job_seen at) sees c.requires.goes JobState.Open (sym c.in_ok-judged.ensures ∙ c.in-Open.is) in
    through (h answers are) (open_settled (job_settled answers at.run_plan.now c.args.first_leg before at.plan.now)
    (legs_settled answers at.run_plan.now at.plan.now (needs_value (job_seen at)) c.args.first_leg) at.job.now is)) c.is_open_settled.ensures

pub returns-in-Shut : goal.returns-in-Shut
returns-in-Shut g c = λ answers are before sees.
    let at = c.args.at.now in
    let is = judged_stands answers c.args.first_job c.args.first_leg before (job_seen at) sees c.requires.goes (JobState.Shut c.in-Shut.how) (sym c.in_ok-judged.ensures ∙ c.in-Shut.is) in
    let told : IsTrue c.eq.result ↔ (at.job.now.state ≡ JobState.Shut c.in-Shut.how) = search rules in
    through told (shut_settled (job_settled answers at.run_plan.now c.args.first_leg before at.plan.now) c.in-Shut.how at.job.now is)
