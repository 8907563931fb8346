use Rattle.std.proofs.Common.{Option, sym, subst}
use Rattle.std.proofs.lemmas.Bool.{true≢false}
use Rattle.std.proofs.lemmas.Result.{IfOk-weaker}
use Rattle.board_settled.specs.Words.{Leg, StepsCome, job_seen, planned}
use Rattle.board_settled.proofs.Loops.{through}
use Rattle.board_settled.proofs.LegSteps.{unended, ends_settled}
use Rattle.board_settled.proofs.leg.is_leg_settled.Goals as goal

pub returns-in_default : goal.returns-in_default
returns-in_default g c = λ answers are.
    let spot = planned c.args.spot.now.number (job_seen c.args.spot.now.at.now) c.args.spot.now.place in (
      (λ h. absurd (true≢false (sym h))),
      (λ settled. absurd (unended answers spot c.args.leg.now (subst (λ (o : Option Leg). StepsCome answers spot o) c.in_default.is (c.in_ok-played.ensures answers are)) settled)),
    )

pub returns : goal.returns
returns g c =
    IfOk-weaker c.ends_as.result _ _ (λ yes h answers are.
    let spot = planned c.args.spot.now.number (job_seen c.args.spot.now.at.now) c.args.spot.now.place in
    let come = subst (λ (o : Option Leg). StepsCome answers spot o) c.in-Some.is (c.in_ok-played.ensures answers are) in
    through h (ends_settled answers c.args.spot.now.number (job_seen c.args.spot.now.at.now) c.args.spot.now.place c.in-Some.played c.requires come c.args.leg.now)) c.ends_as.ensures
