-- What stands where a job or a leg is found.
use Rattle.std.proofs.Common.{◌≡◌, ℕ, Some, slice_get, refl, ap, subst, sym, ◌∙◌}
use Rattle.status_table.specs.Words.{Board, Job, JobAt, JobPlace, JobPlan, Leg, LegAt, LegPlace, Plan, RunAt, board_legs, job_at, job_place, job_placed, leg_at, leg_place, leg_there, run_at, ◌>>=◌}
use Rattle.status_table.proofs.Lists.{bind-some}
use Rattle.board_decisions.proofs.Lists.{same_some}
use Rattle.status_table.proofs.Numbers.{legs_are_numbered}

pub record RunStands (p : Plan) (b : Board) (n : ℕ) (at : RunAt) : Type 0 where
  pub plan : slice_get p.runs n ≡ Some at.plan
  pub run : slice_get b.runs n ≡ Some at.run

pub run_stands : (p : Plan) (b : Board) (n : ℕ) (at : RunAt) → run_at p b n ≡ Some at → RunStands p b n at
run_stands p b n at h =
    let plan = bind-some (slice_get p.runs n) (λ plan. slice_get b.runs n >>= λ run. Some (record { board = b; plan = plan; run = run })) at h in
    let run = bind-some (slice_get b.runs n) (λ run. Some (record { board = b; plan = plan.0; run = run })) at plan.2 in
    let same : record { board = b; plan = plan.0; run = run.0 } ≡ at = same_some (record { board = b; plan = plan.0; run = run.0 }) at run.2 in
    record { plan = plan.1 ∙ ap (λ (x : RunAt). Some x.plan) same; run = run.1 ∙ ap (λ (x : RunAt). Some x.run) same }

pub record JobStands (p : Plan) (b : Board) (n : ℕ) (at : JobAt) : Type 0 where
  pub place : job_place b n ≡ Some at.place
  pub in_plan : slice_get p.runs at.place.run ≡ Some at.run_plan
  pub in_board : slice_get b.runs at.place.run ≡ Some at.run
  pub plan : slice_get at.run_plan.jobs at.place.job ≡ Some at.plan
  pub job : slice_get at.run.jobs at.place.job ≡ Some at.job

abbrev job_seen : Board → JobPlace → RunAt → JobPlan → Job → JobAt
job_seen b place run plan job = record { board = b; place = place; run_plan = run.plan; plan = plan; run = run.run; job = job }

record JobPlaced (p : Plan) (b : Board) (place : JobPlace) (at : JobAt) : Type 0 where
  place_is : place ≡ at.place
  in_plan : slice_get p.runs place.run ≡ Some at.run_plan
  in_board : slice_get b.runs place.run ≡ Some at.run
  plan : slice_get at.run_plan.jobs place.job ≡ Some at.plan
  job : slice_get at.run.jobs place.job ≡ Some at.job

placed : (p : Plan) (b : Board) (place : JobPlace) (at : JobAt) → job_placed p b place ≡ Some at → JobPlaced p b place at
placed p b place at h =
    let run = bind-some (run_at p b place.run)
    (λ run. slice_get run.plan.jobs place.job >>= λ plan. slice_get run.run.jobs place.job >>= λ job. Some (job_seen b place run plan job)) at h in
    let plan = bind-some (slice_get run.0.plan.jobs place.job) (λ plan. slice_get run.0.run.jobs place.job >>= λ job. Some (job_seen b place run.0 plan job)) at run.2 in
    let job = bind-some (slice_get run.0.run.jobs place.job) (λ job. Some (job_seen b place run.0 plan.0 job)) at plan.2 in
    let same : job_seen b place run.0 plan.0 job.0 ≡ at = same_some (job_seen b place run.0 plan.0 job.0) at job.2 in
    let stands = run_stands p b place.run run.0 run.1 in
    turned (job_seen b place run.0 plan.0 job.0) same (record { place_is = refl; in_plan = stands.plan; in_board = stands.run; plan = plan.1; job = job.1 })
  where
    turned : (x : JobAt) → x ≡ at → JobPlaced p b place x → JobPlaced p b place at
    turned x e = subst (JobPlaced p b place) e

pub job_stands : (p : Plan) (b : Board) (n : ℕ) (at : JobAt) → job_at p b n ≡ Some at → JobStands p b n at
job_stands p b n at h =
    let place = bind-some (job_place b n) (λ place. job_placed p b place) at h in
    let there = placed p b place.0 at place.2 in
    record {
      place = place.1 ∙ ap (λ x. Some x) there.place_is;
      in_plan = ap (λ x. slice_get p.runs x.run) (sym there.place_is) ∙ there.in_plan;
      in_board = ap (λ x. slice_get b.runs x.run) (sym there.place_is) ∙ there.in_board;
      plan = ap (λ x. slice_get at.run_plan.jobs x.job) (sym there.place_is) ∙ there.plan;
      job = ap (λ x. slice_get at.run.jobs x.job) (sym there.place_is) ∙ there.job;
    }

pub record LegStands (p : Plan) (b : Board) (n : ℕ) (at : LegAt) : Type 0 where
  pub place : leg_place b n ≡ Some at.place
  pub in_plan : slice_get p.runs at.place.run ≡ Some at.run_plan
  pub in_board : slice_get b.runs at.place.run ≡ Some at.run
  pub job_plan : slice_get at.run_plan.jobs at.place.job ≡ Some at.job_plan
  pub job : slice_get at.run.jobs at.place.job ≡ Some at.job
  pub leg : slice_get at.job.legs at.place.leg ≡ Some at.leg

abbrev leg_seen : Board → LegPlace → JobAt → Leg → LegAt
leg_seen b place at leg = record { board = b; place = place; run_plan = at.run_plan; job_plan = at.plan; run = at.run; job = at.job; leg = leg }

abbrev job_of : LegPlace → JobPlace
job_of place = record { run = place.run; job = place.job }

pub leg_stands : (p : Plan) (b : Board) (n : ℕ) (at : LegAt) → leg_at p b n ≡ Some at → LegStands p b n at
leg_stands p b n at h =
    let place = bind-some (leg_place b n) (λ place. job_placed p b (job_of place) >>= λ job. slice_get job.job.legs place.leg >>= λ leg. Some (leg_seen b place job leg)) at h in
    let job = bind-some (job_placed p b (job_of place.0)) (λ job. slice_get job.job.legs place.0.leg >>= λ leg. Some (leg_seen b place.0 job leg)) at place.2 in
    let leg = bind-some (slice_get job.0.job.legs place.0.leg) (λ leg. Some (leg_seen b place.0 job.0 leg)) at job.2 in
    let same : leg_seen b place.0 job.0 leg.0 ≡ at = same_some (leg_seen b place.0 job.0 leg.0) at leg.2 in
    let there = placed p b (job_of place.0) job.0 job.1 in
    turned (leg_seen b place.0 job.0 leg.0) same
    (record { place = place.1; in_plan = there.in_plan; in_board = there.in_board; job_plan = there.plan; job = there.job; leg = leg.1 })
  where
    turned : (x : LegAt) → x ≡ at → LegStands p b n x → LegStands p b n at
    turned x e = subst (LegStands p b n) e

-- the leg that is found by a number is that item of all legs
pub leg_item : (p : Plan) (b : Board) (n : ℕ) (at : LegAt) → LegStands p b n at → slice_get (board_legs b) n ≡ Some at.leg
leg_item p b n at h =
    sym ((legs_are_numbered b).there n)
    ∙ ap (λ o. o >>= leg_there b) h.place
    ∙ ap (λ o. o >>= λ run. slice_get run.jobs at.place.job >>= λ job. slice_get job.legs at.place.leg) h.in_board
    ∙ ap (λ o. o >>= λ job. slice_get job.legs at.place.leg) h.job
    ∙ h.leg
