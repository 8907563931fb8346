-- A job and its legs on a board beside what is settled of them.
use Rattle.std.proofs.Common.{◌≡◌, ◌↔◌, ℕ, suc, ◌+◌, ◌<◌, Bool, true, false, List, ◌∷◌, Result, Ok, length, drop, get_or, if◌then◌else◌, ap, subst, subst₂, sym, refl, ◌∙◌, arith}
use Rattle.board_settled.specs.Words.{AllZip, Answers, IsOpened, Job, JobAt, JobIsSettled, JobState, Leg, LegIsSettled, Outcome, SeesSettled, SettledJob, SettledLeg, Status, ValueFault, ancestors_status, condition_after, job_condition, job_results, job_settled, job_status, judged, judged_state, leg_settled, legs_from, legs_settled, needs_of, needs_value, opened, planned, shut, status_after, unsettled}
use Rattle.flow_model.proofs.Conversions.{drop-next}
use Rattle.flow_model.proofs.Places.{slice_get_there}
use Rattle.board_settled.proofs.Loops.{zip-first}
use Rattle.board_settled.proofs.Played.{StateStands}
use Rattle.board_settled.proofs.Seen.{job_condition_is}
use Rattle.status_table.proofs.Standings.{drop_at}

-- ---- the legs that are left

-- the next leg, by its number, and those after it
pub left_leg : (answers : Answers) (at : JobAt) (first : ℕ) (legs : List Leg) → length legs ≡ length at.plan.legs → (k : ℕ) (leg : Leg) → k < length legs → leg ≡ get_or legs k leg
    → (n : ℕ) → n ≡ first + k
    → AllZip LegIsSettled (legs_from answers at.run_plan at.plan (needs_value at) first k (drop k at.plan.legs)) (drop k legs)
    ↔ (LegIsSettled (leg_settled answers (planned n at k)) leg × AllZip LegIsSettled (legs_from answers at.run_plan at.plan (needs_value at) first (k + 1) (drop (k + 1) at.plan.legs)) (drop (k + 1) legs))
left_leg answers at first legs size k leg less is n number =
    let (combo, there) = slice_get_there at.plan.legs k (omega (arith, less, size)) in
    let next : suc k ≡ k + 1 = omega arith in
    zip-first LegIsSettled _ _ _ _ _ leg
    (ap (legs_from answers at.run_plan at.plan (needs_value at) first k) (drop_at at.plan.legs k combo there)
    ∙ λ i. leg_settled answers (planned (sym number i) at k) ∷ legs_from answers at.run_plan at.plan (needs_value at) first (next i) (drop (k + 1) at.plan.legs))
    (drop-next legs k leg less is)

-- ---- a job

-- a job that was opened, by what is settled of it
pub open_settled : (given : SettledJob) (all : List SettledLeg) (job : Job) → given ≡ opened all → IsOpened all job ↔ JobIsSettled given job.legs job.state
open_settled given all job is = (λ h. subst (JobIsSettled given job.legs) (sym h.state) (all, is, h.legs), λ h. by job.state refl h)
  where
    by : (s : JobState) → job.state ≡ s → JobIsSettled given job.legs s → IsOpened all job
    by JobState.Unjudged e h = absurd h
    by JobState.Open e h = record { state = e; legs = let same : h.0 ≡ all = cc (h.1, is) in subst (λ (xs : List SettledLeg). AllZip LegIsSettled xs job.legs) same h.2 }
    by (JobState.Shut result) e h = absurd (cc (is, h))

-- a job that was shut
pub shut_settled : (given : SettledJob) (how : Outcome) (job : Job) → given ≡ shut how → (job.state ≡ JobState.Shut how) ↔ JobIsSettled given job.legs job.state
shut_settled given how job is = (λ h. subst (JobIsSettled given job.legs) (sym h) is, λ h. by job.state refl h)
  where
    by : (s : JobState) → job.state ≡ s → JobIsSettled given job.legs s → job.state ≡ JobState.Shut how
    by JobState.Unjudged e h = absurd h
    by JobState.Open e h = absurd (cc (h.1, is))
    by (JobState.Shut result) e h = cc (e, h, is)

stands_by : (x : Result Bool ValueFault) (legs : List SettledLeg) → StateStands (judged x legs) legs (judged_state false x)
stands_by (Ok true) legs = refl
stands_by x legs = refl

module _ (answers : Answers) (first_job first_leg : ℕ) (before : List SettledJob) (at : JobAt) (sees : SeesSettled first_job before at) (goes : at.run.stop ≡ false) where
  abbrev pub condition : Result Bool ValueFault
  condition = job_condition at (job_status first_job at)

  abbrev pub legs : List SettledLeg
  legs = legs_settled answers at.run_plan at.plan (needs_value at) first_leg

  condition_same : condition_after at.run_plan before at.plan ≡ condition
  unfolding condition_after
  condition_same =
      let status_is : job_status first_job at ≡ status_after at.run_plan before at.plan =
      ap (λ c. if c then Status.Cancelled else ancestors_status first_job at.run_plan.jobs (job_results at.run) at.place.job) goes ∙ sees.status in
      sym (ap (job_condition at) status_is ∙ job_condition_is at (needs_of at.run_plan before at.plan) (status_after at.run_plan before at.plan) sees.needs)

  settled_by : job_settled answers at.run_plan first_leg before at.plan ≡ judged condition legs
  unfolding job_settled
  settled_by = λ i. if sees.given i then judged (condition_same i) (legs_settled answers at.run_plan at.plan (sym sees.needs i) first_leg) else unsettled

  -- it is in the state into which it is settled to be judged, if it is in the one into which it is judged
  pub judged_stands : (s : JobState) → judged_state false condition ≡ s → StateStands (job_settled answers at.run_plan first_leg before at.plan) legs s
  judged_stands s is = subst₂ (λ (x : SettledJob) t. StateStands x legs t) (sym settled_by) is (stands_by condition legs)
