-- One change of one member: what it does to the counts of groups, to the other members, to what has ended, and to the rank.
use Rattle.std.proofs.Common.{◌≡◌, ◌≢◌, ℕ, ◌+◌, ◌≤◌, true, false, List, [], ◌∷◌, Option, Some, None, slice_get, sum_by, option_map, ap, subst, sym, refl, ◌∙◌, arith}
use Rattle.std.specs.List.{flat_map, AllZip}
use Rattle.std.proofs.lemmas.Bool.{true≢false}
use Rattle.status_table.specs.Words.{Board, Job, JobFits, JobPlan, JobState, JobStays, Leg, LegAt, LegStays, Member, MembersFit, Plan, Run, RunFits, RunPlan, RunState, RunStays, Standing, Stays, board_jobs, board_legs, changed, is_closed, is_ended, is_going, is_open, is_shut, is_under_way, job_has_ended, leg_has_ended, leg_standing, leg_stands_right, run_standing, waiters, waits_name, with_leg}
use Rattle.status_table.specs.Groups.{holds_name}
use Rattle.status_table.specs.Lawful.{Within, under_way, NeedsEnded}
use Rattle.status_table.specs.Members.{holders}
use Rattle.status_table.proofs.Rank.{rank_of_run, rank_of_job, rank_of_leg, rank}
use Rattle.status_table.proofs.Counts.{one, sum-changed, sum-kept, sum-flat, map-get-kept, zip-changed-at, zip-changed-self, zip-left}
use Rattle.status_table.proofs.Ended.{leg-stays, job-stays, run-stays, run-changed, SameJobs, same-jobs, needs-kept}
use Rattle.status_table.proofs.Found.{LegStands, leg_item}
use Rattle.status_table.proofs.Lists.{changed-elsewhere, length-changed, flat_map-kept, all-changed, all-get}
use Rattle.status_table.proofs.Numbers.{board_legs-changed}

-- how a member stands
abbrev pub standing : Board → Member → Option Standing
standing b (Member.Run r) = option_map run_standing (slice_get b.runs r)
standing b (Member.Leg l) = option_map leg_standing (slice_get (board_legs b) l)

-- A change of one member, that stood so and stands so now, which lowers the rank by as much.
pub record Step (p : Plan) (old : Board) (m : Member) (s t : Standing) (d : ℕ) (new : Board) : Type 0 where
  pub was : standing old m ≡ Some s
  pub holds : (name : List ℕ) → holders new name + one (holds_name name s) ≡ holders old name + one (holds_name name t)
  pub waits : (name : List ℕ) → waiters new name + one (waits_name name s) ≡ waiters old name + one (waits_name name t)
  pub others : (other : Member) → other ≢ m → standing new other ≡ standing old other
  pub fits : MembersFit p new
  pub needs : NeedsEnded p old → NeedsEnded p new
  pub stays : Stays old new
  pub lower : rank new + d ≤ rank old

-- ---- a run that is not Closed is changed, but not its jobs

module _ (p : Plan) (b : Board) (r : ℕ) (f : Run → Run) (run : Run) (at : slice_get b.runs r ≡ Some run) (keeps : (x : Run) → (f x).jobs ≡ x.jobs)
    (new : Board) (new_is : new.runs ≡ changed b.runs r f) where
  run_jobs : board_jobs new ≡ board_jobs b
  run_jobs = ap (flat_map (λ (x : Run). x.jobs)) new_is ∙ flat_map-kept (λ x. x.jobs) b.runs r f keeps

  run_legs : board_legs new ≡ board_legs b
  run_legs = ap (flat_map (λ (x : Job). x.legs)) run_jobs

  run_counts : (u : Run → ℕ) (w : Leg → ℕ)
      → sum_by u new.runs + sum_by w (board_legs new) + u run ≡ sum_by u b.runs + sum_by w (board_legs b) + u (f run)
  run_counts u w =
      let runs = sum-changed u b.runs r f run at in
      let there = ap (sum_by u) new_is in
      let legs = ap (sum_by w) run_legs in
      omega (arith, runs, there, legs)

  run_others : (other : Member) → other ≢ Member.Run r → standing new other ≡ standing b other
  run_others (Member.Run s) h =
      ap (λ rs. option_map run_standing (slice_get rs s)) new_is ∙ ap (option_map run_standing) (changed-elsewhere b.runs r f s (λ e. h (ap (λ n. Member.Run n) e)))
  run_others (Member.Leg l) h = ap (λ ls. option_map leg_standing (slice_get ls l)) run_legs

  pub run_step : (s t : Standing) (d : ℕ) → MembersFit p b → is_closed run.state ≡ false → ((plan : RunPlan) → RunFits plan run → RunFits plan (f run))
      → run_standing run ≡ s → run_standing (f run) ≡ t → rank_of_run (f run) + d ≤ rank_of_run run → Step p b (Member.Run r) s t d new
  run_step s t d fits unclosed fit was now less = record {
    was = ap (option_map run_standing) at ∙ ap (λ x. Some x) was;
    holds = λ name.
        let counts = run_counts (λ x. one (holds_name name (run_standing x))) (λ leg. one (holds_name name (leg_standing leg))) in
        let before = ap (λ x. one (holds_name name x)) was in
        let after = ap (λ x. one (holds_name name x)) now in
        omega (arith, counts, before, after);
    waits = λ name.
        let counts = run_counts (λ x. one (waits_name name (run_standing x))) (λ leg. one (waits_name name (leg_standing leg))) in
        let before = ap (λ x. one (waits_name name x)) was in
        let after = ap (λ x. one (waits_name name x)) now in
        omega (arith, counts, before, after);
    others = run_others;
    fits = there;
    needs = needs-kept p b new stay same;
    stays = stay;
    lower =
        let counts = run_counts rank_of_run rank_of_leg in
        let jobs = ap (sum_by rank_of_job) run_jobs in
        omega (arith, counts, jobs, less);
  }
    where
      planned : (plan : RunPlan) × (slice_get p.runs r ≡ Some plan) × RunFits plan run
      planned = zip-left RunFits p.runs b.runs r run at fits

      there : MembersFit p new
      there = subst (AllZip RunFits p.runs) (sym new_is) (zip-changed-at RunFits p.runs b.runs r f planned.0 run planned.1 at (fit planned.0) fits)

      beside : (plans : List JobPlan) (jobs : List Job) → AllZip (JobFits run.state run.group) plans jobs → AllZip (JobStays run (f run)) jobs jobs
      beside [] [] h = tt
      beside [] (x ∷ xs) h = absurd h
      beside (q ∷ qs) [] h = absurd h
      beside (q ∷ qs) (x ∷ xs) h = (run-changed q run (f run) x unclosed h.0, beside qs xs h.1)

      changed_run : RunStays run (f run)
      changed_run = record {
        jobs = subst (AllZip (JobStays run (f run)) run.jobs) (sym (keeps run)) (beside planned.0.jobs run.jobs planned.2);
        closed = λ h. absurd (true≢false (sym h ∙ unclosed));
      }

      stay : Stays b new
      stay = subst (AllZip RunStays b.runs) (sym new_is) (zip-changed-self RunStays b.runs r f run at run-stays changed_run)

      same : AllZip SameJobs b.runs new.runs
      same = subst (AllZip SameJobs b.runs) (sym new_is) (zip-changed-self SameJobs b.runs r f run at same-jobs
          (subst (AllZip (λ x y. y.state ≡ x.state) run.jobs) (sym (keeps run)) (same-jobs run)))

-- ---- a leg that is not Ended, of a Going run and an Open job, is changed

-- where a leg is that may change
pub record Live (p : Plan) (b : Board) (l : ℕ) (at : LegAt) : Type 0 where
  pub stands : LegStands p b l at
  pub going : is_going at.run.state ≡ true
  pub opened : is_open at.job.state ≡ true

pub going-unclosed : (s : RunState) → is_going s ≡ true → is_closed s ≡ false
going-unclosed (RunState.Closed x) h = sym h
going-unclosed s h = refl

open-unshut : (s : JobState) → is_open s ≡ true → is_shut s ≡ false
open-unshut (JobState.Shut x) h = sym h
open-unshut s h = refl

module _ (p : Plan) (b : Board) (l : ℕ) (at : LegAt) (f : Leg → Leg) (live : Live p b l at) (new : Board) (new_is : new.runs ≡ (with_leg b at.place f).runs) where
  abbrev in_job : Job → Job
  in_job job = record job { legs = changed job.legs at.place.leg f }

  abbrev in_run : Run → Run
  in_run run = record run { jobs = changed run.jobs at.place.job in_job }

  leg_there : slice_get (board_legs b) l ≡ Some at.leg
  leg_there = leg_item p b l at live.stands

  runs_is : new.runs ≡ changed b.runs at.place.run in_run
  runs_is = new_is

  new_legs : board_legs new ≡ changed (board_legs b) l f
  new_legs = ap (λ (rs : List Run). flat_map (λ (x : Job). x.legs) (flat_map (λ (x : Run). x.jobs) rs)) new_is ∙ board_legs-changed b l at.place f live.stands.place

  leg_counts : (u : Run → ℕ) (w : Leg → ℕ) → ((x : Run) → u (in_run x) ≡ u x)
      → sum_by u new.runs + sum_by w (board_legs new) + w at.leg ≡ sum_by u b.runs + sum_by w (board_legs b) + w (f at.leg)
  leg_counts u w same =
      let runs : sum_by u new.runs ≡ sum_by u b.runs = ap (sum_by u) runs_is ∙ sum-kept u b.runs at.place.run in_run same in
      let legs = ap (sum_by w) new_legs in
      let more = sum-changed w (board_legs b) l f at.leg leg_there in
      omega (arith, runs, legs, more)

  leg_others : (other : Member) → other ≢ Member.Leg l → standing new other ≡ standing b other
  leg_others (Member.Run s) h =
      ap (λ rs. option_map run_standing (slice_get rs s)) runs_is ∙ map-get-kept run_standing b.runs at.place.run in_run s (λ x. refl)
  leg_others (Member.Leg k) h =
      ap (λ ls. option_map leg_standing (slice_get ls k)) new_legs ∙ ap (option_map leg_standing) (changed-elsewhere (board_legs b) l f k (λ e. h (ap (λ n. Member.Leg n) e)))

  same_ranks : sum_by rank_of_job (board_jobs new) ≡ sum_by rank_of_job (board_jobs b)
  same_ranks =
      ap (λ rs. sum_by rank_of_job (flat_map (λ (x : Run). x.jobs) rs)) runs_is
      ∙ sum-flat rank_of_job (λ x. x.jobs) b.runs at.place.run in_run (λ x. sum-kept rank_of_job x.jobs at.place.job in_job (λ y. refl))

  -- the run and the job there have not ended
  not_yet : is_ended at.leg.state ≡ false → job_has_ended at.run at.job ≡ true → ⊥
  not_yet running h =
      let here = all-get (leg_has_ended at.run at.job) at.job.legs at.place.leg at.leg live.stands.leg h in
      let closed = going-unclosed at.run.state live.going in
      let shut = open-unshut at.job.state live.opened in
      true≢false (sym here ∙ rw (closed, shut, running) refl)

  job_changed : is_ended at.leg.state ≡ false → JobStays at.run (in_run at.run) at.job (in_job at.job)
  job_changed running = record {
    legs = zip-changed-self LegStays at.job.legs at.place.leg f at.leg live.stands.leg leg-stays (λ h. absurd (true≢false (sym h ∙ running)));
    shut = λ h. absurd (true≢false (sym h ∙ open-unshut at.job.state live.opened));
    ended = λ h. absurd (not_yet running h);
    result = λ h. absurd (not_yet running h);
  }

  run_changed : is_ended at.leg.state ≡ false → RunStays at.run (in_run at.run)
  run_changed running = record {
    jobs = zip-changed-self (JobStays at.run (in_run at.run)) at.run.jobs at.place.job in_job at.job live.stands.job (λ job. job-stays at.run (in_run at.run) job refl) (job_changed running);
    closed = λ h. absurd (true≢false (sym h ∙ going-unclosed at.run.state live.going));
  }

  leg_stay : is_ended at.leg.state ≡ false → Stays b new
  leg_stay running = subst (AllZip RunStays b.runs) (sym runs_is) (zip-changed-self RunStays b.runs at.place.run in_run at.run live.stands.in_board run-stays (run_changed running))

  same_states : AllZip SameJobs b.runs new.runs
  same_states = subst (AllZip SameJobs b.runs) (sym runs_is) (zip-changed-self SameJobs b.runs at.place.run in_run at.run live.stands.in_board same-jobs
      (zip-changed-self (λ x y. y.state ≡ x.state) at.run.jobs at.place.job in_job at.job live.stands.job (λ job. refl) refl))

  -- it fits where the leg does and its job has room for it
  leg_fit : leg_stands_right at.run.state at.run.group at.job.state (f at.leg) ≡ true
      → (Within at.job_plan.max_parallel (under_way at.job.legs) → Within at.job_plan.max_parallel (under_way (changed at.job.legs at.place.leg f)))
      → MembersFit p b → MembersFit p new
  leg_fit right room fits = subst (AllZip RunFits p.runs) (sym runs_is)
      (zip-changed-at RunFits p.runs b.runs at.place.run in_run at.run_plan at.run live.stands.in_plan live.stands.in_board
      (zip-changed-at (JobFits at.run.state at.run.group) at.run_plan.jobs at.run.jobs at.place.job in_job at.job_plan at.job live.stands.job_plan live.stands.job (λ h. record {
        legs = all-changed (leg_stands_right at.run.state at.run.group at.job.state) at.job.legs at.place.leg f at.leg live.stands.leg right h.legs;
        slots = room h.slots;
        some = let same = length-changed at.job.legs at.place.leg f in let some = h.some in omega (arith, same, some);
        steps = h.steps;
      })) fits)

  pub leg_step : (s t : Standing) (d : ℕ) → MembersFit p b → is_ended at.leg.state ≡ false → leg_stands_right at.run.state at.run.group at.job.state (f at.leg) ≡ true
      → (Within at.job_plan.max_parallel (under_way at.job.legs) → Within at.job_plan.max_parallel (under_way (changed at.job.legs at.place.leg f)))
      → leg_standing at.leg ≡ s → leg_standing (f at.leg) ≡ t → rank_of_leg (f at.leg) + d ≤ rank_of_leg at.leg → Step p b (Member.Leg l) s t d new
  leg_step s t d fits running right room was now less = record {
    was = ap (option_map leg_standing) leg_there ∙ ap (λ x. Some x) was;
    holds = λ name.
        let counts = leg_counts (λ x. one (holds_name name (run_standing x))) (λ x. one (holds_name name (leg_standing x))) (λ x. refl) in
        let before = ap (λ x. one (holds_name name x)) was in
        let after = ap (λ x. one (holds_name name x)) now in
        omega (arith, counts, before, after);
    waits = λ name.
        let counts = leg_counts (λ x. one (waits_name name (run_standing x))) (λ x. one (waits_name name (leg_standing x))) (λ x. refl) in
        let before = ap (λ x. one (waits_name name x)) was in
        let after = ap (λ x. one (waits_name name x)) now in
        omega (arith, counts, before, after);
    others = leg_others;
    fits = leg_fit right room fits;
    needs = needs-kept p b new (leg_stay running) same_states;
    stays = leg_stay running;
    lower =
        let counts = leg_counts rank_of_run rank_of_leg (λ x. refl) in
        let jobs = same_ranks in
        omega (arith, counts, jobs, less);
  }

  -- the room is left as it was where the leg is under way no more than before
  pub as_much : one (is_under_way (f at.leg).state) ≤ one (is_under_way at.leg.state)
      → Within at.job_plan.max_parallel (under_way at.job.legs) → Within at.job_plan.max_parallel (under_way (changed at.job.legs at.place.leg f))
  as_much less = within at.job_plan.max_parallel
    where
      within : (most : Option ℕ) → Within most (under_way at.job.legs) → Within most (under_way (changed at.job.legs at.place.leg f))
      within None h = tt
      within (Some most) h =
          let counts = sum-changed (λ x. one (is_under_way x.state)) at.job.legs at.place.leg f at.leg live.stands.leg in omega (arith, counts, h, less)
