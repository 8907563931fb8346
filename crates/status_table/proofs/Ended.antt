-- What has ended stays so where a run, a job or a leg that has not ended is changed.
use Rattle.std.proofs.Common.{◌≡◌, ◌⊎◌, inl, inr, ℕ, zero, suc, ◌-◌, ◌≤◌, ◌||◌, Bool, true, false, List, [], ◌∷◌, Option, Some, length, map, slice_get, ap, sym, refl, ◌∙◌, arith}
use Rattle.std.specs.List.{list_all, AllZip}
use Rattle.std.proofs.lemmas.Bool.{true≢false}
use Rattle.status_table.specs.Words.{Board, Job, JobAt, JobFits, JobPlan, JobState, JobStays, Leg, LegState, LegStays, Plan, Run, RunState, RunStays, Stays, first_of, holds_at, is_closed, is_ended, is_fresh, is_open, is_shut, job_at, job_has_ended, job_place, job_place_from, leg_stands_right, needs_have_ended, result_by}
use Rattle.status_table.specs.Lawful.{NeedsEnded}
use Rattle.board_decisions.proofs.Lists.{and-left, same_some}
use Rattle.status_table.proofs.Counts.{zip-beside, zip-then, zip-left, all-weaker}
use Rattle.status_table.proofs.Found.{job_stands}
use Rattle.status_table.proofs.Lists.{zip-length}

-- ---- nothing changed, and one change after the other

pub leg-stays : (leg : Leg) → LegStays leg leg
leg-stays leg = λ _. refl

-- the job is as it was, and its run is in the same state
pub job-stays : (old new : Run) (job : Job) → new.state ≡ old.state → JobStays old new job job
job-stays old new job same = record {
  legs = zip-beside LegStays job.legs leg-stays;
  shut = λ _. refl;
  ended = λ h. ap (λ s. list_all (λ leg. is_closed s || is_shut job.state || is_ended leg.state) job.legs) same ∙ h;
  result = λ _. ap (λ s. result_by s job.state job.legs) same;
}

pub run-stays : (run : Run) → RunStays run run
run-stays run = record { jobs = zip-beside (JobStays run run) run.jobs (λ job. job-stays run run job refl); closed = λ _. refl }

pub stays-same : (b : Board) → Stays b b
stays-same b = zip-beside RunStays b.runs run-stays

legs-then : (x y z : Leg) → LegStays x y → LegStays y z → LegStays x z
legs-then x y z h k = λ e. let same = h e in k (ap (λ (l : Leg). is_ended l.state) same ∙ e) ∙ same

jobs-then : (a b c : Run) (x y z : Job) → JobStays a b x y → JobStays b c y z → JobStays a c x z
jobs-then a b c x y z h k = record {
  legs = zip-then LegStays LegStays LegStays legs-then x.legs y.legs z.legs h.legs k.legs;
  shut = λ e. let same = h.shut e in k.shut (ap (λ (j : Job). is_shut j.state) same ∙ e) ∙ same;
  ended = λ e. k.ended (h.ended e);
  result = λ e. k.result (h.ended e) ∙ h.result e;
}

runs-then : (x y z : Run) → RunStays x y → RunStays y z → RunStays x z
runs-then x y z h k = record {
  jobs = zip-then (JobStays x y) (JobStays y z) (JobStays x z) (jobs-then x y z) x.jobs y.jobs z.jobs h.jobs k.jobs;
  closed = λ e. let same = h.closed e in k.closed (ap (λ (r : Run). is_closed r.state) same ∙ e) ∙ same;
}

pub stays-then : (a b c : Board) → Stays a b → Stays b c → Stays a c
stays-then a b c h k = zip-then RunStays RunStays RunStays runs-then a.runs b.runs c.runs h k

-- ---- a job that was not judged has not ended

unjudged-fresh : (s : RunState) (g : Option (List ℕ)) (leg : Leg) → leg_stands_right s g JobState.Unjudged leg ≡ true → is_ended leg.state ≡ false
unjudged-fresh s g leg h = by leg.state h
  where
    by : (t : LegState) → is_fresh t || false ≡ true → is_ended t ≡ false
    by (LegState.Ended result tolerated) k = absurd (true≢false (sym k))
    by t k = refl

-- some leg of it has not ended
pub not_ended : (s : RunState) (g : Option (List ℕ)) (legs : List Leg) (closed : Bool) → closed ≡ false → 1 ≤ length legs
    → list_all (leg_stands_right s g JobState.Unjudged) legs ≡ true → list_all (λ leg. closed || false || is_ended leg.state) legs ≡ true → ⊥
not_ended s g [] closed unclosed some h k = absurd (omega (arith, some))
not_ended s g (leg ∷ legs) closed unclosed some h k =
    let fresh = unjudged-fresh s g leg (and-left (leg_stands_right s g JobState.Unjudged leg) (list_all (leg_stands_right s g JobState.Unjudged) legs) h) in
    let here = and-left (closed || false || is_ended leg.state) (list_all (λ x. closed || false || is_ended x.state) legs) k in
    true≢false (sym here ∙ rw (unclosed, fresh) refl)

pub unjudged-going : (run : Run) (plan : JobPlan) (job : Job) → is_closed run.state ≡ false → job.state ≡ JobState.Unjudged → JobFits run.state run.group plan job
    → job_has_ended run job ≡ true → ⊥
unjudged-going run plan job unclosed is fits h =
    not_ended run.state run.group job.legs (is_closed run.state) unclosed fits.some (ap (λ s. list_all (leg_stands_right run.state run.group s) job.legs) (sym is) ∙ fits.legs)
    (ap (λ s. list_all (λ leg. is_closed run.state || is_shut s || is_ended leg.state) job.legs) (sym is) ∙ h)

-- ---- a run that was not Closed is changed, but not its jobs

or-later : (c d e f : Bool) → c ≡ false → c || e || f ≡ true → d || e || f ≡ true
or-later c true e f h k = refl
or-later c false e f h k = sym (ap (λ x. x || e || f) h) ∙ k

same-result : (s t : RunState) (state : JobState) (legs : List Leg) → is_closed s ≡ false → (state ≡ JobState.Unjudged → ⊥) → result_by t state legs ≡ result_by s state legs
same-result s t JobState.Unjudged legs unclosed judged = absurd (judged refl)
same-result s t state legs unclosed judged = refl

abbrev LegEnded : Run → Job → Leg → Bool
LegEnded run job leg = is_closed run.state || is_shut job.state || is_ended leg.state

pub run-changed : (plan : JobPlan) (old new : Run) (job : Job) → is_closed old.state ≡ false → JobFits old.state old.group plan job → JobStays old new job job
run-changed plan old new job unclosed fits = record {
  legs = zip-beside LegStays job.legs leg-stays;
  shut = λ _. refl;
  ended = λ h. all-weaker (LegEnded old job) (LegEnded new job)
      (λ leg. or-later (is_closed old.state) (is_closed new.state) (is_shut job.state) (is_ended leg.state) unclosed) job.legs h;
  result = λ h. same-result old.state new.state job.state job.legs unclosed (λ is. unjudged-going old plan job unclosed is fits h);
}

-- ---- the needs of jobs

-- each job of a board has the state that it had
abbrev pub SameJobs : Run → Run → Type 0
SameJobs old new = AllZip (λ x y. y.state ≡ x.state) old.jobs new.jobs

pub same-jobs : (run : Run) → SameJobs run run
same-jobs run = zip-beside (λ x y. y.state ≡ x.state) run.jobs (λ job. refl)

place-same : (k : ℕ) (old new : List Run) (n : ℕ) → AllZip RunStays old new → job_place_from k new n ≡ job_place_from k old n
place-same k [] [] n h = refl
place-same k [] (y ∷ ys) n h = absurd h
place-same k (x ∷ xs) [] n h = absurd h
place-same k (x ∷ xs) (y ∷ ys) n h =
    let same : length y.jobs ≡ length x.jobs = sym (zip-length (JobStays x y) x.jobs y.jobs h.0.jobs) in
    rw (same, place-same (suc k) xs ys (n - length x.jobs) h.1) refl

at-later : (a b : Run) (xs ys : List Job) (k : ℕ) → AllZip (JobStays a b) xs ys → holds_at (map (job_has_ended a) xs) k ≡ true → holds_at (map (job_has_ended b) ys) k ≡ true
at-later a b [] [] k h e = e
at-later a b [] (y ∷ ys) k h e = absurd h
at-later a b (x ∷ xs) [] k h e = absurd h
at-later a b (x ∷ xs) (y ∷ ys) zero h e = h.0.ended e
at-later a b (x ∷ xs) (y ∷ ys) (suc k) h e = at-later a b xs ys k h.1 e

pub needs-later : (first : ℕ) (a b : Run) (plan : JobPlan) → RunStays a b → needs_have_ended first a plan ≡ true → needs_have_ended first b plan ≡ true
needs-later first a b plan h e =
    all-weaker (λ need. holds_at (map (job_has_ended a) a.jobs) (need - first)) (λ need. holds_at (map (job_has_ended b) b.jobs) (need - first))
    (λ need. at-later a b a.jobs b.jobs (need - first) h.jobs) plan.needs e

-- the job at a place, as it was
pub record WasJob (p : Plan) (old : Board) (j : ℕ) (at : JobAt) : Type 0 where
  pub run : Run
  pub job : Job
  pub is : job_at p old j ≡ Some (record { board = old; place = at.place; run_plan = at.run_plan; plan = at.plan; run = run; job = job })
  pub stays : RunStays run at.run
  pub job_stays : JobStays run at.run job at.job
  pub in_run : slice_get run.jobs at.place.job ≡ Some job

pub was_job : (p : Plan) (old new : Board) (j : ℕ) (at : JobAt) → Stays old new → job_at p new j ≡ Some at → WasJob p old j at
was_job p old new j at stays is =
    let there = job_stands p new j at is in
    let run = zip-left RunStays old.runs new.runs at.place.run at.run there.in_board stays in
    let job = zip-left (JobStays run.0 at.run) run.0.jobs at.run.jobs at.place.job at.job there.job run.2.jobs in
    let place : job_place old j ≡ Some at.place = sym (place-same 0 old.runs new.runs j stays) ∙ there.place in
    record {
      run = run.0;
      job = job.0;
      is = rw (place, there.in_plan, run.1, there.plan, job.1) refl;
      stays = run.2;
      job_stays = job.2;
      in_run = job.1;
    }

pub needs-stay : (p : Plan) (old new : Board) → Stays old new → ((j : ℕ) (at : JobAt) → job_at p new j ≡ Some at → (was : WasJob p old j at) → is_open at.job.state ≡ true
    → (is_open was.job.state ≡ true) ⊎ (needs_have_ended (first_of j at) was.run at.plan ≡ true)) → NeedsEnded p old → NeedsEnded p new
needs-stay p old new stays opened needs j at is is_now =
    let was = was_job p old new j at stays is in
    needs-later (first_of j at) was.run at.run at.plan was.stays
    (elim (opened j at is was is_now) as (λ _. needs_have_ended (first_of j at) was.run at.plan ≡ true) [
      | inl before ↦ needs j (record { board = old; place = at.place; run_plan = at.run_plan; plan = at.plan; run = was.run; job = was.job }) was.is before
      | inr ended ↦ ended
    ])

-- where each job has the state that it had
pub needs-kept : (p : Plan) (old new : Board) → Stays old new → AllZip SameJobs old.runs new.runs → NeedsEnded p old → NeedsEnded p new
needs-kept p old new stays same = needs-stay p old new stays (λ j at is was now. inl (before j at is was now))
  where
    before : (j : ℕ) (at : JobAt) → job_at p new j ≡ Some at → (was : WasJob p old j at) → is_open at.job.state ≡ true → is_open was.job.state ≡ true
    before j at is was now =
        let there = job_stands p new j at is in
        let run = zip-left SameJobs old.runs new.runs at.place.run at.run there.in_board same in
        let job = zip-left (λ x y. y.state ≡ x.state) run.0.jobs at.run.jobs at.place.job at.job there.job run.2 in
        let stood = job_stands p old j (record { board = old; place = at.place; run_plan = at.run_plan; plan = at.plan; run = was.run; job = was.job }) was.is in
        let run_is : run.0 ≡ was.run = same_some run.0 was.run (sym run.1 ∙ stood.in_board) in
        let job_is : job.0 ≡ was.job = same_some job.0 was.job (sym job.1 ∙ ap (λ (r : Run). slice_get r.jobs at.place.job) run_is ∙ stood.job) in
        sym (ap (λ (x : Job). is_open x.state) job_is) ∙ ap is_open (sym job.2) ∙ now
