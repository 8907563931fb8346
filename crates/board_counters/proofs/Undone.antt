-- What was changed and is taken back is as it was.
use Rattle.std.proofs.Common.{◌≡◌, ℕ, zero, suc, ◌-◌, false, List, [], ◌∷◌, ◌++◌, Some, length, take, slice_get, length-append, ap, sym, refl, ◌∙◌, arith}
use Rattle.std.proofs.Math.Seq.{take-append_seam}
use Rattle.board_counters.specs.Words.{Board, Change, DoneStep, Job, JobPlace, JobState, Leg, LegChange, LegPlace, LegState, Run, RunChange, board_before, changed, front, job_state_of, job_state_set, job_state_there, job_there, leg_after, leg_before, leg_state_set, leg_there, leg_was, run_after, run_before, run_was, state_of, state_there, step_done, step_taken, undone, with_job, with_leg, with_run, ◌>>=◌}
use Rattle.board_counters.proofs.Tallies.{in_job, in_run, there}
use Rattle.status_table.proofs.Lists.{changed-cons}

-- ---- lists

front-more : {A : Type 0} (xs : List A) (x : A) → front (xs ++ x ∷ []) ≡ xs
front-more {A} xs x =
    let more = length-append xs (x ∷ []) in
    let left : length (xs ++ x ∷ []) - 1 ≡ length xs = omega (arith, more) in
    ap (λ n. take n (xs ++ x ∷ [])) left ∙ take-append_seam xs (x ∷ [])

changed-back : {T : Type 0} (xs : List T) (i : ℕ) (f g : T → T) → ((x : T) → slice_get xs i ≡ Some x → g (f x) ≡ x) → changed (changed xs i f) i g ≡ xs
changed-back [] i f g step = refl
changed-back (x ∷ xs) zero f g step = ap (λ y. y ∷ xs) (step x refl)
changed-back {T} (x ∷ xs) (suc i) f g step =
    ap (λ (ys : List T). changed ys (suc i) g) (changed-cons x xs i f) ∙ changed-cons x (changed xs i f) i g ∙ ap (λ (ys : List T). x ∷ ys) (changed-back xs i f g step)

-- ---- a run, a job or a leg

run-back : (how : RunChange) (run : Run) → run_after (run_before how run) (run_after how run) ≡ run
run-back (RunChange.State state) run = refl
run-back how run = refl

leg-back : (how : LegChange) (leg : Leg) → leg_after (leg_before how leg) (leg_after how leg) ≡ leg
leg-back (LegChange.State state) leg = refl
leg-back how leg = refl

run-there : (b : Board) (r : ℕ) (f g : Run → Run) → ((run : Run) → slice_get b.runs r ≡ Some run → g (f run) ≡ run) → with_run (with_run b r f) r g ≡ b
run-there b r f g step = ap (λ (runs : List Run). record b { runs = runs }) (changed-back b.runs r f g step)

job-there : (b : Board) (place : JobPlace) (f g : Job → Job) → ((job : Job) → job_there b place ≡ Some job → g (f job) ≡ job) → with_job (with_job b place f) place g ≡ b
job-there b place f g step = run-there b place.run (λ run. record run { jobs = changed run.jobs place.job f }) (λ run. record run { jobs = changed run.jobs place.job g }) (λ run in_runs.
    ap (λ (jobs : List Job). record run { jobs = jobs }) (changed-back run.jobs place.job f g (λ job in_jobs.
    step job (ap (λ o. o >>= λ (x : Run). slice_get x.jobs place.job) in_runs ∙ in_jobs))))

leg-there : (b : Board) (place : LegPlace) (f g : Leg → Leg) → ((leg : Leg) → leg_there b place ≡ Some leg → g (f leg) ≡ leg) → with_leg (with_leg b place f) place g ≡ b
leg-there b place f g step = run-there b place.run (in_run place f) (in_run place g) (λ run in_runs.
    ap (λ (jobs : List Job). record run { jobs = jobs }) (changed-back run.jobs place.job (in_job place f) (in_job place g) (λ job in_jobs.
    ap (λ (legs : List Leg). record job { legs = legs }) (changed-back job.legs place.leg f g (λ leg in_legs.
    step leg (there b place run job in_runs in_jobs ∙ in_legs))))))

-- ---- each change of a board

pub run_back : (b : Board) (r : ℕ) (how : RunChange) → with_run (with_run b r (run_after how)) r (run_after (run_was how (slice_get b.runs r))) ≡ b
run_back b r how = run-there b r (run_after how) (run_after (run_was how (slice_get b.runs r))) (λ run at. ap (λ o. run_after (run_was how o) (run_after how run)) at ∙ run-back how run)

pub leg_back : (b : Board) (place : LegPlace) (how : LegChange) → with_leg (with_leg b place (leg_after how)) place (leg_after (leg_was how (leg_there b place))) ≡ b
leg_back b place how = leg-there b place (leg_after how) (leg_after (leg_was how (leg_there b place))) (λ leg at. ap (λ o. leg_after (leg_was how o) (leg_after how leg)) at ∙ leg-back how leg)

pub job_back : (b : Board) (place : JobPlace) (state : JobState) → job_state_set (job_state_set b place state) place (job_state_there b place) ≡ b
job_back b place state = job-there b place (λ job. record job { state = state }) (λ job. record job { state = job_state_there b place }) (λ job at.
    ap (λ (s : JobState). record job { state = s }) (ap job_state_of at))

pub step_back : (b : Board) (place : LegPlace) (worker : ℕ) (done : DoneStep) → with_leg (step_done b place worker done) place (step_taken (state_there b place)) ≡ b
step_back b place worker done = leg-there b place (λ leg. record leg { state = LegState.Running worker false; steps = leg.steps ++ done ∷ [] }) (step_taken (state_there b place)) (λ leg at i.
    record leg { state = state_of (at i); steps = front-more leg.steps done i })

pub state_back : (b : Board) (place : LegPlace) (state : LegState) → leg_state_set (leg_state_set b place state) place (state_there b place) ≡ b
state_back b place state = leg-there b place (λ leg. record leg { state = state }) (λ leg. record leg { state = state_there b place }) (λ leg at.
    ap (λ (s : LegState). record leg { state = s }) (ap state_of at))

-- ---- all changes of a board

pub undone_last : (xs : List Change) (x : Change) (b : Board) → undone (xs ++ x ∷ []) b ≡ undone xs (board_before x b)
undone_last [] x b = refl
undone_last (y ∷ ys) x b = ap (board_before y) (undone_last ys x b)

-- the last one is taken back first
pub one_back : (xs ys : List Change) (x : Change) (b new : Board) → ys ≡ xs ++ x ∷ [] → new ≡ board_before x b → undone xs new ≡ undone ys b
one_back xs ys x b new more is = ap (undone xs) is ∙ sym (undone_last xs x b) ∙ ap (λ (zs : List Change). undone zs b) (sym more)
