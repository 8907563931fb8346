-- What each legal list of entries leads to, and how long it can be.
use Rattle.std.proofs.Common.{◌≡◌, ℕ, zero, suc, ◌+◌, ◌*◌, ◌≤◌, List, [], ◌∷◌, Option, Some, None, Result, Ok, Err, length, map, slice_get, sum_by, ap, subst, sym, refl, ◌∙◌, arith}
use Rattle.std.specs.List.{flat_map, AllZip}
use Rattle.std.proofs.lemmas.Bool.{true≢false}
use Rattle.std.proofs.lemmas.List.{length-map, length-append}
use Rattle.std.proofs.lemmas.List.Concat.{flat_map-append}
use Rattle.status_table.specs.Words.{Answers, Board, Each, Entry, Event, HasShape, Job, JobFits, JobPlan, JobState, Lawful, Leg, MembersFit, Plain, Plan, Reply, Row, Run, RunFits, RunPlan, RunState, SoundJob, SoundPlan, SoundRun, Stays, after, after_from, board_jobs, board_legs, event_row, is_open, is_under_way, leg_standing, leg_stands_right, new_board, new_job, new_leg, new_run, plan_jobs, plan_legs, row, run_standing, then_after, waits_name}
use Rattle.status_table.specs.Groups.{holds_name}
use Rattle.status_table.specs.Lawful.{Within, under_way, NeedsEnded}
use Rattle.status_table.proofs.Rank.{rank_of_run, rank_of_job, rank_of_leg, rank}
use Rattle.status_table.specs.declared.fault.EventFault.{EventFault}
use Rattle.status_table.proofs.Counts.{one, sum-map}
use Rattle.status_table.proofs.Ended.{stays-same, stays-then}
use Rattle.status_table.proofs.Entering.{Leads}
use Rattle.status_table.proofs.Found.{job_stands}
use Rattle.status_table.proofs.Keeps.{Keeps, row_keeps}
use Rattle.status_table.proofs.Legal.{new_fits as new_board_fits}
use Rattle.status_table.proofs.Lists.{flat_map-map, all-map}
use Rattle.board_decisions.proofs.Lists.{same_some, no_some}
use Rattle.status_table.proofs.Rows.{event_leads, row_leads}
use Rattle.status_table.proofs.Turns.{Fits}

-- ---- the board on which all is new

new_jobs : (p : Plan) → board_jobs (new_board p) ≡ map new_job (plan_jobs p)
new_jobs p = flat_map-map new_run (λ run. run.jobs) new_job (λ run. run.jobs) p.runs (λ run. refl)

new_legs : (p : Plan) → board_legs (new_board p) ≡ map new_leg (plan_legs p)
new_legs p = ap (flat_map (λ job. job.legs)) (new_jobs p) ∙ flat_map-map new_job (λ job. job.legs) new_leg (λ job. job.legs) (plan_jobs p) (λ job. refl)

sum_of_legs : (p : Plan) (w : Leg → ℕ) (n : ℕ) → ((x : List (List ℕ × Plain)) → w (new_leg x) ≡ n) → sum_by w (board_legs (new_board p)) ≡ n * length (plan_legs p)
sum_of_legs p w n h = ap (sum_by w) (new_legs p) ∙ sum-map w new_leg n (plan_legs p) h

nobody : (p : Plan) (u : Run → ℕ) (w : Leg → ℕ) → ((x : RunPlan) → u (new_run x) ≡ 0) → ((x : List (List ℕ × Plain)) → w (new_leg x) ≡ 0)
    → sum_by u (new_board p).runs + sum_by w (board_legs (new_board p)) ≡ 0
nobody p u w hu hw = let a = sum-map u new_run 0 p.runs hu in let b = sum_of_legs p w 0 hw in omega (arith, a, b)

within-none : (most : Option ℕ) (n : ℕ) → n ≡ 0 → Within most n
within-none None n h = tt
within-none (Some most) n h = omega (arith, h)

-- each made of an item that passes
zip-made : {A B : Type 0} (P : A → Type 0) (R : A → B → Type 0) (f : A → B) (xs : List A) → Each P xs → ((x : A) → P x → R x (f x)) → AllZip R xs (map f xs)
zip-made P R f [] each h = tt
zip-made P R f (x ∷ xs) each h = (h x (each 0 x refl), zip-made P R f xs (λ i y is. each (suc i) y is) h)

new_fits : (p : Plan) → SoundPlan p → MembersFit p (new_board p)
new_fits p sound = zip-made SoundRun RunFits new_run p.runs sound.runs (λ run sound_run.
    zip-made SoundJob (JobFits RunState.New None) new_job run.jobs sound_run.jobs (λ job sound_job. record {
      legs = all-map (leg_stands_right RunState.New None JobState.Unjudged) new_leg job.legs (λ combo. refl);
      slots = within-none job.max_parallel (under_way (map new_leg job.legs)) (let none = sum-map (λ x. one (is_under_way x.state)) new_leg 0 job.legs (λ combo. refl) in omega (arith, none));
      some = let same = length-map job.legs new_leg in let some = sound_job.some_leg in omega (arith, same, some);
      steps = sound_job.few_steps;
    }))

-- no job is Open
new_needs : (p : Plan) → NeedsEnded p (new_board p)
new_needs p j at is opened =
    let there = job_stands p (new_board p) j at is in
    let run = map-item new_run p.runs at.place.run at.run there.in_board in
    let job = map-item new_job run.0.jobs at.place.job at.job (ap (λ (x : Run). slice_get x.jobs at.place.job) run.1 ∙ there.job) in
    absurd (true≢false (sym opened ∙ ap (λ (x : Job). is_open x.state) (sym job.1)))
  where
    map-item : {A B : Type 0} (f : A → B) (xs : List A) (i : ℕ) (y : B) → slice_get (map f xs) i ≡ Some y → (x : A) × (f x ≡ y)
    map-item f [] i y h = absurd (no_some y h)
    map-item f (x ∷ xs) zero y h = (x, same_some (f x) y h)
    map-item f (x ∷ xs) (suc i) y h = map-item f xs i y h

pub new_lawful : (p : Plan) → SoundPlan p → Lawful p (new_board p)
new_lawful p sound = record {
  one = record {
    holder = λ name. let z = nobody p (λ x. one (holds_name name (run_standing x))) (λ x. one (holds_name name (leg_standing x))) (λ x. refl) (λ x. refl) in omega (arith, z);
    waiter = λ name. let z = nobody p (λ x. one (waits_name name (run_standing x))) (λ x. one (waits_name name (leg_standing x))) (λ x. refl) (λ x. refl) in omega (arith, z);
  };
  fits = new_fits p sound;
  needs = new_needs p;
}

-- ---- how many entries are to come on it

-- there are no more jobs than legs
jobs_of_run : (jobs : List JobPlan) → Each SoundJob jobs → length jobs ≤ length (flat_map (λ (j : JobPlan). j.legs) jobs)
jobs_of_run [] each = omega arith
jobs_of_run (j ∷ js) each =
    let some = (each 0 j refl).some_leg in
    let later = jobs_of_run js (λ i y is. each (suc i) y is) in
    let both = length-append j.legs (flat_map (λ (x : JobPlan). x.legs) js) in
    omega (arith, some, later, both)

pub jobs_of_runs : (runs : List RunPlan) → Each SoundRun runs
    → length (flat_map (λ (r : RunPlan). r.jobs) runs) ≤ length (flat_map (λ (j : JobPlan). j.legs) (flat_map (λ (r : RunPlan). r.jobs) runs))
jobs_of_runs [] each = omega arith
jobs_of_runs (r ∷ rs) each =
    let here = jobs_of_run r.jobs (each 0 r refl).jobs in
    let later = jobs_of_runs rs (λ i y is. each (suc i) y is) in
    let jobs = length-append r.jobs (flat_map (λ (x : RunPlan). x.jobs) rs) in
    let apart = ap length (flat_map-append (λ (j : JobPlan). j.legs) r.jobs (flat_map (λ (x : RunPlan). x.jobs) rs)) in
    let legs = length-append (flat_map (λ (j : JobPlan). j.legs) r.jobs) (flat_map (λ (j : JobPlan). j.legs) (flat_map (λ (x : RunPlan). x.jobs) rs)) in
    omega (arith, here, later, jobs, apart, legs)

pub new_rank : (p : Plan) → SoundPlan p → rank (new_board p) ≤ 2113728
new_rank p sound =
    let runs = sum-map rank_of_run new_run 3 p.runs (λ x. refl) in
    let legs = sum_of_legs p rank_of_leg 515 (λ x. refl) in
    let jobs = ap (sum_by rank_of_job) (new_jobs p) ∙ sum-map rank_of_job new_job 1 (plan_jobs p) (λ x. refl) in
    let few = jobs_of_runs p.runs sound.runs in
    let few_runs = sound.few_runs in
    let few_legs = sound.few_legs in
    omega (arith, runs, legs, jobs, few, few_runs, few_legs)

-- ---- lists of entries

-- what a list of entries leaves of a lawful board
pub record Reaches (p : Plan) (old : Board) (n : ℕ) (new : Board) : Type 0 where
  pub lawful : Lawful p new
  pub stays : Stays old new
  pub fewer : n + rank new ≤ rank old

pub after_reaches : (p : Plan) (b c : Board) (es : List Entry) → Fits p b → Lawful p b → after_from p b es ≡ Some c → Reaches p b (length es) c
after_reaches p b c [] fits lawful h =
    let e : b ≡ c = same_some b c h in
    record { lawful = subst (Lawful p) e lawful; stays = subst (Stays b) e (stays-same b); fewer = let same = ap rank e in omega (arith, same) }
after_reaches p b c (e ∷ es) fits lawful h = step (λ d f l k. after_reaches p d c es f l k) (row p b e.worker e.event) (row_keeps p b e.worker e.event) (row_leads p b e.worker e.event fits.shape) h
  where
    step : ((d : Board) → Fits p d → Lawful p d → after_from p d es ≡ Some c → Reaches p d (length es) c) → (r : Row) → Keeps p b r → Leads p b r
        → then_after r (λ next. after_from p next es) ≡ Some c → Reaches p b (suc (length es)) c
    step later (Ok x) keeps leads k =
        let first = leads lawful in
        let rest = later x.0 (keeps fits) first.lawful k in
        let less = first.fewer in
        let less' = rest.fewer in
        record { lawful = rest.lawful; stays = stays-then b x.0 c first.stays rest.stays; fewer = omega (arith, less, less') }
    step later (Err f) keeps leads k = absurd (no_some c k)

pub legal_lawful : (p : Plan) → SoundPlan p → (es : List Entry) (b : Board) → after p es ≡ Some b → Lawful p b
legal_lawful p sound es b h = (after_reaches p (new_board p) b es (new_board_fits p) (new_lawful p sound) h).lawful

pub legal_short : (p : Plan) → SoundPlan p → (es : List Entry) (b : Board) → after p es ≡ Some b → length es ≤ 2113728
legal_short p sound es b h =
    let all = (after_reaches p (new_board p) b es (new_board_fits p) (new_lawful p sound) h).fewer in
    let most = new_rank p sound in
    omega (arith, all, most)

-- ---- an answer

pub answer_leads : (p : Plan) (b c : Board) (worker : ℕ) (e : Event) (result : Result Reply EventFault) → HasShape p b → Lawful p b
    → Answers (event_row p b worker e) b result c → Lawful p c × Stays b c
answer_leads p b c worker e (Ok reply) shape lawful h = let led = subst (Leads p b) h (event_leads p b worker e shape) lawful in (led.lawful, led.stays)
answer_leads p b c worker e (Err f) shape lawful h = (subst (Lawful p) (sym h.1) lawful, subst (Stays b) (sym h.1) (stays-same b))
