-- What judging a job makes of a lawful board.
use Rattle.std.proofs.Common.{◌≡◌, ◌⊎◌, inl, inr, ℕ, ◌+◌, ◌<◌, ◌&&◌, ◌||◌, Bool, true, false, not, List, Option, Some, Result, Ok, Err, slice_get, sum_by, if◌then◌else◌, ap, sym, refl, ◌∙◌, arith}
use Rattle.std.specs.List.{flat_map, list_all}
use Rattle.std.proofs.lemmas.Bool.{true≢false, cases_eq}
use Rattle.status_table.specs.Words.{Board, Job, JobAt, JobFits, JobState, JobStays, Lawful, Leg, LegState, LegStays, MembersFit, Plan, Run, RunFits, RunState, RunStays, Stays, ValueFault, board_legs, changed, is_closed, is_fresh, is_going, is_open, is_shut, is_under_way, is_waiting, job_at, job_condition, job_status, leg_standing, leg_stands_right, needs_have_ended, run_standing, share_name, waits_name}
use Rattle.status_table.specs.declared.fault.EventFault.{EventFault}
use Rattle.status_table.specs.Groups.{holds_name}
use Rattle.status_table.proofs.Rank.{job_rank, rank_of_run, rank_of_job, rank_of_leg, rank}
use Rattle.status_table.specs.Row as rows
use Rattle.status_table.proofs.Counts.{one, sum-changed, zip-changed-at, zip-changed-self, zip-beside, all-weaker, sum-kept, sum-flat-changed}
use Rattle.status_table.proofs.Ended.{leg-stays, job-stays, run-stays, unjudged-going, needs-stay, WasJob}
use Rattle.status_table.proofs.Entering.{Follows, Leads}
use Rattle.status_table.proofs.Found.{JobStands, job_stands}
use Rattle.status_table.proofs.Lists.{flat_map-kept, flat_map-twice, zip-get, changed-there, changed-elsewhere}
use Rattle.board_decisions.proofs.Lists.{same_some}
use Rattle.status_table.proofs.Numbers.{jobs_before, number_of_job}

-- ---- Judge

judged-rank : (stop : Bool) (x : Result Bool ValueFault) → job_rank (rows.judged_state stop x) ≡ 0
judged-rank stop (Ok true) = refl
judged-rank stop (Ok false) = refl
judged-rank stop (Err f) = refl

-- the legs of a job that was not judged are Fresh, and so stand rightly in each
unjudged-right : (s t : RunState) (g h : Option (List ℕ)) (j : JobState) (leg : Leg) → leg_stands_right s g JobState.Unjudged leg ≡ true → leg_stands_right t h j leg ≡ true
unjudged-right s t g h j leg right = by leg.state right
  where
    by : (u : LegState) → is_fresh u || false ≡ true → is_fresh u || (is_open j && (not (is_under_way u) || (is_going t && not (is_waiting u && share_name h leg.group)))) ≡ true
    by LegState.Fresh k = refl
    by u k = absurd (true≢false (sym k))

module _ (p : Plan) (b : Board) (j : ℕ) (at : JobAt) (is : job_at p b j ≡ Some at) (going : at.run.state ≡ RunState.Going) (unjudged : at.job.state ≡ JobState.Unjudged)
    (ready : needs_have_ended (rows.first_of j at) at.run at.plan ≡ true) (state : JobState) (judged : job_rank state ≡ 0) where
  abbrev judge : Job → Job
  judge job = record job { state = state }

  abbrev in_run : Run → Run
  in_run run = record run { jobs = changed run.jobs at.place.job judge }

  abbrev new : Board
  new = rows.job_state_set b at.place state

  stands : JobStands p b j at
  stands = job_stands p b j at is

  judged_legs : board_legs new ≡ board_legs b
  judged_legs =
      flat_map-twice (λ run. run.jobs) (λ job. job.legs) (changed b.runs at.place.run in_run)
      ∙ flat_map-kept (λ run. flat_map (λ job. job.legs) run.jobs) b.runs at.place.run in_run (λ run. flat_map-kept (λ job. job.legs) run.jobs at.place.job judge (λ job. refl))
      ∙ sym (flat_map-twice (λ run. run.jobs) (λ job. job.legs) b.runs)

  judged_count : (u : Run → ℕ) (w : Leg → ℕ) → ((x : Run) → u (in_run x) ≡ u x) → sum_by u new.runs + sum_by w (board_legs new) ≡ sum_by u b.runs + sum_by w (board_legs b)
  judged_count u w same = let runs = sum-kept u b.runs at.place.run in_run same in let legs = ap (sum_by w) judged_legs in omega (arith, runs, legs)

  judged_rank : rank new < rank b
  judged_rank =
      let counts = judged_count rank_of_run rank_of_leg (λ x. refl) in
      let flat = sum-flat-changed rank_of_job (λ x. x.jobs) b.runs at.place.run in_run at.run stands.in_board in
      let jobs = sum-changed rank_of_job at.run.jobs at.place.job judge at.job stands.job in
      let was = ap job_rank unjudged in
      omega (arith, counts, flat, jobs, was, judged)

  judged_fit : MembersFit p b → JobFits at.run.state at.run.group at.plan at.job
  judged_fit fits =
      zip-get (JobFits at.run.state at.run.group) at.run_plan.jobs at.run.jobs at.place.job at.plan at.job stands.plan stands.job
      (zip-get RunFits p.runs b.runs at.place.run at.run_plan at.run stands.in_plan stands.in_board fits)

  judged_fits : MembersFit p b → MembersFit p new
  judged_fits fits = zip-changed-at RunFits p.runs b.runs at.place.run in_run at.run_plan at.run stands.in_plan stands.in_board
      (zip-changed-at (JobFits at.run.state at.run.group) at.run_plan.jobs at.run.jobs at.place.job judge at.plan at.job stands.plan stands.job (λ h. record {
        legs = all-weaker (leg_stands_right at.run.state at.run.group JobState.Unjudged) (leg_stands_right at.run.state at.run.group state)
            (unjudged-right at.run.state at.run.state at.run.group at.run.group state) at.job.legs
            (ap (λ s. list_all (leg_stands_right at.run.state at.run.group s) at.job.legs) (sym unjudged) ∙ h.legs);
        slots = h.slots;
        some = h.some;
        steps = h.steps;
      })) fits

  judged_stays : MembersFit p b → Stays b new
  judged_stays fits = zip-changed-self RunStays b.runs at.place.run in_run at.run stands.in_board run-stays (record {
    jobs = zip-changed-self (JobStays at.run (in_run at.run)) at.run.jobs at.place.job judge at.job stands.job (λ job. job-stays at.run (in_run at.run) job refl) (record {
      legs = zip-beside LegStays at.job.legs leg-stays;
      shut = λ h. absurd (true≢false (sym h ∙ ap is_shut unjudged));
      ended = λ h. absurd (unjudged-going at.run at.plan at.job (ap is_closed going) unjudged (judged_fit fits) h);
      result = λ h. absurd (unjudged-going at.run at.plan at.job (ap is_closed going) unjudged (judged_fit fits) h);
    });
    closed = λ h. absurd (true≢false (sym h ∙ ap is_closed going));
  })

  -- the job with another number is as it was
  elsewhere : (i : ℕ) (other : JobAt) → (i ≡ j → ⊥) → job_at p new i ≡ Some other → (was : WasJob p b i other) → other.job ≡ was.job
  elsewhere i other differs found was =
      let there = job_stands p new i other found in
      let stood = job_stands p b i (record { board = b; place = other.place; run_plan = other.run_plan; plan = other.plan; run = was.run; job = was.job }) was.is in
      elim (cases_eq other.place.run at.place.run) as (λ _. other.job ≡ was.job) [
        | inl e ↦
            let run_was : was.run ≡ at.run = same_some was.run at.run (sym stood.in_board ∙ ap (slice_get b.runs) e ∙ stands.in_board) in
            let run_is : other.run ≡ in_run at.run = same_some other.run (in_run at.run)
            (sym there.in_board ∙ ap (slice_get (changed b.runs at.place.run in_run)) e ∙ changed-there b.runs at.place.run in_run at.run stands.in_board) in
            same_some other.job was.job (sym there.job ∙ ap (λ (x : Run). slice_get x.jobs other.place.job) run_is
            ∙ changed-elsewhere at.run.jobs at.place.job judge other.place.job (λ same.
            let here = number_of_job b j at.place stands.place in
            let too = number_of_job b i other.place stood.place in
            let before = ap (λ r. jobs_before r b.runs) e in
            differs (omega (arith, here, too, before, same)))
            ∙ ap (λ (x : Run). slice_get x.jobs other.place.job) (sym run_was) ∙ stood.job)
        | inr n ↦
            let run_is : other.run ≡ was.run = same_some other.run was.run (sym there.in_board ∙ changed-elsewhere b.runs at.place.run in_run other.place.run n ∙ stood.in_board) in
            same_some other.job was.job (sym there.job ∙ ap (λ (x : Run). slice_get x.jobs other.place.job) run_is ∙ stood.job)
      ]

  opened : (i : ℕ) (other : JobAt) → job_at p new i ≡ Some other → (was : WasJob p b i other) → is_open other.job.state ≡ true
      → (is_open was.job.state ≡ true) ⊎ (needs_have_ended (rows.first_of i other) was.run other.plan ≡ true)
  opened i other found was now = elim (cases_eq i j) as (λ _. (is_open was.job.state ≡ true) ⊎ (needs_have_ended (rows.first_of i other) was.run other.plan ≡ true)) [
    | inl e ↦
        let stood : JobAt = record { board = b; place = other.place; run_plan = other.run_plan; plan = other.plan; run = was.run; job = was.job } in
        let same : stood ≡ at = same_some stood at (sym was.is ∙ ap (job_at p b) e ∙ is) in
        inr (ap (λ k. needs_have_ended (rows.first_of k stood) stood.run stood.plan) e ∙ ap (λ (x : JobAt). needs_have_ended (rows.first_of j x) x.run x.plan) same ∙ ready)
    | inr n ↦ inl (ap (λ (x : Job). is_open x.state) (sym (elsewhere i other n found was)) ∙ now)
  ]

  judged_follows : Lawful p b → Follows p b new
  judged_follows lawful = record {
    lawful = record {
      one = record {
        holder = λ name. let same = judged_count (λ x. one (holds_name name (run_standing x))) (λ x. one (holds_name name (leg_standing x))) (λ x. refl) in
            let had = lawful.one.holder name in omega (arith, same, had);
        waiter = λ name. let same = judged_count (λ x. one (holds_name name (run_standing x))) (λ x. one (holds_name name (leg_standing x))) (λ x. refl) in
            let too = judged_count (λ x. one (waits_name name (run_standing x))) (λ x. one (waits_name name (leg_standing x))) (λ x. refl) in
            let had = lawful.one.waiter name in omega (arith, same, too, had);
      };
      fits = judged_fits lawful.fits;
      needs = needs-stay p b new (judged_stays lawful.fits) opened lawful.needs;
    };
    stays = judged_stays lawful.fits;
    fewer = judged_rank;
  }

pub judge_leads : (p : Plan) (b : Board) (j : ℕ) (at : JobAt) → job_at p b j ≡ Some at → Leads p b (rows.judge_job b at.place (rows.judgement j at))
judge_leads p b j at is = by at.run.state refl at.job.state refl
  where
    ready : (c : Bool) → needs_have_ended (rows.first_of j at) at.run at.plan ≡ c → at.run.state ≡ RunState.Going → at.job.state ≡ JobState.Unjudged
        → Leads p b (rows.judge_job b at.place (if c then Ok (rows.judged_state at.run.stop (job_condition at (job_status (rows.first_of j at) at))) else Err EventFault.NeedsOpen))
    ready true ended going unjudged =
        judged_follows p b j at is going unjudged ended (rows.judged_state at.run.stop (job_condition at (job_status (rows.first_of j at) at)))
        (judged-rank at.run.stop (job_condition at (job_status (rows.first_of j at) at)))
    ready false ended going unjudged = tt

    by : (s : RunState) → at.run.state ≡ s → (t : JobState) → at.job.state ≡ t → Leads p b (rows.judge_job b at.place (rows.judgement_by j at s t))
    by RunState.Going going JobState.Unjudged unjudged = ready (needs_have_ended (rows.first_of j at) at.run at.plan) refl going unjudged
    by RunState.Going going JobState.Open unjudged = tt
    by RunState.Going going (JobState.Shut result) unjudged = tt
    by RunState.New going t unjudged = tt
    by RunState.Waiting going t unjudged = tt
    by (RunState.Closed result) going t unjudged = tt
