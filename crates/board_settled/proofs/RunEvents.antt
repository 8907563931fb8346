-- The events of runs and jobs keep what is played as settled.
use Rattle.std.proofs.Common.{◌≡◌, ℕ, ◌+◌, ◌-◌, Bool, true, false, List, Option, Some, None, Result, Ok, Err, option_map, take, if◌then◌else◌, ap, subst, subst₂, sym, refl, ◌∙◌}
use Rattle.std.proofs.lemmas.Bool.{true≢false}
use Rattle.board_settled.specs.Words.{Answers, Board, Entrance, Event, EventFault, JobAt, JobState, Member, Outcome, Plain, Plan, Reply, RunAt, RunState, SeesSettled, SettledJob, StepCall, ValueFault, admitted, closed, holding, is_closed, is_going, is_open, job_at, job_condition, job_settled, job_status, jobs_come_to, jobs_have_ended, leaves, legs_settled, moved, needs_have_ended, needs_of, run_after, run_at, run_entrance, run_result, run_standing, run_stands}
use Rattle.status_table.specs.Row as rows
use Rattle.status_table.proofs.Found.{RunStands, JobStands, run_stands as run_found, job_stands as job_found}
use Rattle.status_table.proofs.Sound.{is_numbered_in}
use Rattle.status_table.proofs.Steps.{going-unclosed}
use Rattle.board_settled.proofs.Changes.{no_other, run_changes, job_changes}
use Rattle.board_settled.proofs.Played.{Stands, IsFit, job_board, StateStands, JobPlayedAt, jobs_of, RunPlayed}
use Rattle.board_settled.proofs.LegEvents.{Goes}
use Rattle.board_settled.proofs.SettledNeeds.{needs_settled, ordered, each_given, each_over}
use Rattle.board_settled.proofs.Numbers.{before_run, before_job, leg_spot}
use Rattle.board_settled.proofs.Jobs.{judged_stands}
use Rattle.board_settled.proofs.Needs.{jobs_result}

module _ (p : Plan) (fit : IsFit p) (answers : Answers) (open_calls : ℕ → Option StepCall) (b : Board) (stands : Stands p answers open_calls b) where
  -- ---- Open

  module _ (r : ℕ) (at : RunAt) (is : run_at p b r ≡ Some at) where
    there : RunStands p b r at
    there = run_found p b r at is

    run_played : RunPlayed answers (before_run r p.runs) at.plan open_calls at.run
    run_played = stands.played r at.plan at.run there.plan there.run

    no_entrance : run_entrance at ≡ Ok None
    unfolding run_entrance
    no_entrance = rw (fit.free r at.plan there.plan).group refl

    pub open_goes : Goes p answers open_calls b (Event.Open r) (rows.open_run b r at at.run.state at.run.stop)
    open_goes = by at.run.state at.run.stop
      where
        by : (s : RunState) (stop : Bool) → Goes p answers open_calls b (Event.Open r) (rows.open_run b r at s stop)
        by RunState.New false =
            subst (λ (x : Result (Option Entrance) ValueFault). Goes p answers open_calls b (Event.Open r) (rows.run_enters b r x)) (sym no_entrance)
            (λ stays. run_changes p b answers open_calls r stands.played at.plan at.run there.plan there.run (admitted b None (Member.Run r)) stays
            (λ run. record run { state = RunState.Going; group = None }) refl refl refl (λ result e. absurd (cc)) (λ was. absurd (true≢false (sym was))))
        by s stop = tt

    -- ---- Close

    -- what all jobs of the run come to
    comes_to : at.run.state ≡ RunState.Going → jobs_have_ended at.run ≡ true → (run_after (jobs_of answers (before_run r p.runs) at.plan)).result ≡ Some (run_result at.run)
    comes_to going ended =
        ap (option_map jobs_come_to) (each_given fit stands r at.plan at.run there.plan there.run (ap is_closed going) ended) ∙ jobs_result at.run run_played.stop

    pub close_goes : Goes p answers open_calls b (Event.Close r) (rows.close_run b r at.run at.run.state)
    close_goes = by at.run.state refl
      where
        alone : at.run.state ≡ RunState.Going → leaves b (run_standing at.run) (closed b r (run_result at.run)) ≡ leaves b (holding None) (closed b r (run_result at.run))
        alone going = ap (λ s. leaves b s (closed b r (run_result at.run))) (ap (λ s. run_stands s at.run.group) going ∙ ap holding run_played.group)

        ends : at.run.state ≡ RunState.Going → jobs_have_ended at.run ≡ true → Goes p answers open_calls b (Event.Close r) (rows.run_closes b r at.run (run_result at.run))
        ends going ended =
            subst (λ (x : Board × Reply). Goes p answers open_calls b (Event.Close r) (Ok x)) (sym (alone going))
            (λ stays. run_changes p b answers open_calls r stands.played at.plan at.run there.plan there.run (closed b r (run_result at.run)) stays
            (λ run. record run { state = RunState.Closed (run_result at.run) }) refl refl run_played.group
            (λ result e. let is : run_result at.run ≡ result = cc e in comes_to going ended ∙ ap (λ (o : Outcome). Some o) is)
            (λ _. each_over fit stands r at.plan at.run there.plan there.run (ap is_closed going) ended))

        by : (s : RunState) → at.run.state ≡ s → Goes p answers open_calls b (Event.Close r) (rows.close_run b r at.run s)
        by RunState.Going e = tested (jobs_have_ended at.run) refl
          where
            tested : (ended : Bool) → jobs_have_ended at.run ≡ ended → Goes p answers open_calls b (Event.Close r) (if ended then rows.run_closes b r at.run (run_result at.run) else Err EventFault.NeedsOpen)
            tested true ended = ends e ended
            tested false ended = tt
        by (RunState.Closed result) e = tt
        by s e = subst (λ stop. Goes p answers open_calls b (Event.Close r) (rows.close_waiting b r at.run stop)) (sym run_played.stop) tt

  -- ---- Judge

  module _ (j : ℕ) (at : JobAt) (is : job_at p b j ≡ Some at) where
    found : JobStands p b j at
    found = job_found p b j at is

    run_here : RunPlayed answers (before_run at.place.run p.runs) at.run_plan open_calls at.run
    run_here = stands.played at.place.run at.run_plan at.run found.in_plan found.in_board

    abbrev before : List SettledJob
    before = take at.place.job (jobs_of answers (before_run at.place.run p.runs) at.run_plan)

    abbrev first : ℕ
    first = before_run at.place.run p.runs + before_job at.place.job at.run_plan.jobs

    job_here : JobPlayedAt answers (before_run at.place.run p.runs) at.run_plan open_calls at.place.job at.plan at.job
    job_here = run_here.jobs at.place.job at.plan at.job found.plan found.job

    number : at.plan.number ≡ j
    number = (is_numbered_in p b j at (record { rules = fit.rules; shape = stands.fits.shape; ends = stands.fits.ends; laws = stands.lawful }) is).number

    abbrev condition : Result Bool ValueFault
    condition = job_condition at (job_status (rows.first_of j at) at)

    module _ (going : is_going at.run.state ≡ true) (unjudged : at.job.state ≡ JobState.Unjudged) (ended : needs_have_ended (rows.first_of j at) at.run at.plan ≡ true) where
      ready : needs_have_ended (at.plan.number - at.place.job) at.run at.plan ≡ true
      ready = ap (λ n. needs_have_ended (n - at.place.job) at.run at.plan) number ∙ ended

      unclosed : is_closed at.run.state ≡ false
      unclosed = going-unclosed at.run.state going

      sees : SeesSettled (rows.first_of j at) before at
      sees = subst₂ (λ n (x : Board). SeesSettled n before (record at { board = x }))
          (sym ((ordered fit stands at.place.run at.run_plan at.run found.in_plan found.in_board unclosed).number at.place.job at.plan found.plan) ∙ ap (λ n. n - at.place.job) number) (sym (job_board p b j at is))
          (needs_settled fit stands at.place.run at.run_plan at.run found.in_plan found.in_board unclosed at.place.job at.plan found.plan ready at.job)

      state_stands : StateStands (job_settled answers at.run_plan first before at.plan) (legs_settled answers at.run_plan at.plan (needs_of at.run_plan before at.plan) first)
          (rows.judged_state at.run.stop condition)
      state_stands =
          subst₂ (λ c (v : Plain). StateStands (job_settled answers at.run_plan first before at.plan) (legs_settled answers at.run_plan at.plan v first) (rows.judged_state c condition))
          (sym run_here.stop) sees.needs (judged_stands answers (rows.first_of j at) first before at sees run_here.stop (rows.judged_state false condition) refl)

      judged_goes : Goes p answers open_calls b (Event.Judge j) (Ok (rows.job_state_set b at.place (rows.judged_state at.run.stop condition), moved))
      judged_goes stays =
          let place = leg_spot at.place.run at.place.job 0 in
          job_changes p b answers open_calls open_calls place (no_other p b place open_calls) stands.played at.run_plan at.run found.in_plan found.in_board
          (rows.job_state_set b at.place (rows.judged_state at.run.stop condition)) stays at.plan at.job found.plan found.job unclosed (λ job. record job { state = rows.judged_state at.run.stop condition }) refl
          (record { state = state_stands; untouched = λ _. job_here.untouched (ap is_open unjudged); legs = job_here.legs }) (λ _. ready)

    pub judge_goes : Goes p answers open_calls b (Event.Judge j) (rows.judge_job b at.place (rows.judgement j at))
    judge_goes = by at.run.state refl at.job.state refl
      where
        tested : (c : Bool) → needs_have_ended (rows.first_of j at) at.run at.plan ≡ c → is_going at.run.state ≡ true → at.job.state ≡ JobState.Unjudged
            → Goes p answers open_calls b (Event.Judge j)
            (rows.judge_job b at.place (if c then Ok (rows.judged_state at.run.stop condition) else Err EventFault.NeedsOpen))
        tested true ended going unjudged = judged_goes going unjudged ended
        tested false ended going unjudged = tt

        by : (s : RunState) → at.run.state ≡ s → (t : JobState) → at.job.state ≡ t → Goes p answers open_calls b (Event.Judge j) (rows.judge_job b at.place (rows.judgement_by j at s t))
        by RunState.Going going JobState.Unjudged unjudged = tested (needs_have_ended (rows.first_of j at) at.run at.plan) refl (ap is_going going) unjudged
        by s going t unjudged = tt
