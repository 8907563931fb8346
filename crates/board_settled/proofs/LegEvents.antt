-- The events of legs keep what is played as settled.
use Rattle.std.proofs.Common.{◌≡◌, ◌≢◌, ℕ, ◌+◌, ◌≤◌, ◌==◌, ◌&&◌, ◌++◌, Bool, true, false, not, List, [], ◌∷◌, Option, Some, None, Result, Ok, Err, option_map, length, take, drop, slice_get, nat_lt, if◌then◌else◌, ap, subst, sym, refl, ◌∙◌, arith, zero, suc, inl, inr}
use Rattle.std.proofs.lemmas.Bool.{true≢false, leb-true}
use Rattle.std.proofs.lemmas.Bool.Decides.{nat_tests}
use Rattle.std.proofs.lemmas.List.{length-append}
use Rattle.board_settled.specs.Words.{Answer, Answers, Board, DoneStep, Entrance, Event, EventFault, JobIsFree, JobShape, Leg, LegAt, LegState, Member, Outcome, Plan, Reply, Row, RunShape, SettledJob, Spot, Stays, StepCall, StepPlan, ValueFault, What, admitted, call_after, counts, dropped, finish_of, has_failed, has_room, holding, is_ended, is_failure, is_fresh, is_full, is_going, is_open, is_stopping, is_under_way, is_untaken, is_well_formed, job_of, job_tolerates, leaves, leg_at, leg_entrance, leg_outputs, leg_result, leg_standing, list_any, moved, needs_of, needs_value, next_call, next_done, open_calls, spot_at, step_comes, step_decision, steps_from, with_leg}
use Rattle.status_table.specs.Row as rows
use Rattle.status_table.proofs.Found.{LegStands, leg_stands}
use Rattle.status_table.proofs.LegRows.{holding-live, idle-holds}
use Rattle.status_table.proofs.Lists.{all-get, zip-get}
use Rattle.board_decisions.proofs.Lists.{and-left, and-right, same_some, no_some}
use Rattle.status_table.proofs.Steps.{Live, going-unclosed}
use Rattle.status_table.proofs.Turnover.{numbered}
use Rattle.board_settled.proofs.Begins.{by_decision, either}
use Rattle.board_settled.proofs.Changes.{leg_changes, same_but}
use Rattle.board_settled.proofs.Played.{Stands, IsFit, CallStands, InCall, LegPlayed, jobs_of, Played, judged-or, JobPlayed, RunPlayed}
use Rattle.board_settled.proofs.LegSteps.{and-none, comes_next, step_after}
use Rattle.board_settled.proofs.Numbers.{before_run, before_job, number_at}
use Rattle.board_settled.proofs.Seen.{spot_of, call_is, finish_is}
use Rattle.board_settled.proofs.SettledNeeds.{needs_settled}

leg_board : (p : Plan) (b : Board) (n : ℕ) (at : LegAt) → leg_at p b n ≡ Some at → at.board ≡ b
leg_board p b n at h =
    let s = leg_stands p b n at h in
    let on : LegAt = record { board = b; place = at.place; run_plan = at.run_plan; job_plan = at.job_plan; run = at.run; job = at.job; leg = at.leg } in
    let found : leg_at p b n ≡ Some on = rw (s.place, s.in_plan, s.in_board, s.job_plan, s.job, s.leg) refl in
    ap (λ (x : LegAt). x.board) (same_some at on (sym h ∙ found))

failed-ended : (s : LegState) → is_ended s ≡ false → has_failed s ≡ false
failed-ended (LegState.Ended result tolerated) h = absurd (true≢false h)
failed-ended s h = refl

-- A row that is accepted keeps what is played as settled, by the calls that are open after it.
abbrev pub Goes : Plan → Answers → (ℕ → Option StepCall) → Board → Event → Row → Type 0
Goes p answers calls b e (Ok x) = Stays b x.0 → Played answers p (λ l. call_after l (calls l) e x.1.what) x.0.runs
Goes p answers calls b e (Err f) = Unit {0}

-- a leg of a job whose legs do not stop one another, by its place
module _ (p : Plan) (fit : IsFit p) (answers : Answers) (calls : ℕ → Option StepCall) (b : Board) (stands : Stands p answers calls b) (l : ℕ) (at : LegAt)
    (is : leg_at p b l ≡ Some at) where
  abbrev here : LegStands p b l at
  here = leg_stands p b l at is

  run_played : RunPlayed answers (before_run at.place.run p.runs) at.run_plan calls at.run
  run_played = stands.played at.place.run at.run_plan at.run here.in_plan here.in_board

  abbrev before : List SettledJob
  before = take at.place.job (jobs_of answers (before_run at.place.run p.runs) at.run_plan)

  abbrev first : ℕ
  first = before_run at.place.run p.runs + before_job at.place.job at.run_plan.jobs

  job_played : JobPlayed answers at.run_plan before first at.job_plan calls at.job
  job_played = run_played.jobs at.place.job at.job_plan at.job here.job_plan here.job

  -- what is settled of the leg
  abbrev spot : Spot
  spot = spot_at at.run_plan at.job_plan (needs_of at.run_plan before at.job_plan) first at.place.leg

  number_is : l ≡ first + at.place.leg
  number_is = number_at p b l at.place at.run_plan stands.fits.shape here.place here.in_plan

  leg_played : LegPlayed answers spot (calls l) at.leg
  leg_played = subst (λ n. LegPlayed answers spot (calls n) at.leg) (sym number_is) (job_played.legs at.place.leg at.leg here.leg)

  free : JobIsFree at.job_plan
  free = (fit.free at.place.run at.run_plan here.in_plan).jobs at.place.job at.job_plan here.job_plan

  shape_here : JobShape at.job_plan at.job
  shape_here = zip-get JobShape at.run_plan.jobs at.run.jobs at.place.job at.job_plan at.job here.job_plan here.job
      (zip-get RunShape p.runs b.runs at.place.run at.run_plan at.run here.in_plan here.in_board stands.fits.shape)

  alone : length at.job.legs ≡ 1 → is_ended at.leg.state ≡ false → list_any (λ leg. has_failed leg.state) at.job.legs ≡ false
  alone one unended = by at.job.legs one at.place.leg here.leg
    where
      by : (legs : List Leg) → length legs ≡ 1 → (k : ℕ) → slice_get legs k ≡ Some at.leg → list_any (λ leg. has_failed leg.state) legs ≡ false
      by (leg ∷ []) h zero e = rw (same_some leg at.leg e, failed-ended at.leg.state unended) refl
      by (leg ∷ []) h (suc k) e = absurd (no_some at.leg e)
      by legs h k e = absurd (omega (arith, h))

  -- it is not to stop
  not_stopping : is_ended at.leg.state ≡ false → is_stopping at ≡ false
  not_stopping unended = rw (leg_played.stop, run_played.stop, others) refl
    where
      others : at.job_plan.fail_fast && list_any (λ leg. has_failed leg.state) at.job.legs ≡ false
      others = elim free.fails_slowly as (λ _. at.job_plan.fail_fast && list_any (λ (leg : Leg). has_failed leg.state) at.job.legs ≡ false) [
        | inl slow ↦ rw slow refl
        | inr one ↦ rw (alone (shape_here.legs ∙ one) unended) (and-none at.job_plan.fail_fast)
      ]

  quiet : is_ended at.leg.state ≡ false → leg_result at ≡ counts at.leg.steps
  quiet unended = ap (λ c. if c then Outcome.Cancelled else counts at.leg.steps) (not_stopping unended)

  -- it is seen as it is planned
  spot_is : Live p b l at → spot_of l at ≡ spot
  spot_is live =
      let unclosed = going-unclosed at.run.state live.going in
      let ready = run_played.needs at.place.job at.job_plan at.job here.job_plan here.job (judged-or at.job.state (λ e. true≢false (sym live.opened ∙ ap is_open e))) in
      let board : job_of at ≡ record (job_of at) { board = b } = λ i. record (job_of at) { board = leg_board p b l at is i } in
      let needs : needs_value (job_of at) ≡ needs_of at.run_plan before at.job_plan =
      ap needs_value board ∙ (needs_settled fit stands at.place.run at.run_plan at.run here.in_plan here.in_board unclosed at.place.job at.job_plan here.job_plan ready at.job).needs in
      λ i. record { number = number_is i; run = at.run_plan; job = at.job_plan; place = at.place.leg; needs = needs i }

  -- the leg is changed, to one that is played as settled by the calls that are open then
  put : (later : ℕ → Option StepCall) (f : Leg → Leg) (new : Board) → new.runs ≡ (with_leg b at.place f).runs → ((n : ℕ) → n ≢ l → calls n ≡ later n) → Live p b l at
      → LegPlayed answers spot (later l) (f at.leg) → Stays b new → Played answers p later new.runs
  put later f new new_is others live now stays =
      leg_changes p b answers calls later at.place (same_but p b l at.place calls later stands.fits.shape here.place others) stands.played at.run_plan at.run here.in_plan here.in_board new stays
      at.job_plan at.job here.job_plan here.job (going-unclosed at.run.state live.going) f at.leg here.leg live.opened new_is
      (subst (λ n. LegPlayed answers spot (later n) (f at.leg)) number_is now)

  -- a leg that is not in a call and not Ended, with the steps that it had
  still : (call : Option StepCall) (leg : Leg) → leg.stop ≡ at.leg.stop → leg.group ≡ None → leg.steps ≡ at.leg.steps → CallStands spot leg.steps call leg.state → is_ended leg.state ≡ false
      → LegPlayed answers spot call leg
  still call leg stop group steps calling unended = record {
    stop = stop ∙ leg_played.stop;
    group = group;
    goes_on = subst (λ (done : List DoneStep). steps_from answers spot done (drop (length done) spot.job.steps) ≡ steps_from answers spot [] spot.job.steps) (sym steps) leg_played.goes_on;
    calling = calling;
    ended = λ result tolerated e. absurd (true≢false (sym (ap is_ended e) ∙ unended));
  }

  -- ---- Ask

  no_entrance : leg_entrance at ≡ Ok None
  unfolding leg_entrance
  no_entrance = rw ((fit.free at.place.run at.run_plan here.in_plan).jobs at.place.job at.job_plan here.job_plan).group refl

  pub ask_goes : Goes p answers calls b (Event.Ask l) (rows.ask_leg b l at)
  ask_goes = by (rows.may_ask at) refl (is_full at.job_plan at.job) (is_stopping at)
    where
      asks : Leg → Leg
      asks x = record x { state = LegState.Admitted; group = None }

      by : (ready : Bool) → rows.may_ask at ≡ ready → (full stops : Bool) → Goes p answers calls b (Event.Ask l)
          (if not ready then Err EventFault.WrongState else (if full then Err EventFault.SlotsFull else (if stops then Err EventFault.Stopping else rows.leg_enters b l at (leg_entrance at))))
      by true all false false =
          let two = and-left (is_going at.run.state && is_open at.job.state) (is_fresh at.leg.state) all in
          subst (λ (x : Result (Option Entrance) ValueFault). Goes p answers calls b (Event.Ask l) (rows.leg_enters b l at x)) (sym no_entrance)
          (put calls asks (admitted b None (Member.Leg l)) (numbered b l at.place asks here.place) (λ n _. refl)
          (record { stands = here; going = and-left (is_going at.run.state) (is_open at.job.state) two; opened = and-right (is_going at.run.state) (is_open at.job.state) two })
          (still (calls l) (asks at.leg) refl refl refl tt refl))
      by ready all full stops = tt

  -- ---- Drop: no leg is to stop

  pub drop_goes : Goes p answers calls b (Event.Drop l) (rows.drop_leg b l at)
  drop_goes = by (rows.may_drop at) refl (is_stopping at) refl
    where
      untaken : (s : LegState) → is_untaken s ≡ true → is_ended s ≡ false
      untaken (LegState.Running worker in_call) h = absurd (true≢false (sym h))
      untaken (LegState.Ended result tolerated) h = absurd (true≢false (sym h))
      untaken s h = refl

      by : (ready : Bool) → rows.may_drop at ≡ ready → (stops : Bool) → is_stopping at ≡ stops → Goes p answers calls b (Event.Drop l)
          (if not ready then Err EventFault.WrongState else (if stops then Ok (leaves b (leg_standing at.leg) (dropped b l Outcome.Cancelled)) else Err EventFault.NotStopping))
      by true all true stops = absurd (true≢false (sym stops ∙ not_stopping
          (untaken at.leg.state (and-right (is_going at.run.state && is_open at.job.state) (is_untaken at.leg.state) all))))
      by ready all stopping stops = tt

  -- ---- Take

  -- a leg under way is of a Going run and an Open job
  live : is_under_way at.leg.state ≡ true → Live p b l at
  live under = holding-live p b l at stands.lawful.fits here under

  pub take_goes : (worker : ℕ) → Goes p answers calls b (Event.Take l) (rows.take_leg b worker at at.leg.state)
  take_goes worker = by at.leg.state refl
    where
      by : (s : LegState) → at.leg.state ≡ s → Goes p answers calls b (Event.Take l) (rows.take_leg b worker at s)
      by LegState.Admitted e =
          either (Goes p answers calls b (Event.Take l)) (is_stopping at) (Err EventFault.Stopping) (Ok (rows.leg_state_set b at.place (LegState.Running worker false), moved)) tt
          (put calls (λ x. record x { state = LegState.Running worker false }) (rows.leg_state_set b at.place (LegState.Running worker false)) refl (λ n _. refl) (live (ap is_under_way e))
          (still (calls l) (record at.leg { state = LegState.Running worker false }) refl leg_played.group refl tt refl))
      by s e = tt

  -- ---- Begin and End

  same_number : (l == l) ≡ true
  same_number = grind (arith, nat_tests)

  -- the calls of other legs stay open
  others : (call : Option StepCall) (n : ℕ) → n ≢ l → calls n ≡ (if l == n then call else calls n)
  others call n differs = let other : (l == n) ≡ false = grind (arith, nat_tests, differs) in rw other refl

  -- one more step is done
  done_more : (later : ℕ → Option StepCall) → ((n : ℕ) → n ≢ l → calls n ≡ later n) → (worker : ℕ) (step : StepPlan) (next : DoneStep) → is_under_way at.leg.state ≡ true
      → rows.next_step at ≡ Some step → next_done answers spot at.leg.steps step ≡ Some next → Stays b (rows.step_done b at.place worker next)
      → Played answers p later (rows.step_done b at.place worker next).runs
  done_more later same worker step next under planned given =
      put later (λ x. record x { state = LegState.Running worker false; steps = x.steps ++ next ∷ [] }) (rows.step_done b at.place worker next) refl same (live under) (record {
        stop = leg_played.stop;
        group = leg_played.group;
        goes_on = ap (λ n. steps_from answers spot (at.leg.steps ++ next ∷ []) (drop n spot.job.steps)) (length-append at.leg.steps (next ∷ []))
            ∙ sym (step_after answers spot at.leg.steps (length at.leg.steps) step (Some next) planned given) ∙ leg_played.goes_on;
        calling = tt;
        ended = λ result tolerated e. absurd (true≢false (sym (ap is_ended e)));
      })

  unended : (s : LegState) → is_under_way s ≡ true → is_ended s ≡ false
  unended (LegState.Ended result tolerated) h = absurd (true≢false (sym h))
  unended s h = refl

  calm : is_under_way at.leg.state ≡ true → leg_result at ≡ counts at.leg.steps
  calm under = quiet (unended at.leg.state under)

  seen_so : is_under_way at.leg.state ≡ true → spot_of l at ≡ spot
  seen_so under = spot_is (live under)

  module _ (under : is_under_way at.leg.state ≡ true) (step : StepPlan) (planned : rows.next_step at ≡ Some step) where
    decision : step_decision l at step ≡ next_call spot at.leg.steps step
    decision = call_is l at (calm under) step ∙ ap (λ (x : Spot). next_call x at.leg.steps step) (seen_so under)

    -- what a step comes to by its call
    given_next : (d : Result (Option StepCall) ValueFault) (next : DoneStep) → step_decision l at step ≡ d → step_comes answers at d ≡ Some next → next_done answers spot at.leg.steps step ≡ Some next
    given_next d next e given =
        ap (λ (x : Spot). next_done answers x at.leg.steps step) (sym (seen_so under)) ∙ sym (comes_next answers l at (calm under) step planned) ∙ ap (step_comes answers at) e ∙ given

    begun : (worker : ℕ) (d : Result (Option StepCall) ValueFault) → step_decision l at step ≡ d → Goes p answers calls b (Event.Begin l) (rows.begin_leg b worker at (Ok (rows.decided d)))
    begun worker (Ok None) e =
        done_more (λ n. call_after n (calls n) (Event.Begin l) What.Skipped) (others None) worker step rows.skipped_step under planned
        (given_next (Ok None) rows.skipped_step e refl)
    begun worker (Err f) e =
        done_more (λ n. call_after n (calls n) (Event.Begin l) (What.Faulted f)) (others None) worker step (rows.failed_step at) under planned
        (given_next (Err f) (rows.failed_step at) e refl)
    begun worker (Ok (Some call)) e =
        put (λ n. call_after n (calls n) (Event.Begin l) (What.Call call)) (λ x. record x { state = LegState.Running worker true }) (rows.leg_state_set b at.place (LegState.Running worker true)) refl
        (others (Some call)) (live under)
        (still (call_after l (calls l) (Event.Begin l) (What.Call call)) (record at.leg { state = LegState.Running worker true }) refl leg_played.group refl (record {
          step = step;
          planned = planned;
          asked = call;
          is_open = ap (λ c. if c then Some call else calls l) same_number;
          is_next = sym decision ∙ e;
        }) refl)

  pub begin_goes : (worker : ℕ) → Goes p answers calls b (Event.Begin l) (rows.begin_leg b worker at (rows.beginning worker l at))
  begin_goes worker = by_decision (Goes p answers calls b (Event.Begin l)) (λ f. tt) b worker l at
      (λ owner step was next. begun (idle-holds at.leg.state owner was).under step next worker (step_decision l at step) refl)

  in_call : (s : LegState) (owner : ℕ) (call : Option StepCall) → rows.calling_owner s ≡ Some owner → CallStands spot at.leg.steps call s → InCall spot at.leg.steps call × (is_under_way s ≡ true)
  in_call (LegState.Running worker true) owner call h calling = (calling, refl)
  in_call s owner call h calling = absurd (no_some owner h)

  pub end_goes : (worker : ℕ) (a : Answer) → ((call : StepCall) → calls l ≡ Some call → answers call ≡ Some a)
      → Goes p answers calls b (Event.End l a) (rows.end_leg b worker at (rows.ending worker at a))
  end_goes worker a answer = by_owner (rows.calling_owner at.leg.state) refl
    where
      ends : (owner : ℕ) → rows.calling_owner at.leg.state ≡ Some owner → Goes p answers calls b (Event.End l a) (rows.end_leg b worker at (Ok (rows.answered_step at a)))
      ends owner was =
          let (call, under) = in_call at.leg.state owner (calls l) was leg_played.calling in
          let given = answer call.asked call.is_open in
          let called = decision under call.step call.planned ∙ call.is_next in
          done_more (λ n. call_after n (calls n) (Event.End l a) What.Moved) (others None) worker call.step
          (rows.answered_step at a) under call.planned
          (given_next under call.step call.planned (Ok (Some call.asked)) (rows.answered_step at a) called (ap (option_map (rows.answered_step at)) given))

      by_owner : (owner : Option ℕ) → rows.calling_owner at.leg.state ≡ owner → Goes p answers calls b (Event.End l a) (rows.end_leg b worker at (rows.ending_by worker at a owner))
      by_owner None was = tt
      by_owner (Some owner) was =
          either ended (not (worker == owner)) (Err EventFault.OtherWorker) (if not (is_well_formed a) then Err EventFault.BadAnswer else Ok (rows.answered_step at a)) tt
          (either ended (not (is_well_formed a)) (Err EventFault.BadAnswer) (Ok (rows.answered_step at a)) tt (ends owner was))
        where
          ended : Result DoneStep EventFault → Type 0
          ended x = Goes p answers calls b (Event.End l a) (rows.end_leg b worker at x)

  -- ---- Finish

  pub finish_goes : (worker : ℕ) → Goes p answers calls b (Event.Finish l) (rows.finish_leg b l at (rows.finishing worker at))
  finish_goes worker = by_owner (rows.idle_owner at.leg.state) refl
    where
      alone : (after : Board) (owner : ℕ) → rows.idle_owner at.leg.state ≡ Some owner → leaves b (leg_standing at.leg) after ≡ leaves b (holding None) after
      alone after owner was = ap (λ s. leaves b s after) ((idle-holds at.leg.state owner was).stands at.leg.group ∙ ap holding leg_played.group)

      room : length at.leg.steps ≤ length at.job_plan.steps
      room =
          let had = all-get (has_room at.job_plan) at.job.legs at.place.leg at.leg here.leg shape_here.steps in
          let few = leb-true (length at.leg.steps + open_calls at.leg.state) (length at.job_plan.steps) had in
          omega (arith, few)

      ends : (owner : ℕ) → rows.idle_owner at.leg.state ≡ Some owner → nat_lt (length at.leg.steps) (length at.job_plan.steps) ≡ false
          → Goes p answers calls b (Event.Finish l) (rows.finish_leg b l at (Ok (rows.ended_state at (leg_result at))))
      ends owner was all =
          let state = rows.ended_state at (leg_result at) in
          let new : Board = rows.leg_ended b at.place l state (leg_outputs at) in
          let left : length at.job_plan.steps ≤ length at.leg.steps = grind (arith, nat_tests, all) in
          let had = room in
          let whole : length at.leg.steps ≡ length at.job_plan.steps = omega (arith, left, had) in
          let finish : finish_of spot at.leg.steps ≡ record { result = leg_result at; tolerated = is_failure (leg_result at) && job_tolerates at; outputs = leg_outputs at } =
          ap (λ (x : Spot). finish_of x at.leg.steps) (sym (seen_so (idle-holds at.leg.state owner was).under)) ∙ finish_is l at (calm (idle-holds at.leg.state owner was).under) in
          subst (λ (x : Board × Reply). Goes p answers calls b (Event.Finish l) (Ok x)) (sym (alone new owner was))
          (put calls (λ x. record x { state = state; outputs = leg_outputs at }) new refl (λ n _. refl) (live (idle-holds at.leg.state owner was).under) (record {
            stop = leg_played.stop;
            group = leg_played.group;
            goes_on = leg_played.goes_on;
            calling = tt;
            ended = λ result tolerated e.
                let is : LegState.Ended (leg_result at) (is_failure (leg_result at) && job_tolerates at) ≡ LegState.Ended result tolerated = e in
                record { all = whole; finish = cc (finish, is) };
          }))

      by_owner : (owner : Option ℕ) → rows.idle_owner at.leg.state ≡ owner → Goes p answers calls b (Event.Finish l) (rows.finish_leg b l at (rows.finishing_by worker at owner))
      by_owner None was = tt
      by_owner (Some owner) was = by (not (worker == owner)) (nat_lt (length at.leg.steps) (length at.job_plan.steps)) refl
        where
          by : (other more : Bool) → nat_lt (length at.leg.steps) (length at.job_plan.steps) ≡ more
              → Goes p answers calls b (Event.Finish l) (rows.finish_leg b l at (if other then Err EventFault.OtherWorker else (if more then Err EventFault.StepsLeft else Ok (rows.ended_state at (leg_result at)))))
          by false false e = ends owner was e
          by other more e = tt
