-- How members stand stays as a test says, which all pass but some that wait.
use Rattle.std.proofs.Common.{◌≡◌, ℕ, ◌||◌, Bool, true, false, List, [], ◌∷◌, ◌++◌, ◌==◌, Option, Some, None, Result, Ok, Err, not, length, nat_le, nat_lt, map, if◌then◌else◌, ap, subst, sym, refl, ◌∙◌}
use Rattle.std.specs.List.{flat_map, list_all}
use Rattle.status_table.specs.Words.{Beginning, Board, DoneStep, Entrance, Entry, Event, Job, JobAt, JobPlace, JobState, Leg, LegAt, LegPlace, LegState, Member, Outcome, Plan, Row, Run, RunAt, RunState, Standing, ValueFault, admitted, after, after_from, apart, board_legs, calls, cancelled, changed, closed, displaced, dropped, enters, enters_held, faults, holder, holding, is_closed, is_full, is_own, is_stopping, job_at, jobs_have_ended, leaves, leg_at, leg_changed, leg_entrance, leg_outputs, leg_place, leg_result, leg_standing, moved, new_board, new_job, new_leg, new_run, next_after, passed_on, plan_jobs, plan_legs, queued, run_at, run_entrance, run_result, run_standing, skips, stopped, then_after, waiter, waiting, waits, with_leg, with_numbered_leg, with_run}
use Rattle.status_table.specs.declared.fault.EventFault.{EventFault}
use Rattle.status_table.specs.Row as rows
use Rattle.status_table.proofs.Decided.{by_test}
use Rattle.status_table.proofs.Found.{leg_stands}
use Rattle.status_table.proofs.Lists.{all-each, all-map, flat_map-kept, flat_map-twice, flat_map-map}
use Rattle.board_decisions.proofs.Lists.{same_some, no_some}
use Rattle.status_table.proofs.Numbers.{numbered_leg-changed, board_legs-changed}

-- a test that all members pass but some that wait
pub record Passes (t : Standing → Bool) : Type 0 where
  pub none : t apart ≡ true
  pub held : (name : Option (List ℕ)) → t (holding name) ≡ true

-- each run stands as one test says, and each leg as another
pub record AllStand (t u : Standing → Bool) (b : Board) : Type 0 where
  pub runs : list_all (λ run. t (run_standing run)) b.runs ≡ true
  pub legs : list_all (λ leg. u (leg_standing leg)) (board_legs b) ≡ true

module _ (t u : Standing → Bool) (run_passes : Passes t) (leg_passes : Passes u) where
  abbrev Stands : Board → Type 0
  Stands b = AllStand t u b

  -- ---- one change of a board

  run_set : (b : Board) (r : ℕ) (f : Run → Run) → ((x : Run) → (f x).jobs ≡ x.jobs) → ((x : Run) → t (run_standing x) ≡ true → t (run_standing (f x)) ≡ true)
      → Stands b → Stands (with_run b r f)
  run_set b r f keeps step h = record {
    runs = all-each (λ run. t (run_standing run)) b.runs r f step h.runs;
    legs = ap (λ jobs. list_all (λ leg. u (leg_standing leg)) (flat_map (λ (x : Job). x.legs) jobs)) (flat_map-kept (λ (x : Run). x.jobs) b.runs r f keeps) ∙ h.legs;
  }

  numbered_set : (b : Board) (l : ℕ) (f : Leg → Leg) → ((x : Leg) → u (leg_standing x) ≡ true → u (leg_standing (f x)) ≡ true)
      → Stands b → Stands (with_numbered_leg b l f)
  numbered_set b l f step h = record {
    runs = kept (leg_place b l);
    legs = ap (list_all (λ leg. u (leg_standing leg))) (numbered_leg-changed b l f) ∙ all-each (λ leg. u (leg_standing leg)) (board_legs b) l f step h.legs;
  }
    where
      kept : (o : Option LegPlace) → list_all (λ run. t (run_standing run)) (leg_changed b.runs o f) ≡ true
      kept None = h.runs
      kept (Some at) = all-each (λ run. t (run_standing run)) b.runs at.run
          (λ run. record run { jobs = changed run.jobs at.job (λ job. record job { legs = changed job.legs at.leg f }) }) (λ x k. k) h.runs

  leg_put : (b : Board) (l : ℕ) (at : LegPlace) (f : Leg → Leg) → leg_place b l ≡ Some at → ((x : Leg) → u (leg_standing x) ≡ true → u (leg_standing (f x)) ≡ true)
      → Stands b → Stands (with_leg b at f)
  leg_put b l at f is step h = record {
    runs = all-each (λ run. t (run_standing run)) b.runs at.run
        (λ run. record run { jobs = changed run.jobs at.job (λ job. record job { legs = changed job.legs at.leg f }) }) (λ x k. k) h.runs;
    legs = ap (list_all (λ leg. u (leg_standing leg))) (board_legs-changed b l at f is) ∙ all-each (λ leg. u (leg_standing leg)) (board_legs b) l f step h.legs;
  }

  job_set : (b : Board) (place : JobPlace) (state : JobState) → Stands b → Stands (rows.job_state_set b place state)
  job_set b place state h =
      let in_job : Job → Job = λ job. record job { state = state } in
      let in_run : Run → Run = λ run. record run { jobs = changed run.jobs place.job in_job } in
      let legs : board_legs (rows.job_state_set b place state) ≡ board_legs b =
      flat_map-twice (λ (run : Run). run.jobs) (λ (job : Job). job.legs) (changed b.runs place.run in_run)
      ∙ flat_map-kept (λ (run : Run). flat_map (λ (job : Job). job.legs) run.jobs) b.runs place.run in_run (λ run. flat_map-kept (λ (job : Job). job.legs) run.jobs place.job in_job (λ job. refl))
      ∙ sym (flat_map-twice (λ (run : Run). run.jobs) (λ (job : Job). job.legs) b.runs) in
      record {
        runs = all-each (λ run. t (run_standing run)) b.runs place.run in_run (λ x k. k) h.runs;
        legs = ap (list_all (λ leg. u (leg_standing leg))) legs ∙ h.legs;
      }

  -- ---- groups

  -- a member may wait for a name
  abbrev MayWait : List ℕ → Member → Type 0
  MayWait name (Member.Run r) = t (waiting (Some name)) ≡ true
  MayWait name (Member.Leg l) = u (waiting (Some name)) ≡ true

  closed_stands : (b : Board) (r : ℕ) (result : Outcome) → Stands b → Stands (closed b r result)
  closed_stands b r result = run_set b r (λ run. record run { state = RunState.Closed result }) (λ x. refl) (λ x k. run_passes.none)

  dropped_stands : (b : Board) (l : ℕ) (result : Outcome) → Stands b → Stands (dropped b l result)
  dropped_stands b l result h =
      let now = numbered_set b l (λ leg. record leg { state = LegState.Ended result false }) (λ x k. leg_passes.none) h in
      record { runs = now.runs; legs = now.legs }

  cancelled_stands : (b : Board) (m : Member) → Stands b → Stands (cancelled b m)
  cancelled_stands b (Member.Run r) h = closed_stands b r Outcome.Cancelled h
  cancelled_stands b (Member.Leg l) h = dropped_stands b l Outcome.Cancelled h

  admitted_stands : (b : Board) (name : Option (List ℕ)) (m : Member) → Stands b → Stands (admitted b name m)
  admitted_stands b name (Member.Run r) h = run_set b r (λ run. record run { state = RunState.Going; group = name }) (λ x. refl) (λ x k. run_passes.held name) h
  admitted_stands b name (Member.Leg l) h = numbered_set b l (λ leg. record leg { state = LegState.Admitted; group = name }) (λ x k. leg_passes.held name) h

  waits_stands : (b : Board) (name : List ℕ) (m : Member) → MayWait name m → Stands b → Stands (waits b name m)
  waits_stands b name (Member.Run r) may h = run_set b r (λ run. record run { state = RunState.Waiting; group = Some name }) (λ x. refl) (λ x k. may) h
  waits_stands b name (Member.Leg l) may h = numbered_set b l (λ leg. record leg { state = LegState.Waiting; group = Some name }) (λ x k. may) h

  passed_stands : (b : Board) (o : Option Member) → Stands b → Stands (passed_on b o)
  passed_stands b None h = h
  passed_stands b (Some (Member.Run r)) h = run_set b r (λ run. record run { state = RunState.Going }) (λ x. refl) (λ x k. run_passes.held x.group) h
  passed_stands b (Some (Member.Leg l)) h = numbered_set b l (λ leg. record leg { state = LegState.Admitted }) (λ x k. leg_passes.held x.group) h

  displaced_stands : (b : Board) (o : Option Member) → Stands b → Stands (displaced b o)
  displaced_stands b None h = h
  displaced_stands b (Some m) h = cancelled_stands b m h

  stopped_stands : (b : Board) (cancel : Bool) (m : Member) → Stands b → Stands (stopped b cancel m)
  stopped_stands b false m h = h
  stopped_stands b true (Member.Run r) h = run_set b r (λ run. record run { stop = true }) (λ x. refl) (λ x k. k) h
  stopped_stands b true (Member.Leg l) h = numbered_set b l (λ leg. record leg { stop = true }) (λ x k. k) h

  enters_stands : (b : Board) (m : Member) (own : Option ℕ) (group : Option Entrance) → ((g : Entrance) → group ≡ Some g → MayWait g.name m) → Stands b
      → Stands (enters b m own group).0
  enters_stands b m own None may h = admitted_stands b None m h
  enters_stands b m own (Some g) may h = held (holder b g.name)
    where
      queue : (holds : Member) → Stands (queued b m g holds (waiter b g.name)).0
      queue holds =
          stopped_stands (displaced (waits b g.name m) (waiter b g.name)) g.cancel holds
          (displaced_stands (waits b g.name m) (waiter b g.name) (waits_stands b g.name m (may g refl) h))

      own_or_queue : (holds : Member) (c : Bool) → Stands (if c then (cancelled b m, moved) else queued b m g holds (waiter b g.name)).0
      own_or_queue holds true = cancelled_stands b m h
      own_or_queue holds false = queue holds

      held : (o : Option Member) → Stands (enters_held b m own g o (waiter b g.name)).0
      held None = admitted_stands b (Some g.name) m h
      held (Some holds) = own_or_queue holds (is_own own holds)

  leaves_stands : (b : Board) (s : Standing) (after : Board) → Stands after → Stands (leaves b s after).0
  leaves_stands b s after h = passed_stands after (next_after b s) h

  -- ---- rows

  -- what a row leads to, if it is accepted
  abbrev StandsThen : Row → Type 0
  StandsThen (Ok x) = Stands x.0
  StandsThen (Err refusal) = Unit {0}

  -- a name that a run asks for may be waited for, and so may one that a leg of the plan asks for
  pub record MayAsk (p : Plan) : Type 0 where
    pub run : (name : List ℕ) → t (waiting (Some name)) ≡ true
    pub leg : (b : Board) (l : ℕ) (at : LegAt) (g : Entrance) → leg_at p b l ≡ Some at → leg_entrance at ≡ Ok (Some g) → u (waiting (Some g.name)) ≡ true

  module _ (p : Plan) (may : MayAsk p) (b : Board) (h : Stands b) where
    run_entered : (r : ℕ) (x : Result (Option Entrance) ValueFault) → StandsThen (rows.run_enters b r x)
    run_entered r (Ok group) = enters_stands b (Member.Run r) None group (λ g _. may.run g.name) h
    run_entered r (Err f) = closed_stands b r Outcome.Failure h

    opened : (r : ℕ) (at : RunAt) (s : RunState) (stop : Bool) → StandsThen (rows.open_run b r at s stop)
    opened r at RunState.New false = run_entered r (run_entrance at)
    opened r at RunState.New true = tt
    opened r at RunState.Waiting stop = tt
    opened r at RunState.Going stop = tt
    opened r at (RunState.Closed result) stop = tt

    judged : (place : JobPlace) (x : Result JobState EventFault) → StandsThen (rows.judge_job b place x)
    judged place (Ok state) = job_set b place state h
    judged place (Err f) = tt

    leg_entered : (l : ℕ) (at : LegAt) → leg_at p b l ≡ Some at → (x : Result (Option Entrance) ValueFault) → leg_entrance at ≡ x → StandsThen (rows.leg_enters b l at x)
    leg_entered l at is (Ok group) asks =
        enters_stands b (Member.Leg l) (Some at.place.run) group (λ g same. may.leg b l at g is (asks ∙ ap (λ o. Ok o) same)) h
    leg_entered l at is (Err f) asks = dropped_stands b l Outcome.Failure h

    no_row : (f : EventFault) → StandsThen (Err f)
    no_row f = tt

    asked : (l : ℕ) (at : LegAt) → leg_at p b l ≡ Some at → StandsThen (rows.ask_leg b l at)
    asked l at is =
        by_test StandsThen (not (rows.may_ask at)) (Err EventFault.WrongState) _ (no_row EventFault.WrongState)
        (by_test StandsThen (is_full at.job_plan at.job) (Err EventFault.SlotsFull) _ (no_row EventFault.SlotsFull)
        (by_test StandsThen (is_stopping at) (Err EventFault.Stopping) (rows.leg_enters b l at (leg_entrance at)) (no_row EventFault.Stopping)
        (leg_entered l at is (leg_entrance at) refl)))

    left : (s : Standing) (after : Board) → Stands after → StandsThen (Ok (leaves b s after))
    left s after k = leaves_stands b s after k

    dropping : (l : ℕ) (at : LegAt) → StandsThen (rows.drop_leg b l at)
    dropping l at =
        by_test StandsThen (not (rows.may_drop at)) (Err EventFault.WrongState) _ (no_row EventFault.WrongState)
        (by_test StandsThen (is_stopping at) (Ok (leaves b (leg_standing at.leg) (dropped b l Outcome.Cancelled))) (Err EventFault.NotStopping)
        (left (leg_standing at.leg) (dropped b l Outcome.Cancelled) (dropped_stands b l Outcome.Cancelled h)) (no_row EventFault.NotStopping))

    -- a leg that was found has a worker now
    running : (l : ℕ) (at : LegAt) → leg_at p b l ≡ Some at → (worker : ℕ) (in_call : Bool) → Stands (rows.leg_state_set b at.place (LegState.Running worker in_call))
    running l at is worker in_call =
        leg_put b l at.place (λ leg. record leg { state = LegState.Running worker in_call }) (leg_stands p b l at is).place (λ x k. leg_passes.held x.group) h

    stepped : (l : ℕ) (at : LegAt) → leg_at p b l ≡ Some at → (worker : ℕ) (done : DoneStep) → Stands (rows.step_done b at.place worker done)
    stepped l at is worker done =
        leg_put b l at.place (λ leg. record leg { state = LegState.Running worker false; steps = leg.steps ++ done ∷ [] }) (leg_stands p b l at is).place
        (λ x k. leg_passes.held x.group) h

    taken : (l : ℕ) (at : LegAt) → leg_at p b l ≡ Some at → (worker : ℕ) (s : LegState) → StandsThen (rows.take_leg b worker at s)
    taken l at is worker LegState.Fresh = tt
    taken l at is worker LegState.Waiting = tt
    taken l at is worker LegState.Admitted =
        by_test StandsThen (is_stopping at) (Err EventFault.Stopping) (Ok (rows.leg_state_set b at.place (LegState.Running worker false), moved)) tt (running l at is worker false)
    taken l at is worker (LegState.Running other in_call) = tt
    taken l at is worker (LegState.Ended result tolerated) = tt

    begun : (l : ℕ) (at : LegAt) → leg_at p b l ≡ Some at → (worker : ℕ) (x : Result Beginning EventFault) → StandsThen (rows.begin_leg b worker at x)
    begun l at is worker (Ok (calls call)) = running l at is worker true
    begun l at is worker (Ok skips) = stepped l at is worker rows.skipped_step
    begun l at is worker (Ok (faults f)) = stepped l at is worker (rows.failed_step at)
    begun l at is worker (Err f) = tt

    ended : (l : ℕ) (at : LegAt) → leg_at p b l ≡ Some at → (worker : ℕ) (x : Result DoneStep EventFault) → StandsThen (rows.end_leg b worker at x)
    ended l at is worker (Ok done) = stepped l at is worker done
    ended l at is worker (Err f) = tt

    finished : (l : ℕ) (at : LegAt) → leg_at p b l ≡ Some at → (worker : ℕ) (o : Option ℕ) → StandsThen (rows.finish_leg b l at (rows.finishing_by worker at o))
    finished l at is worker None = tt
    finished l at is worker (Some owner) = by (not (worker == owner)) (nat_lt (length at.leg.steps) (length at.job_plan.steps))
      where
        now : Stands (rows.leg_ended b at.place l (rows.ended_state at (leg_result at)) (leg_outputs at))
        now =
            let put = leg_put b l at.place (λ leg. record leg { state = rows.ended_state at (leg_result at); outputs = leg_outputs at }) (leg_stands p b l at is).place
            (λ x k. leg_passes.none) h in
            record { runs = put.runs; legs = put.legs }

        by : (c d : Bool)
            → StandsThen (rows.finish_leg b l at (if c then Err EventFault.OtherWorker else (if d then Err EventFault.StepsLeft else Ok (rows.ended_state at (leg_result at)))))
        by true d = tt
        by false true = tt
        by false false = leaves_stands b (leg_standing at.leg) (rows.leg_ended b at.place l (rows.ended_state at (leg_result at)) (leg_outputs at)) now

    closing : (r : ℕ) (run : Run) (result : Outcome) → StandsThen (rows.run_closes b r run result)
    closing r run result = left (run_standing run) (closed b r result) (closed_stands b r result h)

    unstarted : (r : ℕ) (run : Run) (stop : Bool) → StandsThen (rows.close_waiting b r run stop)
    unstarted r run true = closing r run Outcome.Cancelled
    unstarted r run false = tt

    closes : (r : ℕ) (run : Run) (s : RunState) → StandsThen (rows.close_run b r run s)
    closes r run RunState.New = unstarted r run run.stop
    closes r run RunState.Waiting = unstarted r run run.stop
    closes r run RunState.Going =
        by_test StandsThen (jobs_have_ended run) (rows.run_closes b r run (run_result run)) (Err EventFault.NeedsOpen) (closing r run (run_result run)) tt
    closes r run (RunState.Closed result) = tt

    told_to_stop : (r : ℕ) (run : Run) → StandsThen (rows.cancel_run b r run)
    told_to_stop r run =
        by_test StandsThen (is_closed run.state || run.stop) (Err EventFault.WrongState) (Ok (stopped b true (Member.Run r), moved)) tt (stopped_stands b true (Member.Run r) h)

    event_stands : (worker : ℕ) (e : Event) → StandsThen (rows.event_row p b worker e)
    event_stands worker (Event.Open r) = found (run_at p b r)
      where
        found : (o : Option RunAt) → StandsThen (rows.open_found b r o)
        found None = no_row EventFault.NoSuch
        found (Some at) = opened r at at.run.state at.run.stop
    event_stands worker (Event.Judge j) = found (job_at p b j)
      where
        found : (o : Option JobAt) → StandsThen (rows.judge_found b j o)
        found None = no_row EventFault.NoSuch
        found (Some at) = judged at.place (rows.judgement j at)
    event_stands worker (Event.Ask l) = found (leg_at p b l) refl
      where
        found : (o : Option LegAt) → leg_at p b l ≡ o → StandsThen (rows.ask_found b l o)
        found None is = no_row EventFault.NoSuch
        found (Some at) is = asked l at is
    event_stands worker (Event.Drop l) = found (leg_at p b l)
      where
        found : (o : Option LegAt) → StandsThen (rows.drop_found b l o)
        found None = no_row EventFault.NoSuch
        found (Some at) = dropping l at
    event_stands worker (Event.Take l) = found (leg_at p b l) refl
      where
        found : (o : Option LegAt) → leg_at p b l ≡ o → StandsThen (rows.take_found b worker o)
        found None is = no_row EventFault.NoSuch
        found (Some at) is = taken l at is worker at.leg.state
    event_stands worker (Event.Begin l) = found (leg_at p b l) refl
      where
        found : (o : Option LegAt) → leg_at p b l ≡ o → StandsThen (rows.begin_found b worker l o)
        found None is = no_row EventFault.NoSuch
        found (Some at) is = begun l at is worker (rows.beginning worker l at)
    event_stands worker (Event.End l a) = found (leg_at p b l) refl
      where
        found : (o : Option LegAt) → leg_at p b l ≡ o → StandsThen (rows.end_found b worker a o)
        found None is = no_row EventFault.NoSuch
        found (Some at) is = ended l at is worker (rows.ending worker at a)
    event_stands worker (Event.Finish l) = found (leg_at p b l) refl
      where
        found : (o : Option LegAt) → leg_at p b l ≡ o → StandsThen (rows.finish_found b worker l o)
        found None is = no_row EventFault.NoSuch
        found (Some at) is = finished l at is worker (rows.idle_owner at.leg.state)
    event_stands worker (Event.Close r) = found (run_at p b r)
      where
        found : (o : Option RunAt) → StandsThen (rows.close_found b r o)
        found None = no_row EventFault.NoSuch
        found (Some at) = closes r at.run at.run.state
    event_stands worker (Event.Cancel r) = found (run_at p b r)
      where
        found : (o : Option RunAt) → StandsThen (rows.cancel_found b r o)
        found None = no_row EventFault.NoSuch
        found (Some at) = told_to_stop r at.run

    row_stands : (worker : ℕ) (e : Event) → StandsThen (rows.row p b worker e)
    row_stands worker e = by_test StandsThen (nat_le worker 15) (rows.event_row p b worker e) (Err EventFault.NoSuch) (event_stands worker e) (no_row EventFault.NoSuch)

  -- ---- lists of entries

  after_stands : (p : Plan) → MayAsk p → (b c : Board) (es : List Entry) → Stands b → after_from p b es ≡ Some c → Stands c
  after_stands p may b c [] h is = subst Stands (same_some b c is) h
  after_stands p may b c (e ∷ es) h is = step (λ d k. after_stands p may d c es k) (rows.row p b e.worker e.event) (row_stands p may b h e.worker e.event) is
    where
      step : ((d : Board) → Stands d → after_from p d es ≡ Some c → Stands c) → (r : Row) → StandsThen r → then_after r (λ next. after_from p next es) ≡ Some c → Stands c
      step later (Ok x) now k = later x.0 now k
      step later (Err f) now k = absurd (no_some c k)

  new_stands : (p : Plan) → Stands (new_board p)
  new_stands p = record {
    runs = all-map (λ run. t (run_standing run)) new_run p.runs (λ plan. run_passes.none);
    legs = ap (list_all (λ leg. u (leg_standing leg))) new_legs ∙ all-map (λ leg. u (leg_standing leg)) new_leg (plan_legs p) (λ combo. leg_passes.none);
  }
    where
      new_legs : board_legs (new_board p) ≡ map new_leg (plan_legs p)
      new_legs =
          ap (flat_map (λ (job : Job). job.legs)) (flat_map-map new_run (λ (run : Run). run.jobs) new_job (λ run. run.jobs) p.runs (λ run. refl))
          ∙ flat_map-map new_job (λ (job : Job). job.legs) new_leg (λ job. job.legs) (plan_jobs p) (λ job. refl)

  pub legal_stands : (p : Plan) → MayAsk p → (es : List Entry) (b : Board) → after p es ≡ Some b → Stands b
  legal_stands p may es b is = after_stands p may (new_board p) b es (new_stands p) is
