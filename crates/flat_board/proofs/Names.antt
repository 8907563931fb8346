-- What is seen of the members of a board after an event.
use Rattle.std.proofs.Common.{◌≡◌, ℕ, zero, suc, ◌&&◌, ◌||◌, ◌==◌, ◌++◌, Bool, true, false, not, List, [], ◌∷◌, Option, Some, None, Result, Ok, Err, slice_get, nat_lt, length, option_and_then, if◌then◌else◌, ap, subst, sym, refl, ◌∙◌}
use Rattle.flat_board.specs.Words.{Answer, Beginning, Board, DoneStep, Entrance, Event, EventFault, Job, JobAt, JobPlace, JobState, Leg, LegAt, LegPlace, LegState, Member, Outcome, Plan, Row, Run, RunAt, RunState, Seen, Standing, ValueFault, admitted, ask_found, begin_found, begin_leg, beginning, board_legs, calls, cancel_found, cancelled, changed, close_found, close_run, close_waiting, closed, displaced, drop_found, dropped, end_found, end_leg, ended_state, ending, enters, enters_held, event_row, failed_step, faults, finish_found, finish_leg, finishing_by, flat_map, group_at, group_of, holder, idle_owner, is_closed, is_fresh, is_full, is_going, is_new, is_open, is_own, is_stopping, job_at, job_state_set, jobs_have_ended, judge_found, judge_job, judgement, leaves, leg_at, leg_changed, leg_ended, leg_enters, leg_entrance, leg_names, leg_outputs, leg_place, leg_result, leg_standing, leg_state_set, leg_there, may_ask, may_drop, moved, next_after, open_found, open_run, passed_on, queued, run_at, run_closes, run_enters, run_entrance, run_names, run_result, run_standing, seen_at, skipped_step, skips, step_done, stopped, take_found, take_leg, waiter, waits, with_leg, with_numbered_leg, with_run, ◌>>=◌}
use Rattle.board_decisions.proofs.Lists.{and-right}
use Rattle.status_table.proofs.Decided.{by_test}
use Rattle.status_table.proofs.Found.{leg_item, leg_stands, run_stands}
use Rattle.status_table.proofs.Lists.{changed-cons, flat_map-kept, flat_map-twice}
use Rattle.status_table.proofs.Numbers.{legs_are_numbered, numbered_leg-changed}
use Rattle.status_table.proofs.Turnover.{numbered}

-- ---- an item is changed

changed_step : {T : Type 0} (P : Seen → Type 0) (h : T → Seen) (xs : List T) (i : ℕ) (f : T → T) → ((x : T) → slice_get xs i ≡ Some x → P (h x) → P (h (f x)))
    → (k : ℕ) → P (slice_get xs k >>= h) → P (slice_get (changed xs i f) k >>= h)
changed_step P h [] i f step k s = s
changed_step P h (y ∷ ys) zero f step zero s = step y refl s
changed_step P h (y ∷ ys) zero f step (suc k) s = s
changed_step {T} P h (y ∷ ys) (suc i) f step zero s = subst (λ (zs : List T). P (slice_get zs 0 >>= h)) (sym (changed-cons y ys i f)) s
changed_step {T} P h (y ∷ ys) (suc i) f step (suc k) s = subst (λ (zs : List T). P (slice_get zs (suc k) >>= h)) (sym (changed-cons y ys i f)) (changed_step P h ys i f step k s)

module _ (P : Seen → Type 0) (m : Member) (b : Board) where
  run_step : (r : ℕ) (f : Run → Run) → ((run : Run) → slice_get b.runs r ≡ Some run → P (run_names run) → P (run_names (f run))) → ((run : Run) → (f run).jobs ≡ run.jobs)
      → P (seen_at b m) → P (seen_at (with_run b r f) m)
  run_step r f step jobs = by m
    where
      by : (m : Member) → P (seen_at b m) → P (seen_at (with_run b r f) m)
      by (Member.Run s) h = changed_step P run_names b.runs r f step s h
      by (Member.Leg l) h = subst (λ (js : List Job). P (slice_get (flat_map (λ (x : Job). x.legs) js) l >>= leg_names)) (sym (flat_map-kept (λ (x : Run). x.jobs) b.runs r f jobs)) h

  leg_step : (l : ℕ) (f : Leg → Leg) → ((leg : Leg) → slice_get (board_legs b) l ≡ Some leg → P (leg_names leg) → P (leg_names (f leg)))
      → P (seen_at b m) → P (seen_at (with_numbered_leg b l f) m)
  leg_step l f step = by m
    where
      by_place : (s : ℕ) (o : Option LegPlace) → P (slice_get b.runs s >>= run_names) → P (slice_get (leg_changed b.runs o f) s >>= run_names)
      by_place s None h = h
      by_place s (Some place) h =
          changed_step P run_names b.runs place.run (λ run. record run { jobs = changed run.jobs place.job (λ job. record job { legs = changed job.legs place.leg f }) }) (λ run at h. h) s h

      by : (m : Member) → P (seen_at b m) → P (seen_at (with_numbered_leg b l f) m)
      by (Member.Run s) h = by_place s (leg_place b l) h
      by (Member.Leg k) h = subst (λ (legs : List Leg). P (slice_get legs k >>= leg_names)) (sym (numbered_leg-changed b l f)) (changed_step P leg_names (board_legs b) l f step k h)

  placed_step : (l : ℕ) (place : LegPlace) (f : Leg → Leg) → leg_place b l ≡ Some place → ((leg : Leg) → slice_get (board_legs b) l ≡ Some leg → P (leg_names leg) → P (leg_names (f leg)))
      → P (seen_at b m) → P (seen_at (with_leg b place f) m)
  placed_step l place f is step h = subst (λ (rs : List Run). P (seen_at (record b { runs = rs }) m)) (numbered b l place f is) (leg_step l f step h)

  job_step : (place : JobPlace) (state : JobState) → P (seen_at b m) → P (seen_at (job_state_set b place state) m)
  job_step place state = by m
    where
      in_run : Run → Run
      in_run run = record run { jobs = changed run.jobs place.job (λ job. record job { state = state }) }

      same : board_legs (job_state_set b place state) ≡ board_legs b
      same =
          flat_map-twice (λ (x : Run). x.jobs) (λ (x : Job). x.legs) (changed b.runs place.run in_run)
          ∙ flat_map-kept (λ (x : Run). flat_map (λ (y : Job). y.legs) x.jobs) b.runs place.run in_run
          (λ run. flat_map-kept (λ (y : Job). y.legs) run.jobs place.job (λ job. record job { state = state }) (λ job. refl))
          ∙ sym (flat_map-twice (λ (x : Run). x.jobs) (λ (x : Job). x.legs) b.runs)

      by : (m : Member) → P (seen_at b m) → P (seen_at (job_state_set b place state) m)
      by (Member.Run s) h = changed_step P run_names b.runs place.run in_run (λ run at h. h) s h
      by (Member.Leg l) h = subst (λ (legs : List Leg). P (slice_get legs l >>= leg_names)) (sym same) h

-- ---- who is new

-- whether one is
abbrev pub flag_of : Seen → Bool
flag_of None = false
flag_of (Some s) = s.0

-- the name of the group that is entered
abbrev pub group_name : Option Entrance → Option (List ℕ)
group_name None = None
group_name (Some group) = Some group.name

-- whom an event lets enter a group
abbrev pub Enters : Plan → Board → Event → Option Entrance → Type 0
Enters p b (Event.Open r) group = (at : RunAt) × (run_at p b r ≡ Some at) × (run_entrance at ≡ Ok group)
Enters p b (Event.Ask l) group = (at : LegAt) × (leg_at p b l ≡ Some at) × (leg_entrance at ≡ Ok group)
Enters p b e group = ⊥

-- how one that is new comes into a group
abbrev pub Comes : (Seen → Type 0) → Option Entrance → Type 0
Comes P group = (s : Seen) → flag_of s ≡ true → P s → P (Some (false, group_name group))

-- who is seen where a run is found, or a leg
pub seen_run : (p : Plan) (b : Board) (r : ℕ) (at : RunAt) → run_at p b r ≡ Some at → seen_at b (Member.Run r) ≡ run_names at.run
seen_run p b r at is = ap (λ o. o >>= run_names) (run_stands p b r at is).run

pub seen_leg : (p : Plan) (b : Board) (l : ℕ) (at : LegAt) → leg_at p b l ≡ Some at → seen_at b (Member.Leg l) ≡ leg_names at.leg
seen_leg p b l at is = ap (λ o. o >>= leg_names) (leg_item p b l at (leg_stands p b l at is))

-- the group of a leg whose place is found
pub placed_group : (b : Board) (l : ℕ) (o : Option LegPlace) → o ≡ leg_place b l → option_and_then (λ leg. leg.group) (option_and_then (leg_there b) o) ≡ group_at b (Member.Leg l)
placed_group b l o is = by o ∙ ap (λ x. group_of ((x >>= leg_there b) >>= leg_names)) is ∙ ap (λ x. group_of (x >>= leg_names)) ((legs_are_numbered b).there l)
  where
    of_leg : (q : Option Leg) → option_and_then (λ (leg : Leg). leg.group) q ≡ group_of (q >>= leg_names)
    of_leg None = refl
    of_leg (Some leg) = refl

    by : (o : Option LegPlace) → option_and_then (λ (leg : Leg). leg.group) (option_and_then (leg_there b) o) ≡ group_of ((o >>= leg_there b) >>= leg_names)
    by None = refl
    by (Some place) = of_leg (leg_there b place)

-- so it is with a member after a row that is no refusal
abbrev pub ThenSeen : (Seen → Type 0) → Member → Row → Type 0
ThenSeen P m (Ok x) = P (seen_at x.0 m)
ThenSeen P m (Err f) = Unit {0}

-- one that is not new any more keeps its group
module _ (P : Seen → Type 0) (older : (new : Bool) (group : Option (List ℕ)) → P (Some (new, group)) → P (Some (false, group))) (m : Member) where
  closed_step : (b : Board) (r : ℕ) (result : Outcome) → P (seen_at b m) → P (seen_at (closed b r result) m)
  closed_step b r result = run_step P m b r (λ run. record run { state = RunState.Closed result }) (λ run at. older (is_new run.state) run.group) (λ run. refl)

  dropped_step : (b : Board) (l : ℕ) (result : Outcome) → P (seen_at b m) → P (seen_at (dropped b l result) m)
  dropped_step b l result = leg_step P m b l (λ leg. record leg { state = LegState.Ended result false }) (λ leg at. older (is_fresh leg.state) leg.group)

  passed_step : (b : Board) (next : Option Member) → P (seen_at b m) → P (seen_at (passed_on b next) m)
  passed_step b None s = s
  passed_step b (Some (Member.Run r)) s = run_step P m b r (λ run. record run { state = RunState.Going }) (λ run at. older (is_new run.state) run.group) (λ run. refl) s
  passed_step b (Some (Member.Leg l)) s = leg_step P m b l (λ leg. record leg { state = LegState.Admitted }) (λ leg at. older (is_fresh leg.state) leg.group) s

  cancelled_step : (b : Board) (who : Member) → P (seen_at b m) → P (seen_at (cancelled b who) m)
  cancelled_step b (Member.Run r) = closed_step b r Outcome.Cancelled
  cancelled_step b (Member.Leg l) = dropped_step b l Outcome.Cancelled

  displaced_step : (b : Board) (waited : Option Member) → P (seen_at b m) → P (seen_at (displaced b waited) m)
  displaced_step b None s = s
  displaced_step b (Some waited) s = cancelled_step b waited s

  stopped_step : (b : Board) (stop : Bool) (who : Member) → P (seen_at b m) → P (seen_at (stopped b stop who) m)
  stopped_step b false who s = s
  stopped_step b true (Member.Run r) s = run_step P m b r (λ run. record run { stop = true }) (λ run at h. h) (λ run. refl) s
  stopped_step b true (Member.Leg l) s = leg_step P m b l (λ leg. record leg { stop = true }) (λ leg at h. h) s

  admitted_step : (b : Board) (who : Member) → flag_of (seen_at b who) ≡ true → (group : Option Entrance) → Comes P group → P (seen_at b m) → P (seen_at (admitted b (group_name group) who) m)
  admitted_step b (Member.Run r) new group comes = run_step P m b r (λ run. record run { state = RunState.Going; group = group_name group })
      (λ run at. comes (run_names run) (ap (λ o. flag_of (o >>= run_names)) (sym at) ∙ new)) (λ run. refl)
  admitted_step b (Member.Leg l) new group comes = leg_step P m b l (λ leg. record leg { state = LegState.Admitted; group = group_name group })
      (λ leg at. comes (leg_names leg) (ap (λ o. flag_of (o >>= leg_names)) (sym at) ∙ new))

  waits_step : (b : Board) (who : Member) → flag_of (seen_at b who) ≡ true → (group : Entrance) → Comes P (Some group) → P (seen_at b m) → P (seen_at (waits b group.name who) m)
  waits_step b (Member.Run r) new group comes = run_step P m b r (λ run. record run { state = RunState.Waiting; group = Some group.name })
      (λ run at. comes (run_names run) (ap (λ o. flag_of (o >>= run_names)) (sym at) ∙ new)) (λ run. refl)
  waits_step b (Member.Leg l) new group comes = leg_step P m b l (λ leg. record leg { state = LegState.Waiting; group = Some group.name })
      (λ leg at. comes (leg_names leg) (ap (λ o. flag_of (o >>= leg_names)) (sym at) ∙ new))

  enters_step : (b : Board) (who : Member) → flag_of (seen_at b who) ≡ true → (own : Option ℕ) (group : Option Entrance) → Comes P group → P (seen_at b m) → P (seen_at (enters b who own group).0 m)
  enters_step b who new own None comes s = admitted_step b who new None comes s
  enters_step b who new own (Some group) comes s = by (holder b group.name) (waiter b group.name)
    where
      by : (held waited : Option Member) → P (seen_at (enters_held b who own group held waited).0 m)
      by None waited = admitted_step b who new (Some group) comes s
      by (Some held) waited = own_or (is_own own held)
        where
          own_or : (mine : Bool) → P (seen_at (if mine then (cancelled b who, moved) else queued b who group held waited).0 m)
          own_or true = cancelled_step b who s
          own_or false =
              stopped_step (displaced (waits b group.name who) waited) group.cancel held (displaced_step (waits b group.name who) waited (waits_step b who new group comes s))

  leaves_step : (b : Board) (standing : Standing) (after : Board) → P (seen_at after m) → P (seen_at (leaves b standing after).0 m)
  leaves_step b standing after s = passed_step after (next_after b standing) s

-- ---- the events

module _ (P : Seen → Type 0) (older : (new : Bool) (group : Option (List ℕ)) → P (Some (new, group)) → P (Some (false, group))) (m : Member) (p : Plan) (b : Board) (worker : ℕ) (s : P (seen_at b m)) where
  state_set : (l : ℕ) (at : LegAt) → leg_at p b l ≡ Some at → (state : LegState) → is_fresh state ≡ false → P (seen_at (leg_state_set b at.place state) m)
  state_set l at is state old = placed_step P m b l at.place (λ leg. record leg { state = state }) (leg_stands p b l at is).place
      (λ leg found h. subst (λ (new : Bool). P (Some (new, leg.group))) (sym old) (older (is_fresh leg.state) leg.group h)) s

  done_step : (l : ℕ) (at : LegAt) → leg_at p b l ≡ Some at → (done : DoneStep) → P (seen_at (step_done b at.place worker done) m)
  done_step l at is done = placed_step P m b l at.place (λ leg. record leg { state = LegState.Running worker false; steps = leg.steps ++ done ∷ [] })
      (leg_stands p b l at is).place (λ leg found. older (is_fresh leg.state) leg.group) s

  opened : (r : ℕ) → ((group : Option Entrance) → Enters p b (Event.Open r) group → Comes P group) → ThenSeen P m (open_found b r (run_at p b r))
  opened r comes = by (run_at p b r) refl
    where
      entered : (at : RunAt) → run_at p b r ≡ Some at → at.run.state ≡ RunState.New → (x : Result (Option Entrance) ValueFault) → run_entrance at ≡ x → ThenSeen P m (run_enters b r x)
      entered at is new (Ok group) value =
          enters_step P older m b (Member.Run r) (ap flag_of (seen_run p b r at is) ∙ ap is_new new) None group (comes group (at, is, value)) s
      entered at is new (Err f) value = closed_step P older m b r Outcome.Failure s

      found : (at : RunAt) → run_at p b r ≡ Some at → (state : RunState) (stop : Bool) → at.run.state ≡ state → ThenSeen P m (open_run b r at state stop)
      found at is RunState.New false new = entered at is new (run_entrance at) refl
      found at is state stop new = tt

      by : (o : Option RunAt) → run_at p b r ≡ o → ThenSeen P m (open_found b r o)
      by None is = tt
      by (Some at) is = found at is at.run.state at.run.stop refl

  judged : (j : ℕ) (o : Option JobAt) → ThenSeen P m (judge_found b j o)
  judged j None = tt
  judged j (Some at) = by (judgement j at)
    where
      by : (x : Result JobState EventFault) → ThenSeen P m (judge_job b at.place x)
      by (Ok state) = job_step P m b at.place state s
      by (Err f) = tt

  asked : (l : ℕ) → ((group : Option Entrance) → Enters p b (Event.Ask l) group → Comes P group) → ThenSeen P m (ask_found b l (leg_at p b l))
  asked l comes = by (leg_at p b l) refl
    where
      entered : (at : LegAt) → leg_at p b l ≡ Some at → may_ask at ≡ true → (x : Result (Option Entrance) ValueFault) → leg_entrance at ≡ x → ThenSeen P m (leg_enters b l at x)
      entered at is may (Ok group) value =
          enters_step P older m b (Member.Leg l) (ap flag_of (seen_leg p b l at is) ∙ and-right (is_going at.run.state && is_open at.job.state) (is_fresh at.leg.state) may)
          (Some at.place.run) group (comes group (at, is, value)) s
      entered at is may (Err f) value = dropped_step P older m b l Outcome.Failure s

      may_or : (at : LegAt) → leg_at p b l ≡ Some at → (may : Bool) → may_ask at ≡ may
          → ThenSeen P m (if not may then Err EventFault.WrongState else (if is_full at.job_plan at.job then Err EventFault.SlotsFull else (if is_stopping at then Err EventFault.Stopping else leg_enters b l at (leg_entrance at))))
      may_or at is false may = tt
      may_or at is true may =
          by_test (ThenSeen P m) (is_full at.job_plan at.job) (Err EventFault.SlotsFull) (if is_stopping at then Err EventFault.Stopping else leg_enters b l at (leg_entrance at)) tt
          (by_test (ThenSeen P m) (is_stopping at) (Err EventFault.Stopping) (leg_enters b l at (leg_entrance at)) tt (entered at is may (leg_entrance at) refl))

      by : (o : Option LegAt) → leg_at p b l ≡ o → ThenSeen P m (ask_found b l o)
      by None is = tt
      by (Some at) is = may_or at is (may_ask at) refl

  dropping : (l : ℕ) (o : Option LegAt) → ThenSeen P m (drop_found b l o)
  dropping l None = tt
  dropping l (Some at) =
      by_test (ThenSeen P m) (not (may_drop at)) (Err EventFault.WrongState) (if is_stopping at then Ok (leaves b (leg_standing at.leg) (dropped b l Outcome.Cancelled)) else Err EventFault.NotStopping) tt
      (by_test (ThenSeen P m) (is_stopping at) (Ok (leaves b (leg_standing at.leg) (dropped b l Outcome.Cancelled))) (Err EventFault.NotStopping)
      (leaves_step P older m b (leg_standing at.leg) (dropped b l Outcome.Cancelled) (dropped_step P older m b l Outcome.Cancelled s)) tt)

  taken : (l : ℕ) (o : Option LegAt) → leg_at p b l ≡ o → ThenSeen P m (take_found b worker o)
  taken l None is = tt
  taken l (Some at) is = by at.leg.state
    where
      by : (state : LegState) → ThenSeen P m (take_leg b worker at state)
      by LegState.Admitted =
          by_test (ThenSeen P m) (is_stopping at) (Err EventFault.Stopping) (Ok (leg_state_set b at.place (LegState.Running worker false), moved)) tt
          (state_set l at is (LegState.Running worker false) refl)
      by state = tt

  begun : (l : ℕ) (o : Option LegAt) → leg_at p b l ≡ o → ThenSeen P m (begin_found b worker l o)
  begun l None is = tt
  begun l (Some at) is = by (beginning worker l at)
    where
      by : (x : Result Beginning EventFault) → ThenSeen P m (begin_leg b worker at x)
      by (Ok (calls call)) = state_set l at is (LegState.Running worker true) refl
      by (Ok skips) = done_step l at is skipped_step
      by (Ok (faults f)) = done_step l at is (failed_step at)
      by (Err f) = tt

  ended : (l : ℕ) (a : Answer) (o : Option LegAt) → leg_at p b l ≡ o → ThenSeen P m (end_found b worker a o)
  ended l a None is = tt
  ended l a (Some at) is = by (ending worker at a)
    where
      by : (x : Result DoneStep EventFault) → ThenSeen P m (end_leg b worker at x)
      by (Ok done) = done_step l at is done
      by (Err f) = tt

  closing : (r : ℕ) (o : Option RunAt) → ThenSeen P m (close_found b r o)
  closing r None = tt
  closing r (Some at) = by at.run.state
    where
      closes : (result : Outcome) → ThenSeen P m (run_closes b r at.run result)
      closes result = leaves_step P older m b (run_standing at.run) (closed b r result) (closed_step P older m b r result s)

      waiting_or : (stop : Bool) → ThenSeen P m (close_waiting b r at.run stop)
      waiting_or true = closes Outcome.Cancelled
      waiting_or false = tt

      by : (state : RunState) → ThenSeen P m (close_run b r at.run state)
      by RunState.Going = by_test (ThenSeen P m) (jobs_have_ended at.run) (run_closes b r at.run (run_result at.run)) (Err EventFault.NeedsOpen) (closes (run_result at.run)) tt
      by (RunState.Closed result) = tt
      by state = waiting_or at.run.stop

  cancelling : (r : ℕ) (o : Option RunAt) → ThenSeen P m (cancel_found b r o)
  cancelling r None = tt
  cancelling r (Some at) =
      by_test (ThenSeen P m) (is_closed at.run.state || at.run.stop) (Err EventFault.WrongState) (Ok (stopped b true (Member.Run r), moved)) tt (stopped_step P older m b true (Member.Run r) s)

  finished : (l : ℕ) (o : Option LegAt) → leg_at p b l ≡ o → ThenSeen P m (finish_found b worker l o)
  finished l None is = tt
  finished l (Some at) is = by (idle_owner at.leg.state)
    where
      ends : (other left : Bool) → ThenSeen P m (finish_leg b l at (if other then Err EventFault.OtherWorker else (if left then Err EventFault.StepsLeft else Ok (ended_state at (leg_result at)))))
      ends false false = leaves_step P older m b (leg_standing at.leg) (leg_ended b at.place l (ended_state at (leg_result at)) (leg_outputs at))
          (placed_step P m b l at.place (λ leg. record leg { state = ended_state at (leg_result at); outputs = leg_outputs at }) (leg_stands p b l at is).place
          (λ leg found. older (is_fresh leg.state) leg.group) s)
      ends other left = tt

      by : (o : Option ℕ) → ThenSeen P m (finish_leg b l at (finishing_by worker at o))
      by None = tt
      by (Some owner) = ends (not (worker == owner)) (nat_lt (length at.leg.steps) (length at.job_plan.steps))

  -- what is seen of a member after an event that was accepted
  pub event_step : (e : Event) → ((group : Option Entrance) → Enters p b e group → Comes P group) → ThenSeen P m (event_row p b worker e)
  event_step (Event.Open r) comes = opened r comes
  event_step (Event.Judge j) comes = judged j (job_at p b j)
  event_step (Event.Ask l) comes = asked l comes
  event_step (Event.Drop l) comes = dropping l (leg_at p b l)
  event_step (Event.Take l) comes = taken l (leg_at p b l) refl
  event_step (Event.Begin l) comes = begun l (leg_at p b l) refl
  event_step (Event.End l a) comes = ended l a (leg_at p b l) refl
  event_step (Event.Finish l) comes = finished l (leg_at p b l) refl
  event_step (Event.Close r) comes = closing r (run_at p b r)
  event_step (Event.Cancel r) comes = cancelling r (run_at p b r)
