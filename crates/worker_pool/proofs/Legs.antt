-- What the events of a board make of its legs: what is known of each leg by its state stays so, where it holds of each
-- state without a worker.
use Rattle.std.proofs.Common.{◌≡◌, ℕ, Bool, true, false, not, List, Option, Some, None, Result, Ok, Err, slice_get, if◌then◌else◌, inl, inr, ap, subst, sym, refl, ◌∙◌}
use Rattle.std.specs.List.{flat_map}
use Rattle.std.proofs.lemmas.Bool.{true≢false, cases_eq}
use Rattle.status_table.specs.Words.{Board, Done, Entrance, Event, Job, JobAt, JobPlace, JobState, Leg, LegAt, LegState, Member, Outcome, Plan, Run, RunAt, RunState, Standing, ValueFault, admitted, board_legs, cancelled, changed, closed, displaced, dropped, enters, enters_held, holder, is_full, is_own, is_stopping, job_at, jobs_have_ended, leaves, leg_at, leg_entrance, leg_standing, moved, next_after, passed_on, put, run_at, run_entrance, run_result, run_standing, stop_told, stopped, told, waiter, waits, with_numbered_leg, with_run}
use Rattle.status_table.specs.declared.fault.EventFault.{EventFault}
use Rattle.status_table.specs.Row as rows
use Rattle.status_table.proofs.Decided.{by_test}
use Rattle.status_table.proofs.Lists.{changed-there, changed-elsewhere, flat_map-kept, flat_map-twice}
use Rattle.board_decisions.proofs.Lists.{same_some}
use Rattle.status_table.proofs.Numbers.{numbered_leg-changed}
use Rattle.status_table.proofs.Turns.{run_legs}
use Rattle.worker_pool.specs.Alone.{is_running}

-- ---- an item changed

-- what holds of each item at its place
abbrev pub EachAt : {T : Type 0} → (ℕ → T → Type 0) → List T → Type 0
EachAt {T} P xs = (k : ℕ) (x : T) → slice_get xs k ≡ Some x → P k x

pub each-changed : {T : Type 0} (P : ℕ → T → Type 0) (xs : List T) (i : ℕ) (f : T → T) → ((x : T) → slice_get xs i ≡ Some x → P i (f x)) → EachAt P xs
    → EachAt P (changed xs i f)
each-changed {T} P xs i f new each k x h =
    elim (cases_eq k i) as (λ _. P k x) [
      | inl e ↦ subst (λ n. P n x) (sym e) (here (slice_get xs i) refl (sym (ap (slice_get (changed xs i f)) e) ∙ h))
      | inr n ↦ each k x (sym (changed-elsewhere xs i f k n) ∙ h)
    ]
  where
    here : (o : Option T) → slice_get xs i ≡ o → slice_get (changed xs i f) i ≡ Some x → P i x
    here None is there = each i x (sym (ap (λ ys. slice_get ys i) (none is)) ∙ there)
      where
        none : slice_get xs i ≡ None → changed xs i f ≡ xs
        none is' = ap (put xs i f) is'
    here (Some y) is there = subst (P i) (same_some (f y) x (sym (changed-there xs i f y is) ∙ there)) (new y is)

-- ---- what is known of each leg by its state

abbrev pub EachLeg : (ℕ → LegState → Type 0) → Board → Type 0
EachLeg Q b = EachAt (λ k leg. Q k leg.state) (board_legs b)

-- the same of the board of a row, if it is accepted
abbrev pub EachLegThen : (ℕ → LegState → Type 0) → rows.Row → Type 0
EachLegThen Q (Ok x) = EachLeg Q x.0
EachLegThen Q (Err f) = Unit {0}

-- whether an event is one of a clerk's
abbrev pub is_clerks : Event → Bool
is_clerks (Event.Open r) = true
is_clerks (Event.Judge j) = true
is_clerks (Event.Ask l) = true
is_clerks (Event.Drop l) = true
is_clerks (Event.Take l) = false
is_clerks (Event.Begin l) = false
is_clerks (Event.End l a) = false
is_clerks (Event.Finish l) = false
is_clerks (Event.Close r) = true
is_clerks (Event.Cancel r) = false

same_legs : (Q : ℕ → LegState → Type 0) (b c : Board) → board_legs c ≡ board_legs b → EachLeg Q b → EachLeg Q c
same_legs Q b c same each = subst (EachAt (λ k leg. Q k leg.state)) (sym same) each

module _ (Q : ℕ → LegState → Type 0) (rest : (k : ℕ) (s : LegState) → is_running s ≡ false → Q k s) where
  -- ---- the changes of a member

  -- a leg comes to a state without a worker
  put_down : (b : Board) (l : ℕ) (f : Leg → Leg) → ((leg : Leg) → is_running (f leg).state ≡ false) → EachLeg Q b → EachLeg Q (with_numbered_leg b l f)
  put_down b l f down each =
      subst (EachAt (λ k leg. Q k leg.state)) (sym (numbered_leg-changed b l f))
      (each-changed (λ k leg. Q k leg.state) (board_legs b) l f (λ leg there. rest l (f leg).state (down leg)) each)

  of_run : (b : Board) (r : ℕ) (f : Run → Run) → ((run : Run) → (f run).jobs ≡ run.jobs) → EachLeg Q b → EachLeg Q (with_run b r f)
  of_run b r f jobs = same_legs Q b (with_run b r f) (run_legs b r f jobs)

  of_closed : (b : Board) (r : ℕ) (result : Outcome) → EachLeg Q b → EachLeg Q (closed b r result)
  of_closed b r result = of_run b r (λ run. record run { state = RunState.Closed result }) (λ run. refl)

  of_dropped : (b : Board) (l : ℕ) (result : Outcome) → EachLeg Q b → EachLeg Q (dropped b l result)
  of_dropped b l result = put_down b l (λ leg. record leg { state = LegState.Ended result false }) (λ leg. refl)

  of_admitted : (b : Board) (name : Option (List ℕ)) (m : Member) → EachLeg Q b → EachLeg Q (admitted b name m)
  of_admitted b name (Member.Run r) = of_run b r (λ run. record run { state = RunState.Going; group = name }) (λ run. refl)
  of_admitted b name (Member.Leg l) = put_down b l (λ leg. record leg { state = LegState.Admitted; group = name }) (λ leg. refl)

  of_waits : (b : Board) (name : List ℕ) (m : Member) → EachLeg Q b → EachLeg Q (waits b name m)
  of_waits b name (Member.Run r) = of_run b r (λ run. record run { state = RunState.Waiting; group = Some name }) (λ run. refl)
  of_waits b name (Member.Leg l) = put_down b l (λ leg. record leg { state = LegState.Waiting; group = Some name }) (λ leg. refl)

  of_passed : (b : Board) (next : Option Member) → EachLeg Q b → EachLeg Q (passed_on b next)
  of_passed b None each = each
  of_passed b (Some (Member.Run r)) each = of_run b r (λ run. record run { state = RunState.Going }) (λ run. refl) each
  of_passed b (Some (Member.Leg l)) each = put_down b l (λ leg. record leg { state = LegState.Admitted }) (λ leg. refl) each

  of_cancelled : (b : Board) (m : Member) → EachLeg Q b → EachLeg Q (cancelled b m)
  of_cancelled b (Member.Run r) = of_closed b r Outcome.Cancelled
  of_cancelled b (Member.Leg l) = of_dropped b l Outcome.Cancelled

  of_displaced : (b : Board) (waited : Option Member) → EachLeg Q b → EachLeg Q (displaced b waited)
  of_displaced b None each = each
  of_displaced b (Some w) each = of_cancelled b w each

  of_stopped : (b : Board) (wanted : Bool) (m : Member) → EachLeg Q b → EachLeg Q (stopped b wanted m)
  of_stopped b false m each = each
  of_stopped b true (Member.Run r) each = of_run b r (λ run. record run { stop = true }) (λ run. refl) each
  of_stopped b true (Member.Leg l) each =
      subst (EachAt (λ k leg. Q k leg.state)) (sym (numbered_leg-changed b l (λ leg. record leg { stop = true })))
      (each-changed (λ k leg. Q k leg.state) (board_legs b) l (λ leg. record leg { stop = true }) (λ leg there. each l leg there) each)

  -- ---- entering and leaving

  of_either : (c : Bool) (x y : Done) → EachLeg Q x.0 → EachLeg Q y.0 → EachLeg Q (if c then x else y).0
  of_either true x y first second = first
  of_either false x y first second = second

  of_held : (b : Board) (m : Member) (own : Option ℕ) (group : Entrance) (held waited : Option Member) → EachLeg Q b → EachLeg Q (enters_held b m own group held waited).0
  of_held b m own group None waited each = of_admitted b (Some group.name) m each
  of_held b m own group (Some holds) waited each =
      of_either (is_own own holds) (cancelled b m, moved)
      (stopped (displaced (waits b group.name m) waited) group.cancel holds, told None waited (stop_told group.cancel holds))
      (of_cancelled b m each)
      (of_stopped (displaced (waits b group.name m) waited) group.cancel holds (of_displaced (waits b group.name m) waited (of_waits b group.name m each)))

  of_enters : (b : Board) (m : Member) (own : Option ℕ) (group : Option Entrance) → EachLeg Q b → EachLeg Q (enters b m own group).0
  of_enters b m own None each = of_admitted b None m each
  of_enters b m own (Some group) each = of_held b m own group (holder b group.name) (waiter b group.name) each

  pub of_leaves : (b after : Board) (stood : Standing) → EachLeg Q after → EachLeg Q (leaves b stood after).0
  of_leaves b after stood = of_passed after (next_after b stood)

  -- ---- the events of a clerk

  of_judged : (b : Board) (place : JobPlace) (state : JobState) → EachLeg Q b → EachLeg Q (rows.job_state_set b place state)
  of_judged b place state =
      let in_job : Job → Job = λ job. record job { state = state } in
      let in_run : Run → Run = λ run. record run { jobs = changed run.jobs place.job in_job } in
      same_legs Q b (rows.job_state_set b place state)
      (flat_map-twice (λ (run : Run). run.jobs) (λ (job : Job). job.legs) (changed b.runs place.run in_run)
      ∙ flat_map-kept (λ (run : Run). flat_map (λ (job : Job). job.legs) run.jobs) b.runs place.run in_run (λ run. flat_map-kept (λ (job : Job). job.legs) run.jobs place.job in_job (λ job. refl))
      ∙ sym (flat_map-twice (λ (run : Run). run.jobs) (λ (job : Job). job.legs) b.runs))

  open_legs : (p : Plan) (b : Board) (r : ℕ) → EachLeg Q b → EachLegThen Q (rows.open_row p b r)
  open_legs p b r each = found (run_at p b r)
    where
      entered : (x : Result (Option Entrance) ValueFault) → EachLegThen Q (rows.run_enters b r x)
      entered (Ok group) = of_enters b (Member.Run r) None group each
      entered (Err f) = of_closed b r Outcome.Failure each

      opened : (at : RunAt) (s : RunState) (stop : Bool) → EachLegThen Q (rows.open_run b r at s stop)
      opened at RunState.New false = entered (run_entrance at)
      opened at RunState.New true = tt
      opened at RunState.Waiting stop = tt
      opened at RunState.Going stop = tt
      opened at (RunState.Closed result) stop = tt

      found : (o : Option RunAt) → EachLegThen Q (rows.open_found b r o)
      found None = tt
      found (Some at) = opened at at.run.state at.run.stop

  judge_legs : (p : Plan) (b : Board) (j : ℕ) → EachLeg Q b → EachLegThen Q (rows.judge_row p b j)
  judge_legs p b j each = found (job_at p b j)
    where
      judged : (place : JobPlace) (x : Result JobState EventFault) → EachLegThen Q (rows.judge_job b place x)
      judged place (Ok state) = of_judged b place state each
      judged place (Err f) = tt

      found : (o : Option JobAt) → EachLegThen Q (rows.judge_found b j o)
      found None = tt
      found (Some at) = judged at.place (rows.judgement j at)

  ask_legs : (p : Plan) (b : Board) (l : ℕ) → EachLeg Q b → EachLegThen Q (rows.ask_row p b l)
  ask_legs p b l each = found (leg_at p b l)
    where
      entered : (at : LegAt) (x : Result (Option Entrance) ValueFault) → EachLegThen Q (rows.leg_enters b l at x)
      entered at (Ok group) = of_enters b (Member.Leg l) (Some at.place.run) group each
      entered at (Err f) = of_dropped b l Outcome.Failure each

      found : (o : Option LegAt) → EachLegThen Q (rows.ask_found b l o)
      found None = tt
      found (Some at) =
          by_test (EachLegThen Q) (not (rows.may_ask at)) (Err EventFault.WrongState)
          (if is_full at.job_plan at.job then Err EventFault.SlotsFull else (if is_stopping at then Err EventFault.Stopping else rows.leg_enters b l at (leg_entrance at))) tt
          (by_test (EachLegThen Q) (is_full at.job_plan at.job) (Err EventFault.SlotsFull) (if is_stopping at then Err EventFault.Stopping else rows.leg_enters b l at (leg_entrance at)) tt
          (by_test (EachLegThen Q) (is_stopping at) (Err EventFault.Stopping) (rows.leg_enters b l at (leg_entrance at)) tt (entered at (leg_entrance at))))

  drop_legs : (p : Plan) (b : Board) (l : ℕ) → EachLeg Q b → EachLegThen Q (rows.drop_row p b l)
  drop_legs p b l each = found (leg_at p b l)
    where
      found : (o : Option LegAt) → EachLegThen Q (rows.drop_found b l o)
      found None = tt
      found (Some at) =
          by_test (EachLegThen Q) (not (rows.may_drop at)) (Err EventFault.WrongState)
          (if is_stopping at then Ok (leaves b (leg_standing at.leg) (dropped b l Outcome.Cancelled)) else Err EventFault.NotStopping) tt
          (by_test (EachLegThen Q) (is_stopping at) (Ok (leaves b (leg_standing at.leg) (dropped b l Outcome.Cancelled))) (Err EventFault.NotStopping)
          (of_leaves b (dropped b l Outcome.Cancelled) (leg_standing at.leg) (of_dropped b l Outcome.Cancelled each)) tt)

  close_legs : (p : Plan) (b : Board) (r : ℕ) → EachLeg Q b → EachLegThen Q (rows.close_row p b r)
  close_legs p b r each = found (run_at p b r)
    where
      ended : (run : Run) (result : Outcome) → EachLegThen Q (rows.run_closes b r run result)
      ended run result = of_leaves b (closed b r result) (run_standing run) (of_closed b r result each)

      waited : (run : Run) (stop : Bool) → EachLegThen Q (rows.close_waiting b r run stop)
      waited run true = ended run Outcome.Cancelled
      waited run false = tt

      by_state : (run : Run) (s : RunState) → EachLegThen Q (rows.close_run b r run s)
      by_state run RunState.New = waited run run.stop
      by_state run RunState.Waiting = waited run run.stop
      by_state run RunState.Going = by_test (EachLegThen Q) (jobs_have_ended run) (rows.run_closes b r run (run_result run)) (Err EventFault.NeedsOpen) (ended run (run_result run)) tt
      by_state run (RunState.Closed result) = tt

      found : (o : Option RunAt) → EachLegThen Q (rows.close_found b r o)
      found None = tt
      found (Some at) = by_state at.run at.run.state

  -- an event of a clerk
  pub clerk_legs : (p : Plan) (b : Board) (e : Event) → is_clerks e ≡ true → EachLeg Q b → EachLegThen Q (rows.row p b 0 e)
  clerk_legs p b (Event.Open r) h = open_legs p b r
  clerk_legs p b (Event.Judge j) h = judge_legs p b j
  clerk_legs p b (Event.Ask l) h = ask_legs p b l
  clerk_legs p b (Event.Drop l) h = drop_legs p b l
  clerk_legs p b (Event.Take l) h = absurd (true≢false (sym h))
  clerk_legs p b (Event.Begin l) h = absurd (true≢false (sym h))
  clerk_legs p b (Event.End l a) h = absurd (true≢false (sym h))
  clerk_legs p b (Event.Finish l) h = absurd (true≢false (sym h))
  clerk_legs p b (Event.Close r) h = close_legs p b r
  clerk_legs p b (Event.Cancel r) h = absurd (true≢false (sym h))
