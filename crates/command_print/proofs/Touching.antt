-- An entry changes of a board only the lines of runs and what is touched by it.
use Rattle.std.proofs.Common.{◌≡◌, ◌≢◌, ◌++◌, ℕ, zero, suc, Bool, true, false, List, [], ◌∷◌, map, Option, Some, None, Result, Ok, Err, slice_get, if◌then◌else◌, ap, subst, sym, refl, ◌∙◌}
use Rattle.std.specs.List.{flat_map}
use Rattle.std.proofs.lemmas.Bool.{true≢false}
use Rattle.std.proofs.lemmas.List.{map-append}
use Rattle.std.specs.Prelude.{nat_le, ◌||◌, not}
use Rattle.status_table.specs.Words.{Answer, Beginning, Board, DoneStep, Done, Entrance, Entry, Event, Job, JobAt, JobState, Leg, LegAt, LegPlace, LegState, Member, Outcome, Plan, Reply, Row, Run, RunAt, RunState, ValueFault, What, admitted, after_from, ask_found, begin_found, begin_leg, beginning, board_jobs, board_legs, cancel_found, cancelled, changed, close_found, close_run, close_waiting, closed, displaced, drop_found, dropped, end_found, end_leg, ending, enters, enters_held, event_row, finish_found, finish_leg, finishing, holder, is_closed, is_full, is_own, is_stopping, job_at, jobs_have_ended, judge_found, judge_job, judgement, leaves, leg_at, leg_changed, leg_ended, leg_enters, leg_entrance, leg_outputs, leg_place, leg_standing, leg_state_set, may_ask, may_drop, moved, next_after, open_found, open_run, passed_on, queued, reply, row, run_at, run_closes, run_enters, run_entrance, run_result, run_standing, step_done, stopped, take_found, take_leg, then_after, waiter, waits, with_leg, with_numbered_leg, with_run}
use Rattle.status_table.specs.Groups.{told}
use Rattle.status_table.specs.Row.{calls, failed_step, faults, skipped_step, skips}
use Rattle.status_table.specs.declared.fault.EventFault.{EventFault}
use Rattle.board_decisions.proofs.Lists.{no_some, same_some}
use Rattle.status_table.proofs.Found.{leg_stands}
use Rattle.status_table.proofs.Lists.{changed-cons, changed-elsewhere, flat_map-kept}
use Rattle.status_table.proofs.Numbers.{board_legs-changed, numbered_leg-changed}
use Rattle.command_print.specs.Touched.{IsApart, KeepsOthers, KeepsUntouched, members_of, names_others, touched_by}
use Rattle.command_print.specs.declared.touched.Members.{Members}

-- ---- what a change of one item keeps

-- what is made of each item stays where the change keeps it
map-kept : {A B : Type 0} (g : A → B) (xs : List A) (i : ℕ) (f : A → A) → ((x : A) → g (f x) ≡ g x) → map g (changed xs i f) ≡ map g xs
map-kept g [] i f h = refl
map-kept g (x ∷ xs) zero f h = ap (λ y. y ∷ map g xs) (h x)
map-kept g (x ∷ xs) (suc i) f h = ap (map g) (changed-cons x xs i f) ∙ ap (λ ys. g x ∷ ys) (map-kept g xs i f h)

-- so it is with what is made of all jobs
jobs-kept : {B : Type 0} (g : Job → B) (runs : List Run) (i : ℕ) (f : Run → Run) → ((x : Run) → map g (f x).jobs ≡ map g x.jobs)
    → map g (flat_map (λ run. run.jobs) (changed runs i f)) ≡ map g (flat_map (λ run. run.jobs) runs)
jobs-kept g [] i f h = refl
jobs-kept g (x ∷ xs) zero f h =
    let later = flat_map (λ (run : Run). run.jobs) xs in
    map-append g (f x).jobs later ∙ ap (λ ys. ys ++ map g later) (h x) ∙ sym (map-append g x.jobs later)
jobs-kept g (x ∷ xs) (suc i) f h =
    let later = flat_map (λ (run : Run). run.jobs) xs in
    let new = flat_map (λ (run : Run). run.jobs) (changed xs i f) in
    ap (λ (runs : List Run). map g (flat_map (λ (run : Run). run.jobs) runs)) (changed-cons x xs i f)
    ∙ map-append g x.jobs new ∙ ap (λ ys. map g x.jobs ++ ys) (jobs-kept g xs i f h) ∙ sym (map-append g x.jobs later)

-- ---- what a change of one member keeps

-- a member is one of some
abbrev IsAmong : Member → Members → Type 0
IsAmong who members = (l : ℕ) → IsApart l members → who ≢ Member.Leg l

module _ (m : Members) where
  kept-same : (b : Board) → KeepsOthers m b b
  kept-same b = record { states = refl; legs = λ l apart. refl }

  kept-then : (a b c : Board) → KeepsOthers m a b → KeepsOthers m b c → KeepsOthers m a c
  kept-then a b c x y = record { states = y.states ∙ x.states; legs = λ l apart. y.legs l apart ∙ x.legs l apart }

  run-kept : (b : Board) (r : ℕ) (f : Run → Run) → ((x : Run) → (f x).jobs ≡ x.jobs) → KeepsOthers m b (with_run b r f)
  run-kept b r f keeps =
      let jobs = flat_map-kept (λ (run : Run). run.jobs) b.runs r f keeps in
      record { states = ap (map (λ (job : Job). job.state)) jobs; legs = λ l apart. ap (λ (js : List Job). slice_get (flat_map (λ (job : Job). job.legs) js) l) jobs }

  states-kept : (b : Board) (at : LegPlace) (f : Leg → Leg) → map (λ (job : Job). job.state) (board_jobs (with_leg b at f)) ≡ map (λ (job : Job). job.state) (board_jobs b)
  states-kept b at f =
      jobs-kept (λ (job : Job). job.state) b.runs at.run (λ run. record run { jobs = changed run.jobs at.job (λ job. record job { legs = changed job.legs at.leg f }) })
      (λ run. map-kept (λ (job : Job). job.state) run.jobs at.job (λ job. record job { legs = changed job.legs at.leg f }) (λ job. refl))

  other : (l k : ℕ) → Member.Leg l ≢ Member.Leg k → k ≢ l
  other l k apart e = apart (ap (λ n. Member.Leg n) (sym e))

  leg-kept : (b : Board) (l : ℕ) (f : Leg → Leg) → IsAmong (Member.Leg l) m → KeepsOthers m b (with_numbered_leg b l f)
  leg-kept b l f among = record {
    states = states (leg_place b l);
    legs = λ k apart. ap (λ (legs : List Leg). slice_get legs k) (numbered_leg-changed b l f) ∙ changed-elsewhere (board_legs b) l f k (other l k (among k apart));
  }
    where
      states : (found : Option LegPlace) → map (λ (job : Job). job.state) (board_jobs (record b { runs = leg_changed b.runs found f })) ≡ map (λ (job : Job). job.state) (board_jobs b)
      states None = refl
      states (Some at) = states-kept b at f

  placed-kept : (b : Board) (l : ℕ) (at : LegPlace) (f : Leg → Leg) → leg_place b l ≡ Some at → IsAmong (Member.Leg l) m → KeepsOthers m b (with_leg b at f)
  placed-kept b l at f is among = record {
    states = states-kept b at f;
    legs = λ k apart. ap (λ (legs : List Leg). slice_get legs k) (board_legs-changed b l at f is) ∙ changed-elsewhere (board_legs b) l f k (other l k (among k apart));
  }

  -- the ends are apart from that
  ends-kept : (a b : Board) (ends : List ℕ) → KeepsOthers m a b → KeepsOthers m a (record b { ends = ends })
  ends-kept a b ends x = record { states = x.states; legs = x.legs }

  admitted-kept : (b : Board) (name : Option (List ℕ)) (who : Member) → IsAmong who m → KeepsOthers m b (admitted b name who)
  admitted-kept b name (Member.Run r) among = run-kept b r (λ run. record run { state = RunState.Going; group = name }) (λ x. refl)
  admitted-kept b name (Member.Leg l) among = leg-kept b l (λ leg. record leg { state = LegState.Admitted; group = name }) among

  waits-kept : (b : Board) (name : List ℕ) (who : Member) → IsAmong who m → KeepsOthers m b (waits b name who)
  waits-kept b name (Member.Run r) among = run-kept b r (λ run. record run { state = RunState.Waiting; group = Some name }) (λ x. refl)
  waits-kept b name (Member.Leg l) among = leg-kept b l (λ leg. record leg { state = LegState.Waiting; group = Some name }) among

  closed-kept : (b : Board) (r : ℕ) (how : Outcome) → KeepsOthers m b (closed b r how)
  closed-kept b r how = run-kept b r (λ run. record run { state = RunState.Closed how }) (λ x. refl)

  dropped-kept : (b : Board) (l : ℕ) (how : Outcome) → IsAmong (Member.Leg l) m → KeepsOthers m b (dropped b l how)
  dropped-kept b l how among =
      ends-kept b (with_numbered_leg b l (λ leg. record leg { state = LegState.Ended how false })) (b.ends ++ l ∷ [])
      (leg-kept b l (λ leg. record leg { state = LegState.Ended how false }) among)

  cancelled-kept : (b : Board) (who : Member) → IsAmong who m → KeepsOthers m b (cancelled b who)
  cancelled-kept b (Member.Run r) among = closed-kept b r Outcome.Cancelled
  cancelled-kept b (Member.Leg l) among = dropped-kept b l Outcome.Cancelled among

  stopped-kept : (b : Board) (who : Member) → IsAmong who m → KeepsOthers m b (stopped b true who)
  stopped-kept b (Member.Run r) among = run-kept b r (λ run. record run { stop = true }) (λ x. refl)
  stopped-kept b (Member.Leg l) among = leg-kept b l (λ leg. record leg { stop = true }) among

  passed-kept : (b : Board) (next : Option Member) → ((who : Member) → next ≡ Some who → IsAmong who m) → KeepsOthers m b (passed_on b next)
  passed-kept b None among = kept-same b
  passed-kept b (Some (Member.Run r)) among = run-kept b r (λ run. record run { state = RunState.Going }) (λ x. refl)
  passed-kept b (Some (Member.Leg l)) among = leg-kept b l (λ leg. record leg { state = LegState.Admitted }) (among (Member.Leg l) refl)

  displaced-kept : (b : Board) (waited : Option Member) → ((who : Member) → waited ≡ Some who → IsAmong who m) → KeepsOthers m b (displaced b waited)
  displaced-kept b None among = kept-same b
  displaced-kept b (Some who) among = cancelled-kept b who (among who refl)

  -- who an event is for and whom its reply names are among them
  who-among : (who : Member) → m.who ≡ who → IsAmong who m
  who-among who is l apart e = apart.who (is ∙ e)

  admitted-among : (who : Member) → m.admitted ≡ Some who → IsAmong who m
  admitted-among who is l apart e = apart.admitted (is ∙ ap (λ x. Some x) e)

  displaced-among : (who : Member) → m.displaced ≡ Some who → IsAmong who m
  displaced-among who is l apart e = apart.displaced (is ∙ ap (λ x. Some x) e)

  stopped-among : (who : Member) → m.stopped ≡ Some who → IsAmong who m
  stopped-among who is l apart e = apart.stopped (is ∙ ap (λ x. Some x) e)

-- ---- entering and leaving

-- what is done to a board by what is for a member keeps all others than its reply names
abbrev KeepsBy : Board → Member → Done → Type 0
KeepsBy b who x = KeepsOthers (members_of who x.1) b x.0

queued-kept : (b : Board) (who : Member) (group : Entrance) (holds : Member) (waited : Option Member) → KeepsBy b who (queued b who group holds waited)
queued-kept b who group holds waited = by group.cancel
  where
    by : (cancel : Bool) → KeepsBy b who (queued b who (record group { cancel = cancel }) holds waited)
    by false =
        let m = members_of who (told None waited None) in
        kept-then m b (waits b group.name who) (displaced (waits b group.name who) waited)
        (waits-kept m b group.name who (who-among m who refl))
        (displaced-kept m (waits b group.name who) waited (displaced-among m))
    by true =
        let m = members_of who (told None waited (Some holds)) in
        let put = displaced (waits b group.name who) waited in
        kept-then m b put (stopped put true holds)
        (kept-then m b (waits b group.name who) put
        (waits-kept m b group.name who (who-among m who refl))
        (displaced-kept m (waits b group.name who) waited (displaced-among m)))
        (stopped-kept m put holds (stopped-among m holds refl))

held-kept : (b : Board) (who : Member) (own : Option ℕ) (group : Entrance) (holds waited : Option Member) → KeepsBy b who (enters_held b who own group holds waited)
held-kept b who own group None waited =
    let m = members_of who (told (Some who) None None) in
    admitted-kept m b (Some group.name) who (who-among m who refl)
held-kept b who own group (Some holds) waited = by (is_own own holds)
  where
    by : (c : Bool) → KeepsBy b who (if c then (cancelled b who, moved) else queued b who group holds waited)
    by true = let m = members_of who moved in cancelled-kept m b who (who-among m who refl)
    by false = queued-kept b who group holds waited

enters-kept : (b : Board) (who : Member) (own : Option ℕ) (group : Option Entrance) → KeepsBy b who (enters b who own group)
enters-kept b who own None = let m = members_of who (told (Some who) None None) in admitted-kept m b None who (who-among m who refl)
enters-kept b who own (Some group) = held-kept b who own group (holder b group.name) (waiter b group.name)

-- who waits goes on, after a change that keeps all others than the member
left-kept : (b after : Board) (who : Member) (next : Option Member) → ((m : Members) → IsAmong who m → KeepsOthers m b after)
    → KeepsBy b who (passed_on after next, told next None None)
left-kept b after who next ends =
    let m = members_of who (told next None None) in
    kept-then m b after (passed_on after next) (ends m (who-among m who refl)) (passed-kept m after next (admitted-among m))

-- ---- the rows

-- what comes of an event keeps all that it does not touch
abbrev Keeps : Board → Event → Row → Type 0
Keeps b e (Ok x) = KeepsUntouched (touched_by e x.1) b x.0
Keeps b e (Err f) = Unit {0}

-- and all but whom the event is for
abbrev KeepsAlone : Board → Event → Row → Type 0
KeepsAlone b e (Ok x) = KeepsUntouched (touched_by e moved) b x.0
KeepsAlone b e (Err f) = Unit {0}

if-keeps : (b : Board) (e : Event) (c : Bool) (r s : Row) → Keeps b e r → Keeps b e s → Keeps b e (if c then r else s)
if-keeps b e true r s x y = x
if-keeps b e false r s x y = y

if-alone : (b : Board) (e : Event) (c : Bool) (r s : Row) → KeepsAlone b e r → KeepsAlone b e s → KeepsAlone b e (if c then r else s)
if-alone b e true r s x y = x
if-alone b e false r s x y = y

-- what is kept beside one is kept beside others too
more-kept : (who : Member) (what : Reply) (b new : Board) → KeepsOthers (members_of who moved) b new → KeepsOthers (members_of who what) b new
more-kept who what b new kept =
    record { states = kept.states; legs = λ l apart. kept.legs l (record { who = apart.who; admitted = λ e. cc; displaced = λ e. cc; stopped = λ e. cc }) }

alone-keeps : (b : Board) (e : Event) (r : Row) → ((what : Reply) (new : Board) → KeepsUntouched (touched_by e moved) b new → KeepsUntouched (touched_by e what) b new)
    → KeepsAlone b e r → Keeps b e r
alone-keeps b e (Ok x) more kept = more x.1 x.0 kept
alone-keeps b e (Err f) more kept = tt

open-keeps : (b : Board) (r : ℕ) (found : Option RunAt) → Keeps b (Event.Open r) (open_found b r found)
open-keeps b r None = tt
open-keeps b r (Some at) = by at.run.state at.run.stop
  where
    enter : (group : Result (Option Entrance) ValueFault) → Keeps b (Event.Open r) (run_enters b r group)
    enter (Ok group) = enters-kept b (Member.Run r) None group
    enter (Err f) = closed-kept (members_of (Member.Run r) moved) b r Outcome.Failure

    by : (s : RunState) (stop : Bool) → Keeps b (Event.Open r) (open_run b r at s stop)
    by RunState.New false = enter (run_entrance at)
    by RunState.New true = tt
    by RunState.Waiting stop = tt
    by RunState.Going stop = tt
    by (RunState.Closed result) stop = tt

judge-alone : (b : Board) (j : ℕ) (found : Option JobAt) → KeepsAlone b (Event.Judge j) (judge_found b j found)
judge-alone b j None = tt
judge-alone b j (Some at) = by (judgement j at)
  where
    by : (state : Result JobState EventFault) → KeepsAlone b (Event.Judge j) (judge_job b at.place state)
    by (Ok state) =
        jobs-kept (λ (job : Job). job.legs) b.runs at.place.run (λ run. record run { jobs = changed run.jobs at.place.job (λ job. record job { state = state }) })
        (λ run. map-kept (λ (job : Job). job.legs) run.jobs at.place.job (λ job. record job { state = state }) (λ job. refl))
    by (Err f) = tt

ask-keeps : (b : Board) (l : ℕ) (found : Option LegAt) → Keeps b (Event.Ask l) (ask_found b l found)
ask-keeps b l None = tt
ask-keeps b l (Some at) =
    let e = Event.Ask l in
    let r = leg_enters b l at (leg_entrance at) in
    let stopping = if is_stopping at then Err EventFault.Stopping else r in
    let full = if is_full at.job_plan at.job then Err EventFault.SlotsFull else stopping in
    if-keeps b e (not (may_ask at)) (Err EventFault.WrongState) full tt
    (if-keeps b e (is_full at.job_plan at.job) (Err EventFault.SlotsFull) stopping tt
    (if-keeps b e (is_stopping at) (Err EventFault.Stopping) r tt (enter (leg_entrance at))))
  where
    enter : (group : Result (Option Entrance) ValueFault) → Keeps b (Event.Ask l) (leg_enters b l at group)
    enter (Ok group) = enters-kept b (Member.Leg l) (Some at.place.run) group
    enter (Err f) = let m = members_of (Member.Leg l) moved in dropped-kept m b l Outcome.Failure (who-among m (Member.Leg l) refl)

drop-keeps : (b : Board) (l : ℕ) (found : Option LegAt) → Keeps b (Event.Drop l) (drop_found b l found)
drop-keeps b l None = tt
drop-keeps b l (Some at) =
    let e = Event.Drop l in
    let after = dropped b l Outcome.Cancelled in
    let r : Row = Ok (leaves b (leg_standing at.leg) after) in
    let stopping = if is_stopping at then r else Err EventFault.NotStopping in
    if-keeps b e (not (may_drop at)) (Err EventFault.WrongState) stopping tt
    (if-keeps b e (is_stopping at) r (Err EventFault.NotStopping)
    (left-kept b after (Member.Leg l) (next_after b (leg_standing at.leg)) (λ m among. dropped-kept m b l Outcome.Cancelled among)) tt)

-- a leg is changed where it is found, and the reply names nobody
leg-keeps : (b : Board) (l : ℕ) (at : LegPlace) (f : Leg → Leg) (what : Reply) → leg_place b l ≡ Some at → KeepsBy b (Member.Leg l) (with_leg b at f, what)
leg-keeps b l at f what is = let m = members_of (Member.Leg l) what in placed-kept m b l at f is (who-among m (Member.Leg l) refl)

take-alone : (p : Plan) (b : Board) (worker l : ℕ) (found : Option LegAt) → leg_at p b l ≡ found → KeepsAlone b (Event.Take l) (take_found b worker found)
take-alone p b worker l None is = tt
take-alone p b worker l (Some at) is = by at.leg.state
  where
    by : (s : LegState) → KeepsAlone b (Event.Take l) (take_leg b worker at s)
    by LegState.Fresh = tt
    by LegState.Waiting = tt
    by LegState.Admitted =
        if-alone b (Event.Take l) (is_stopping at) (Err EventFault.Stopping) (Ok (leg_state_set b at.place (LegState.Running worker false), moved)) tt
        (leg-keeps b l at.place (λ leg. record leg { state = LegState.Running worker false }) moved (leg_stands p b l at is).place)
    by (LegState.Running other in_call) = tt
    by (LegState.Ended result tolerated) = tt

-- one more step of a leg is done
step-keeps : (p : Plan) (b : Board) (worker l : ℕ) (at : LegAt) (done : DoneStep) (what : Reply) → leg_at p b l ≡ Some at
    → KeepsBy b (Member.Leg l) (step_done b at.place worker done, what)
step-keeps p b worker l at done what is =
    leg-keeps b l at.place (λ leg. record leg { state = LegState.Running worker false; steps = leg.steps ++ done ∷ [] }) what (leg_stands p b l at is).place

begin-alone : (p : Plan) (b : Board) (worker l : ℕ) (found : Option LegAt) → leg_at p b l ≡ found → KeepsAlone b (Event.Begin l) (begin_found b worker l found)
begin-alone p b worker l None is = tt
begin-alone p b worker l (Some at) is = by (beginning worker l at)
  where
    by : (begun : Result Beginning EventFault) → KeepsAlone b (Event.Begin l) (begin_leg b worker at begun)
    by (Ok (calls call)) =
        leg-keeps b l at.place (λ leg. record leg { state = LegState.Running worker true }) (reply (What.Call call)) (leg_stands p b l at is).place
    by (Ok skips) = step-keeps p b worker l at skipped_step (reply What.Skipped) is
    by (Ok (faults f)) = step-keeps p b worker l at (failed_step at) (reply (What.Faulted f)) is
    by (Err f) = tt

end-alone : (p : Plan) (b : Board) (worker l : ℕ) (a : Answer) (found : Option LegAt) → leg_at p b l ≡ found → KeepsAlone b (Event.End l a) (end_found b worker a found)
end-alone p b worker l a None is = tt
end-alone p b worker l a (Some at) is = by (ending worker at a)
  where
    by : (done : Result DoneStep EventFault) → KeepsAlone b (Event.End l a) (end_leg b worker at done)
    by (Ok done) = step-keeps p b worker l at done moved is
    by (Err f) = tt

finish-keeps : (p : Plan) (b : Board) (worker l : ℕ) (found : Option LegAt) → leg_at p b l ≡ found → Keeps b (Event.Finish l) (finish_found b worker l found)
finish-keeps p b worker l None is = tt
finish-keeps p b worker l (Some at) is = by (finishing worker at)
  where
    by : (state : Result LegState EventFault) → Keeps b (Event.Finish l) (finish_leg b l at state)
    by (Ok state) =
        left-kept b (leg_ended b at.place l state (leg_outputs at)) (Member.Leg l) (next_after b (leg_standing at.leg))
        (λ m among. ends-kept m b (with_leg b at.place (λ leg. record leg { state = state; outputs = leg_outputs at })) (b.ends ++ l ∷ [])
        (placed-kept m b l at.place (λ leg. record leg { state = state; outputs = leg_outputs at }) (leg_stands p b l at is).place among))
    by (Err f) = tt

close-keeps : (b : Board) (r : ℕ) (found : Option RunAt) → Keeps b (Event.Close r) (close_found b r found)
close-keeps b r None = tt
close-keeps b r (Some at) = by at.run.state
  where
    closes : (how : Outcome) → Keeps b (Event.Close r) (run_closes b r at.run how)
    closes how = left-kept b (closed b r how) (Member.Run r) (next_after b (run_standing at.run)) (λ m among. closed-kept m b r how)

    waiting : (stop : Bool) → Keeps b (Event.Close r) (close_waiting b r at.run stop)
    waiting true = closes Outcome.Cancelled
    waiting false = tt

    by : (s : RunState) → Keeps b (Event.Close r) (close_run b r at.run s)
    by RunState.New = waiting at.run.stop
    by RunState.Waiting = waiting at.run.stop
    by RunState.Going =
        if-keeps b (Event.Close r) (jobs_have_ended at.run) (run_closes b r at.run (run_result at.run)) (Err EventFault.NeedsOpen) (closes (run_result at.run)) tt
    by (RunState.Closed result) = tt

cancel-alone : (b : Board) (r : ℕ) (found : Option RunAt) → KeepsAlone b (Event.Cancel r) (cancel_found b r found)
cancel-alone b r None = tt
cancel-alone b r (Some at) =
    let m = members_of (Member.Run r) moved in
    if-alone b (Event.Cancel r) (is_closed at.run.state || at.run.stop) (Err EventFault.WrongState) (Ok (stopped b true (Member.Run r), moved)) tt
    (stopped-kept m b (Member.Run r) (who-among m (Member.Run r) refl))

event-keeps : (p : Plan) (b : Board) (worker : ℕ) (e : Event) → Keeps b e (event_row p b worker e)
event-keeps p b worker (Event.Open r) = open-keeps b r (run_at p b r)
event-keeps p b worker (Event.Judge j) = let e = Event.Judge j in alone-keeps b e (event_row p b worker e) (λ what new kept. kept) (judge-alone b j (job_at p b j))
event-keeps p b worker (Event.Ask l) = ask-keeps b l (leg_at p b l)
event-keeps p b worker (Event.Drop l) = drop-keeps b l (leg_at p b l)
event-keeps p b worker (Event.Take l) =
    let e = Event.Take l in alone-keeps b e (event_row p b worker e) (λ what new kept. more-kept (Member.Leg l) what b new kept) (take-alone p b worker l (leg_at p b l) refl)
event-keeps p b worker (Event.Begin l) =
    let e = Event.Begin l in alone-keeps b e (event_row p b worker e) (λ what new kept. more-kept (Member.Leg l) what b new kept) (begin-alone p b worker l (leg_at p b l) refl)
event-keeps p b worker (Event.End l a) =
    let e = Event.End l a in alone-keeps b e (event_row p b worker e) (λ what new kept. more-kept (Member.Leg l) what b new kept) (end-alone p b worker l a (leg_at p b l) refl)
event-keeps p b worker (Event.Finish l) = finish-keeps p b worker l (leg_at p b l) refl
event-keeps p b worker (Event.Close r) = close-keeps b r (run_at p b r)
event-keeps p b worker (Event.Cancel r) =
    let e = Event.Cancel r in alone-keeps b e (event_row p b worker e) (λ what new kept. more-kept (Member.Run r) what b new kept) (cancel-alone b r (run_at p b r))

event-alone : (p : Plan) (b : Board) (worker : ℕ) (e : Event) → names_others e ≡ false → KeepsAlone b e (event_row p b worker e)
event-alone p b worker (Event.Open r) names = absurd (true≢false names)
event-alone p b worker (Event.Judge j) names = judge-alone b j (job_at p b j)
event-alone p b worker (Event.Ask l) names = absurd (true≢false names)
event-alone p b worker (Event.Drop l) names = absurd (true≢false names)
event-alone p b worker (Event.Take l) names = take-alone p b worker l (leg_at p b l) refl
event-alone p b worker (Event.Begin l) names = begin-alone p b worker l (leg_at p b l) refl
event-alone p b worker (Event.End l a) names = end-alone p b worker l a (leg_at p b l) refl
event-alone p b worker (Event.Finish l) names = absurd (true≢false names)
event-alone p b worker (Event.Close r) names = absurd (true≢false names)
event-alone p b worker (Event.Cancel r) names = cancel-alone b r (run_at p b r)

-- an entry that is accepted keeps all that it does not touch
pub touching : (p : Plan) (b new : Board) (e : Entry) (answer : Reply) → row p b e.worker e.event ≡ Ok (new, answer) → KeepsUntouched (touched_by e.event answer) b new
touching p b new e answer is =
    subst (Keeps b e.event) is
    (if-keeps b e.event (nat_le e.worker 15) (event_row p b e.worker e.event) (Err EventFault.NoSuch) (event-keeps p b e.worker e.event) tt)

-- and where its reply names no others, all but whom it is for
pub touching-alone : (p : Plan) (b new : Board) (e : Entry) → names_others e.event ≡ false → after_from p b (e ∷ []) ≡ Some new → KeepsUntouched (touched_by e.event moved) b new
touching-alone p b new e names leads =
    by (row p b e.worker e.event)
    (if-alone b e.event (nat_le e.worker 15) (event_row p b e.worker e.event) (Err EventFault.NoSuch) (event-alone p b e.worker e.event names) tt) leads
  where
    by : (r : Row) → KeepsAlone b e.event r → then_after r (λ next. Some next) ≡ Some new → KeepsUntouched (touched_by e.event moved) b new
    by (Ok x) kept is = subst (KeepsUntouched (touched_by e.event moved) b) (same_some x.0 new is) kept
    by (Err f) kept is = absurd (no_some new is)
