-- Each row keeps the shape of a board, and its ends.
use Rattle.std.proofs.Common.{◌≡◌, ℕ, ◌+◌, ◌<◌, ◌≤◌, ◌==◌, ◌++◌, ◌&&◌, ◌||◌, Bool, true, false, not, List, [], ◌∷◌, Option, Some, None, Result, Ok, Err, length, slice_get, nat_le, nat_lt, if◌then◌else◌, inl, inr, ap, subst, sym, refl, ◌∙◌, arith}
use Rattle.std.specs.List.{flat_map}
use Rattle.std.proofs.lemmas.Bool.{cases_eq, le-leb, leb-true}
use Rattle.std.proofs.lemmas.Bool.Decides.{nat_tests}
use Rattle.std.proofs.lemmas.List.{length-append}
use Rattle.std.proofs.lemmas.Option.{slice_get_within}
use Rattle.status_table.specs.Words.{Answer, Beginning, Board, DoneStep, Entrance, Event, HasShape, Job, JobAt, JobPlace, JobPlan, JobShape, JobState, Leg, LegAt, LegState, Member, Outcome, Plan, Row, Run, RunAt, RunShape, RunState, StepPlan, ValueFault, ask_found, begin_found, begin_leg, beginning_by, board_legs, calling_owner, calls, cancel_found, changed, close_found, close_run, close_waiting, drop_found, dropped, end_found, end_leg, ended_state, ending_by, event_row, failed_step, faults, finish_found, finish_leg, finishing_by, has_room, idle_owner, is_closed, is_ended, is_fresh, is_full, is_going, is_open, is_stopping, is_untaken, job_at, job_state_set, jobs_have_ended, judge_found, judge_job, judgement, leaves, leg_at, leg_ended, leg_enters, leg_entrance, leg_outputs, leg_result, leg_standing, leg_state_set, may_ask, may_drop, moved, next_step, open_calls, open_found, open_run, row, run_at, run_closes, run_enters, run_entrance, run_result, skipped_step, skips, step_done, stopped, take_found, take_leg, times_ended, with_leg}
use Rattle.status_table.specs.declared.fault.EventFault.{EventFault}
use Rattle.status_table.specs.Shape.{steps_begun}
use Rattle.board_decisions.proofs.Lists.{and-right, same_some, no_some}
use Rattle.status_table.proofs.Found.{LegStands, leg_stands, leg_item}
use Rattle.status_table.proofs.Lists.{changed-there, changed-elsewhere, length-changed, flat_map-kept, flat_map-twice, zip-changed, all-changed, all-get}
use Rattle.status_table.proofs.Numbers.{board_legs-changed, numbered_leg-changed}
use Rattle.status_table.proofs.Standings.{Unended}
use Rattle.status_table.proofs.Turns.{Fits, same_legs, ends_pushed, close_fits, drop_fits, stop_fits, enter_fits, run_leaves, leg_leaves}

-- a row that is accepted keeps that
abbrev pub Keeps : Plan → Board → Row → Type 0
Keeps p b (Ok x) = Fits p b → Fits p x.0
Keeps p b (Err f) = Unit {0}

keeps_if : (p : Plan) (b : Board) (c : Bool) (r s : Row) → (c ≡ true → Keeps p b r) → (c ≡ false → Keeps p b s) → Keeps p b (if c then r else s)
keeps_if p b true r s first second = first refl
keeps_if p b false r s first second = second refl

-- ---- changes that leave the legs

abbrev in_run : ℕ → (Job → Job) → Run → Run
in_run j f run = record run { jobs = changed run.jobs j f }

job_kept : (p : Plan) (b : Board) (at : JobPlace) (state : JobState) → Fits p b → Fits p (job_state_set b at state)
job_kept p b at state h = record {
  shape = zip-changed RunShape p.runs b.runs at.run (in_run at.job f) (λ q run _ _ fit. zip-changed JobShape q.jobs run.jobs at.job f (λ plan job _ _ here. record { legs = here.legs; steps = here.steps }) fit) h.shape;
  ends = same_legs b (job_state_set b at state)
      (flat_map-twice (λ run. run.jobs) (λ job. job.legs) (changed b.runs at.run (in_run at.job f))
      ∙ flat_map-kept (λ run. flat_map (λ job. job.legs) run.jobs) b.runs at.run (in_run at.job f) (λ run. flat_map-kept (λ job. job.legs) run.jobs at.job f (λ job. refl))
      ∙ sym (flat_map-twice (λ run. run.jobs) (λ job. job.legs) b.runs))
      refl h.ends;
}
  where
    f : Job → Job
    f job = record job { state = state }

-- ---- a change of a leg that has not ended

abbrev in_job : ℕ → (Leg → Leg) → Job → Job
in_job k f job = record job { legs = changed job.legs k f }

leg_shape : (p : Plan) (b : Board) (l : ℕ) (at : LegAt) (f : Leg → Leg) → LegStands p b l at
    → (has_room at.job_plan at.leg ≡ true → has_room at.job_plan (f at.leg) ≡ true) → HasShape p b → HasShape p (with_leg b at.place f)
leg_shape p b l at f stands room shape =
    zip-changed RunShape p.runs b.runs at.place.run (in_run at.place.job (in_job at.place.leg f)) (λ q run q_there run_there fit.
    zip-changed JobShape q.jobs run.jobs at.place.job (in_job at.place.leg f) (λ plan job plan_there job_there here.
    let q_is : q ≡ at.run_plan = same_some q at.run_plan (sym q_there ∙ stands.in_plan) in
    let plan_is : plan ≡ at.job_plan = same_some plan at.job_plan (sym plan_there ∙ ap (λ x. slice_get x.jobs at.place.job) q_is ∙ stands.job_plan) in
    let run_is : run ≡ at.run = same_some run at.run (sym run_there ∙ stands.in_board) in
    let job_is : job ≡ at.job = same_some job at.job (sym job_there ∙ ap (λ x. slice_get x.jobs at.place.job) run_is ∙ stands.job) in
    let leg_there : slice_get job.legs at.place.leg ≡ Some at.leg = ap (λ x. slice_get x.legs at.place.leg) job_is ∙ stands.leg in
    let had : has_room plan at.leg ≡ true = all-get (has_room plan) job.legs at.place.leg at.leg leg_there here.steps in
    let has : has_room plan (f at.leg) ≡ true = subst (λ x. has_room x (f at.leg) ≡ true) (sym plan_is) (room (subst (λ x. has_room x at.leg ≡ true) plan_is had)) in
    record {
      legs = length-changed job.legs at.place.leg f ∙ here.legs;
      steps = all-changed (has_room plan) job.legs at.place.leg f at.leg leg_there has here.steps;
    }) fit) shape

times_unended : (leg : Leg) → is_ended leg.state ≡ false → times_ended (Some leg) ≡ 0
times_unended leg h = ap (λ c. if c then 1 else 0) h

-- a leg that had not ended, and has not
leg_kept : (p : Plan) (b : Board) (l : ℕ) (at : LegAt) (f : Leg → Leg) → LegStands p b l at → is_ended at.leg.state ≡ false → is_ended (f at.leg).state ≡ false
    → (has_room at.job_plan at.leg ≡ true → has_room at.job_plan (f at.leg) ≡ true) → Fits p b → Fits p (with_leg b at.place f)
leg_kept p b l at f stands before now room h = record {
  shape = leg_shape p b l at f stands room h.shape;
  ends = λ k. h.ends k ∙ sym (ap (λ xs. times_ended (slice_get xs k)) (board_legs-changed b l at.place f stands.place) ∙ same k);
}
  where
    item : slice_get (board_legs b) l ≡ Some at.leg
    item = leg_item p b l at stands

    same : (k : ℕ) → times_ended (slice_get (changed (board_legs b) l f) k) ≡ times_ended (slice_get (board_legs b) k)
    same k = elim (cases_eq k l) as (λ _. times_ended (slice_get (changed (board_legs b) l f) k) ≡ times_ended (slice_get (board_legs b) k)) [
      | inl e ↦
          ap (λ i. times_ended (slice_get (changed (board_legs b) l f) i)) e
          ∙ ap times_ended (changed-there (board_legs b) l f at.leg item)
          ∙ times_unended (f at.leg) now
          ∙ sym (ap (λ i. times_ended (slice_get (board_legs b) i)) e ∙ ap times_ended item ∙ times_unended at.leg before)
      | inr n ↦ ap times_ended (changed-elsewhere (board_legs b) l f k n)
    ]

room_kept : (plan : JobPlan) (leg new : Leg) → steps_begun new ≤ steps_begun leg → has_room plan leg ≡ true → has_room plan new ≡ true
room_kept plan leg new less had = grind (arith, nat_tests, less, had)

-- a leg that had not ended, and has now, last of all
leg_done : (p : Plan) (b : Board) (l : ℕ) (at : LegAt) (state : LegState) (outputs : List (List ℕ × List ℕ)) → LegStands p b l at → is_ended at.leg.state ≡ false
    → is_ended state ≡ true → open_calls state ≡ 0 → Fits p b → Fits p (leaves b (leg_standing at.leg) (leg_ended b at.place l state outputs)).0
leg_done p b l at state outputs stands before now quiet h =
    leg_leaves p b (leg_ended b at.place l state outputs) l at.leg f item (board_legs-changed b l at.place f stands.place) (record {
      shape = leg_shape p b l at f stands (room_kept at.job_plan at.leg (f at.leg) (omega (arith, quiet))) h.shape;
      ends = ends_pushed b (leg_ended b at.place l state outputs) l f at.leg refl (board_legs-changed b l at.place f stands.place) item before now h.ends;
    })
  where
    f : Leg → Leg
    f leg = record leg { state = state; outputs = outputs }

    item : slice_get (board_legs b) l ≡ Some at.leg
    item = leg_item p b l at stands

-- ---- the events of runs and jobs

open_keeps : (p : Plan) (b : Board) (r : ℕ) (at : Option RunAt) → Keeps p b (open_found b r at)
open_keeps p b r None = tt
open_keeps p b r (Some at) = by_state at.run.state at.run.stop
  where
    entered : (group : Result (Option Entrance) ValueFault) → Keeps p b (run_enters b r group)
    entered (Ok group) = enter_fits p b (Member.Run r) None group tt
    entered (Err f) = close_fits p b r Outcome.Failure

    by_state : (state : RunState) (stop : Bool) → Keeps p b (open_run b r at state stop)
    by_state RunState.New false = entered (run_entrance at)
    by_state RunState.New true = tt
    by_state RunState.Waiting stop = tt
    by_state RunState.Going stop = tt
    by_state (RunState.Closed result) stop = tt

judge_keeps : (p : Plan) (b : Board) (j : ℕ) (at : Option JobAt) → Keeps p b (judge_found b j at)
judge_keeps p b j None = tt
judge_keeps p b j (Some at) = by_judgement (judgement j at)
  where
    by_judgement : (x : Result JobState EventFault) → Keeps p b (judge_job b at.place x)
    by_judgement (Ok state) = job_kept p b at.place state
    by_judgement (Err f) = tt

close_keeps : (p : Plan) (b : Board) (r : ℕ) (at : Option RunAt) → Keeps p b (close_found b r at)
close_keeps p b r None = tt
close_keeps p b r (Some at) = by_state at.run.state
  where
    closes : (result : Outcome) → Keeps p b (run_closes b r at.run result)
    closes result = run_leaves p b r at.run result

    waiting : (stop : Bool) → Keeps p b (close_waiting b r at.run stop)
    waiting true = closes Outcome.Cancelled
    waiting false = tt

    by_state : (state : RunState) → Keeps p b (close_run b r at.run state)
    by_state RunState.Going =
        keeps_if p b (jobs_have_ended at.run) (run_closes b r at.run (run_result at.run)) (Err EventFault.NeedsOpen)
        (λ _. closes (run_result at.run)) (λ _. tt)
    by_state (RunState.Closed result) = tt
    by_state state = waiting at.run.stop

cancel_keeps : (p : Plan) (b : Board) (r : ℕ) (at : Option RunAt) → Keeps p b (cancel_found b r at)
cancel_keeps p b r None = tt
cancel_keeps p b r (Some at) =
    keeps_if p b (is_closed at.run.state || at.run.stop) (Err EventFault.WrongState) (Ok (stopped b true (Member.Run r), moved)) (λ _. tt)
    (λ _. stop_fits p b true (Member.Run r))

-- ---- the events of legs

-- a leg that is put into a state in which it has neither ended nor a call open
quiet_kept : (p : Plan) (b : Board) (l : ℕ) (at : LegAt) (state : LegState) → LegStands p b l at → is_ended at.leg.state ≡ false → is_ended state ≡ false
    → open_calls state ≡ 0 → Fits p b → Fits p (leg_state_set b at.place state)
quiet_kept p b l at state stands before now quiet =
    leg_kept p b l at (λ leg. record leg { state = state }) stands before now (room_kept at.job_plan at.leg (record at.leg { state = state }) (omega (arith, quiet)))

fresh_unended : (s : LegState) → is_fresh s ≡ true → is_ended s ≡ false
fresh_unended (LegState.Ended result tolerated) h = sym h
fresh_unended s h = refl

not_not : (c : Bool) → not c ≡ false → c ≡ true
not_not true h = refl
not_not false h = sym h

-- a leg that was found, and has not ended
found_unended : (p : Plan) (b : Board) (l : ℕ) (at : LegAt) → leg_at p b l ≡ Some at → is_ended at.leg.state ≡ false → Unended b (Member.Leg l)
found_unended p b l at is before = (at.leg, leg_item p b l at (leg_stands p b l at is), before)

ask_keeps : (p : Plan) (b : Board) (l : ℕ) (at : Option LegAt) → leg_at p b l ≡ at → Keeps p b (ask_found b l at)
ask_keeps p b l None is = tt
ask_keeps p b l (Some at) is =
    keeps_if p b (not (may_ask at)) (Err EventFault.WrongState) unstarted (λ _. tt) (λ ready.
    let fresh = and-right (is_going at.run.state && is_open at.job.state) (is_fresh at.leg.state) (not_not (may_ask at) ready) in
    keeps_if p b (is_full at.job_plan at.job) (Err EventFault.SlotsFull) unstopped (λ _. tt) (λ _.
    keeps_if p b (is_stopping at) (Err EventFault.Stopping) (leg_enters b l at (leg_entrance at)) (λ _. tt) (λ _.
    entered (leg_entrance at) (found_unended p b l at is (fresh_unended at.leg.state fresh)))))
  where
    unstopped : Row
    unstopped = if is_stopping at then Err EventFault.Stopping else leg_enters b l at (leg_entrance at)

    unstarted : Row
    unstarted = if is_full at.job_plan at.job then Err EventFault.SlotsFull else unstopped

    entered : (group : Result (Option Entrance) ValueFault) → Unended b (Member.Leg l) → Keeps p b (leg_enters b l at group)
    entered (Ok group) before = enter_fits p b (Member.Leg l) (Some at.place.run) group before
    entered (Err f) before = drop_fits p b l Outcome.Failure before

untaken_unended : (s : LegState) → is_untaken s ≡ true → is_ended s ≡ false
untaken_unended (LegState.Ended result tolerated) h = sym h
untaken_unended s h = refl

drop_keeps : (p : Plan) (b : Board) (l : ℕ) (at : Option LegAt) → leg_at p b l ≡ at → Keeps p b (drop_found b l at)
drop_keeps p b l None is = tt
drop_keeps p b l (Some at) is =
    keeps_if p b (not (may_drop at)) (Err EventFault.WrongState) unstarted (λ _. tt) (λ ready.
    let untaken = and-right (is_going at.run.state && is_open at.job.state) (is_untaken at.leg.state) (not_not (may_drop at) ready) in
    let before = found_unended p b l at is (untaken_unended at.leg.state untaken) in
    keeps_if p b (is_stopping at) (Ok (leaves b (leg_standing at.leg) (dropped b l Outcome.Cancelled))) (Err EventFault.NotStopping) (λ _ h.
    leg_leaves p b (dropped b l Outcome.Cancelled) l at.leg (λ leg. record leg { state = LegState.Ended Outcome.Cancelled false })
    (leg_item p b l at (leg_stands p b l at is))
    (numbered_leg-changed b l (λ leg. record leg { state = LegState.Ended Outcome.Cancelled false }))
    (drop_fits p b l Outcome.Cancelled before h)) (λ _. tt))
  where
    unstarted : Row
    unstarted = if is_stopping at then Ok (leaves b (leg_standing at.leg) (dropped b l Outcome.Cancelled)) else Err EventFault.NotStopping

take_keeps : (p : Plan) (b : Board) (worker l : ℕ) (at : Option LegAt) → leg_at p b l ≡ at → Keeps p b (take_found b worker at)
take_keeps p b worker l None is = tt
take_keeps p b worker l (Some at) is = by_state at.leg.state refl
  where
    by_state : (state : LegState) → at.leg.state ≡ state → Keeps p b (take_leg b worker at state)
    by_state LegState.Admitted was =
        keeps_if p b (is_stopping at) (Err EventFault.Stopping) (Ok (leg_state_set b at.place (LegState.Running worker false), moved)) (λ _. tt)
        (λ _. quiet_kept p b l at (LegState.Running worker false) (leg_stands p b l at is) (ap is_ended was) refl refl)
    by_state state was = tt

idle_unended : (s : LegState) (owner : ℕ) → idle_owner s ≡ Some owner → is_ended s ≡ false
idle_unended (LegState.Ended result tolerated) owner h = absurd (no_some owner h)
idle_unended s owner h = refl

-- a leg with one more step done, where one was left
step_kept : (p : Plan) (b : Board) (worker l : ℕ) (at : LegAt) (done : DoneStep) → LegStands p b l at → is_ended at.leg.state ≡ false
    → (has_room at.job_plan at.leg ≡ true → length at.leg.steps < length at.job_plan.steps) → Fits p b → Fits p (step_done b at.place worker done)
step_kept p b worker l at done stands before left =
    leg_kept p b l at (λ leg. record leg { state = LegState.Running worker false; steps = leg.steps ++ done ∷ [] }) stands before refl (λ had. room (left had))
  where
    room : length at.leg.steps < length at.job_plan.steps → nat_le (length (at.leg.steps ++ done ∷ []) + 0) (length at.job_plan.steps) ≡ true
    room less = let more = length-append at.leg.steps (done ∷ []) in le-leb (length (at.leg.steps ++ done ∷ []) + 0) (length at.job_plan.steps) (omega (arith, less, more))

begin_keeps : (p : Plan) (b : Board) (worker l : ℕ) (at : Option LegAt) → leg_at p b l ≡ at → Keeps p b (begin_found b worker l at)
begin_keeps p b worker l None is = tt
begin_keeps p b worker l (Some at) is = by_owner (idle_owner at.leg.state) refl (next_step at) refl
  where
    stands : LegStands p b l at
    stands = leg_stands p b l at is

    begun : (x : Beginning) → is_ended at.leg.state ≡ false → length at.leg.steps < length at.job_plan.steps → Keeps p b (begin_leg b worker at (Ok x))
    begun (calls call) before left =
        leg_kept p b l at (λ leg. record leg { state = LegState.Running worker true }) stands before refl
        (λ _. le-leb (length at.leg.steps + 1) (length at.job_plan.steps) (omega (arith, left)))
    begun skips before left = step_kept p b worker l at skipped_step stands before (λ _. left)
    begun (faults f) before left = step_kept p b worker l at (failed_step at) stands before (λ _. left)

    by_beginning : (x : Result Beginning EventFault) → is_ended at.leg.state ≡ false → length at.leg.steps < length at.job_plan.steps → Keeps p b (begin_leg b worker at x)
    by_beginning (Ok x) before left = begun x before left
    by_beginning (Err f) before left = tt

    by_owner : (owner : Option ℕ) → idle_owner at.leg.state ≡ owner → (step : Option StepPlan) → next_step at ≡ step
        → Keeps p b (begin_leg b worker at (beginning_by worker l at owner step))
    by_owner None was step next = tt
    by_owner (Some owner) was None next = tt
    by_owner (Some owner) was (Some step) next =
        by_beginning (beginning_by worker l at (Some owner) (Some step)) (idle_unended at.leg.state owner was) (slice_get_within at.job_plan.steps (length at.leg.steps) step next)

calling_state : (s : LegState) (owner : ℕ) → calling_owner s ≡ Some owner → (is_ended s ≡ false) × (open_calls s ≡ 1)
calling_state (LegState.Running worker true) owner h = (refl, refl)
calling_state s owner h = absurd (no_some owner h)

end_keeps : (p : Plan) (b : Board) (worker l : ℕ) (a : Answer) (at : Option LegAt) → leg_at p b l ≡ at → Keeps p b (end_found b worker a at)
end_keeps p b worker l a None is = tt
end_keeps p b worker l a (Some at) is = by_owner (calling_owner at.leg.state) refl
  where
    left : (steps called most : ℕ) → called ≡ 1 → nat_le (steps + called) most ≡ true → steps < most
    left steps called most one had = let within = leb-true (steps + called) most had in omega (arith, one, within)

    by_ending : (x : Result DoneStep EventFault) → (is_ended at.leg.state ≡ false) × (open_calls at.leg.state ≡ 1) → Keeps p b (end_leg b worker at x)
    by_ending (Ok done) was =
        step_kept p b worker l at done (leg_stands p b l at is) was.0 (left (length at.leg.steps) (open_calls at.leg.state) (length at.job_plan.steps) was.1)
    by_ending (Err f) was = tt

    by_owner : (owner : Option ℕ) → calling_owner at.leg.state ≡ owner → Keeps p b (end_leg b worker at (ending_by worker at a owner))
    by_owner None was = tt
    by_owner (Some owner) was = by_ending (ending_by worker at a (Some owner)) (calling_state at.leg.state owner was)

finish_keeps : (p : Plan) (b : Board) (worker l : ℕ) (at : Option LegAt) → leg_at p b l ≡ at → Keeps p b (finish_found b worker l at)
finish_keeps p b worker l None is = tt
finish_keeps p b worker l (Some at) is = by_owner (idle_owner at.leg.state) refl
  where
    ends : (owner : ℕ) → idle_owner at.leg.state ≡ Some owner → Keeps p b (finish_leg b l at (Ok (ended_state at (leg_result at))))
    ends owner was = leg_done p b l at (ended_state at (leg_result at)) (leg_outputs at) (leg_stands p b l at is) (idle_unended at.leg.state owner was) refl refl

    by_owner : (owner : Option ℕ) → idle_owner at.leg.state ≡ owner → Keeps p b (finish_leg b l at (finishing_by worker at owner))
    by_owner None was = tt
    by_owner (Some owner) was = by_test (not (worker == owner)) (nat_lt (length at.leg.steps) (length at.job_plan.steps))
      where
        by_test : (other more : Bool) → Keeps p b (finish_leg b l at (if other then Err EventFault.OtherWorker else (if more then Err EventFault.StepsLeft else Ok (ended_state at (leg_result at)))))
        by_test true more = tt
        by_test false true = tt
        by_test false false = ends owner was

-- ---- the table

-- each event that is accepted keeps the shape and the ends
pub event_keeps : (p : Plan) (b : Board) (worker : ℕ) (e : Event) → Keeps p b (event_row p b worker e)
event_keeps p b worker (Event.Open r) = open_keeps p b r (run_at p b r)
event_keeps p b worker (Event.Judge j) = judge_keeps p b j (job_at p b j)
event_keeps p b worker (Event.Ask l) = ask_keeps p b l (leg_at p b l) refl
event_keeps p b worker (Event.Drop l) = drop_keeps p b l (leg_at p b l) refl
event_keeps p b worker (Event.Take l) = take_keeps p b worker l (leg_at p b l) refl
event_keeps p b worker (Event.Begin l) = begin_keeps p b worker l (leg_at p b l) refl
event_keeps p b worker (Event.End l a) = end_keeps p b worker l a (leg_at p b l) refl
event_keeps p b worker (Event.Finish l) = finish_keeps p b worker l (leg_at p b l) refl
event_keeps p b worker (Event.Close r) = close_keeps p b r (run_at p b r)
event_keeps p b worker (Event.Cancel r) = cancel_keeps p b r (run_at p b r)

-- each row keeps what a board in play keeps
pub row_keeps : (p : Plan) (b : Board) (worker : ℕ) (e : Event) → Keeps p b (row p b worker e)
row_keeps p b worker e = keeps_if p b (nat_le worker 15) (event_row p b worker e) (Err EventFault.NoSuch) (λ _. event_keeps p b worker e) (λ _. tt)
