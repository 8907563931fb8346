-- What each event does to the steps of the legs.
use Rattle.std.proofs.Common.{◌≡◌, ◌≢◌, ℕ, suc, ◌==◌, ◌++◌, ◌&&◌, ◌||◌, Bool, true, false, not, List, [], ◌∷◌, Option, Some, None, Result, Ok, Err, length, slice_get, nat_lt, if◌then◌else◌, ap, subst, sym, refl, ◌∙◌, arith}
use Rattle.std.proofs.lemmas.Bool.{true≢false}
use Rattle.std.proofs.lemmas.List.{length-append}
use Rattle.status_table.specs.Words.{Answer, Board, CallWork, DoneStep, Entrance, JobAt, JobPlace, JobState, Leg, LegAt, LegState, Member, Outcome, Plan, Row, Run, RunAt, RunState, StepCall, StepPlan, ValueFault, What, board_legs, call_if, closed, decided, dropped, failed_step, is_closed, is_ended, is_fresh, is_full, is_going, is_open, is_stopping, is_untaken, is_well_formed, job_at, jobs_have_ended, leaves, leg_at, leg_entrance, leg_outputs, leg_result, leg_standing, leg_state_set, moved, run_at, run_entrance, run_result, run_standing, seen_from, skipped_step, step_call, step_decision, step_done, step_env, stopped, then_value, with_leg}
use Rattle.status_table.specs.declared.fault.EventFault.{EventFault}
use Rattle.status_table.specs.Row as rows
use Rattle.board_decisions.proofs.Lists.{and-right, same_some, no_some}
use Rattle.status_table.proofs.Decided.{by_test}
use Rattle.status_table.proofs.Found.{leg_stands, leg_item}
use Rattle.status_table.proofs.Lists.{changed-there, changed-elsewhere}
use Rattle.status_table.proofs.Numbers.{board_legs-changed}
use Rattle.step_host.proofs.Quiet.{is_calling, QuietAt, quiet-same, quiet_at-same, leg_of, Quieted, quiet-untaken, quiet-ended, quiet-leg, quiet-job, IsUntaken, quiet-closed, quiet-dropped, quiet-stopped, quiet-enters, quiet-leaves}

-- ---- events that begin and end no step

unfoldable pub QuietRow : Board → Row → Type 0
QuietRow b (Ok x) = Quieted b x.0
QuietRow b (Err refusal) = Unit {0}

pub open-quiet : (p : Plan) (b : Board) (r : ℕ) → QuietRow b (rows.open_row p b r)
unfolding QuietRow
open-quiet p b r = found (run_at p b r)
  where
    entered : (x : Result (Option Entrance) ValueFault) → QuietRow b (rows.run_enters b r x)
    entered (Ok group) = quiet-enters b (Member.Run r) None group tt
    entered (Err f) = quiet-closed b r Outcome.Failure

    by_state : (at : RunAt) (s : RunState) (stop : Bool) → QuietRow b (rows.open_run b r at s stop)
    by_state at RunState.New false = entered (run_entrance at)
    by_state at RunState.New true = tt
    by_state at RunState.Waiting stop = tt
    by_state at RunState.Going stop = tt
    by_state at (RunState.Closed result) stop = tt

    found : (o : Option RunAt) → QuietRow b (rows.open_found b r o)
    found None = tt
    found (Some at) = by_state at at.run.state at.run.stop

pub judge-quiet : (p : Plan) (b : Board) (j : ℕ) → QuietRow b (rows.judge_row p b j)
unfolding QuietRow
judge-quiet p b j = found (job_at p b j)
  where
    judged : (place : JobPlace) (x : Result JobState EventFault) → QuietRow b (rows.judge_job b place x)
    judged place (Ok state) = quiet-job b place state
    judged place (Err f) = tt

    found : (o : Option JobAt) → QuietRow b (rows.judge_found b j o)
    found None = tt
    found (Some at) = judged at.place (rows.judgement j at)

-- a leg that is found is no other
is_untaken-there : (p : Plan) (b : Board) (l : ℕ) (at : LegAt) → leg_at p b l ≡ Some at → is_untaken at.leg.state ≡ true → IsUntaken b (Member.Leg l)
is_untaken-there p b l at is untaken = λ leg there.
    ap (λ (x : Leg). is_untaken x.state) (same_some leg at.leg (sym there ∙ leg_item p b l at (leg_stands p b l at is))) ∙ untaken

fresh-untaken : (s : LegState) → is_fresh s ≡ true → is_untaken s ≡ true
fresh-untaken LegState.Fresh h = refl
fresh-untaken LegState.Waiting h = refl
fresh-untaken LegState.Admitted h = refl
fresh-untaken (LegState.Running worker in_call) h = absurd (true≢false (sym h))
fresh-untaken (LegState.Ended result tolerated) h = absurd (true≢false (sym h))

pub ask-quiet : (p : Plan) (b : Board) (l : ℕ) → QuietRow b (rows.ask_row p b l)
unfolding QuietRow
ask-quiet p b l = found (leg_at p b l) refl
  where
    entered : (at : LegAt) → IsUntaken b (Member.Leg l) → (x : Result (Option Entrance) ValueFault) → QuietRow b (rows.leg_enters b l at x)
    entered at untaken (Ok group) = quiet-enters b (Member.Leg l) (Some at.place.run) group untaken
    entered at untaken (Err f) = quiet-dropped b l Outcome.Failure

    asked : (at : LegAt) → leg_at p b l ≡ Some at → (c : Bool) → rows.may_ask at ≡ c
        → QuietRow b (if not c then Err EventFault.WrongState else (if is_full at.job_plan at.job then Err EventFault.SlotsFull else (if is_stopping at then Err EventFault.Stopping else rows.leg_enters b l at (leg_entrance at))))
    asked at is false may = tt
    asked at is true may =
        let fresh : is_fresh at.leg.state ≡ true = and-right (is_going at.run.state && is_open at.job.state) (is_fresh at.leg.state) may in
        by_test (QuietRow b) (is_full at.job_plan at.job) (Err EventFault.SlotsFull) _ tt
        (by_test (QuietRow b) (is_stopping at) (Err EventFault.Stopping) _ tt (entered at (is_untaken-there p b l at is (fresh-untaken at.leg.state fresh)) (leg_entrance at)))

    found : (o : Option LegAt) → leg_at p b l ≡ o → QuietRow b (rows.ask_found b l o)
    found None is = tt
    found (Some at) is = asked at is (rows.may_ask at) refl

pub drop-quiet : (p : Plan) (b : Board) (l : ℕ) → QuietRow b (rows.drop_row p b l)
unfolding QuietRow
drop-quiet p b l = found (leg_at p b l)
  where
    found : (o : Option LegAt) → QuietRow b (rows.drop_found b l o)
    found None = tt
    found (Some at) =
        by_test (QuietRow b) (not (rows.may_drop at)) (Err EventFault.WrongState) _ tt
        (by_test (QuietRow b) (is_stopping at) (Ok (leaves b (leg_standing at.leg) (dropped b l Outcome.Cancelled))) (Err EventFault.NotStopping)
        (quiet-leaves b (leg_standing at.leg) (dropped b l Outcome.Cancelled) (quiet-dropped b l Outcome.Cancelled)) tt)

pub take-quiet : (p : Plan) (b : Board) (worker l : ℕ) → QuietRow b (rows.take_row p b worker l)
unfolding QuietRow
take-quiet p b worker l = found (leg_at p b l) refl
  where
    taken : (at : LegAt) → leg_at p b l ≡ Some at → (s : LegState) → at.leg.state ≡ s → QuietRow b (rows.take_leg b worker at s)
    taken at is LegState.Fresh was = tt
    taken at is LegState.Waiting was = tt
    taken at is LegState.Admitted was =
        by_test (QuietRow b) (is_stopping at) (Err EventFault.Stopping) (Ok (leg_state_set b at.place (LegState.Running worker false), moved)) tt
        (quiet-leg b l at.place (λ leg. record leg { state = LegState.Running worker false }) (leg_stands p b l at is).place
        (λ x there. quiet-untaken x x (record x { state = LegState.Running worker false }) (quiet-same x) refl refl (is_untaken-there p b l at is (ap is_untaken was) x there)))
    taken at is (LegState.Running other in_call) was = tt
    taken at is (LegState.Ended result tolerated) was = tt

    found : (o : Option LegAt) → leg_at p b l ≡ o → QuietRow b (rows.take_found b worker o)
    found None is = tt
    found (Some at) is = taken at is at.leg.state refl

pub finish-quiet : (p : Plan) (b : Board) (worker l : ℕ) → QuietRow b (rows.finish_row p b worker l)
unfolding QuietRow
finish-quiet p b worker l = found (leg_at p b l) refl
  where
    ended : (at : LegAt) → leg_at p b l ≡ Some at → (result : Outcome) (tolerated : Bool) → QuietRow b (rows.finish_leg b l at (Ok (LegState.Ended result tolerated)))
    ended at is result tolerated =
        quiet-leaves b (leg_standing at.leg) (rows.leg_ended b at.place l (LegState.Ended result tolerated) (leg_outputs at))
        (quiet-leg b l at.place (λ leg. record leg { state = LegState.Ended result tolerated; outputs = leg_outputs at }) (leg_stands p b l at is).place
        (λ x there. quiet-ended x x (record x { state = LegState.Ended result tolerated; outputs = leg_outputs at }) (quiet-same x) refl refl))

    by_owner : (at : LegAt) → leg_at p b l ≡ Some at → (owner : Option ℕ) → QuietRow b (rows.finish_leg b l at (rows.finishing_by worker at owner))
    by_owner at is None = tt
    by_owner at is (Some owner) = tests (not (worker == owner)) (nat_lt (length at.leg.steps) (length at.job_plan.steps))
      where
        tests : (c d : Bool) → QuietRow b (rows.finish_leg b l at (if c then Err EventFault.OtherWorker else (if d then Err EventFault.StepsLeft else Ok (rows.ended_state at (leg_result at)))))
        tests true d = tt
        tests false true = tt
        tests false false = ended at is _ _

    found : (o : Option LegAt) → leg_at p b l ≡ o → QuietRow b (rows.finish_found b worker l o)
    found None is = tt
    found (Some at) is = by_owner at is (rows.idle_owner at.leg.state)

pub close-quiet : (p : Plan) (b : Board) (r : ℕ) → QuietRow b (rows.close_row p b r)
unfolding QuietRow
close-quiet p b r = found (run_at p b r)
  where
    closes : (run : Run) (result : Outcome) → QuietRow b (rows.run_closes b r run result)
    closes run result = quiet-leaves b (run_standing run) (closed b r result) (quiet-closed b r result)

    waiting : (run : Run) (stop : Bool) → QuietRow b (rows.close_waiting b r run stop)
    waiting run true = closes run Outcome.Cancelled
    waiting run false = tt

    by_state : (run : Run) (s : RunState) → QuietRow b (rows.close_run b r run s)
    by_state run RunState.New = waiting run run.stop
    by_state run RunState.Waiting = waiting run run.stop
    by_state run RunState.Going = by_test (QuietRow b) (jobs_have_ended run) (rows.run_closes b r run (run_result run)) (Err EventFault.NeedsOpen) (closes run (run_result run)) tt
    by_state run (RunState.Closed result) = tt

    found : (o : Option RunAt) → QuietRow b (rows.close_found b r o)
    found None = tt
    found (Some at) = by_state at.run at.run.state

pub cancel-quiet : (p : Plan) (b : Board) (r : ℕ) → QuietRow b (rows.cancel_row p b r)
unfolding QuietRow
cancel-quiet p b r = found (run_at p b r)
  where
    found : (o : Option RunAt) → QuietRow b (rows.cancel_found b r o)
    found None = tt
    found (Some at) =
        by_test (QuietRow b) (is_closed at.run.state || at.run.stop) (Err EventFault.WrongState) (Ok (stopped b true (Member.Run r), moved)) tt (quiet-stopped b true (Member.Run r))

-- ---- the call of a step names its leg and its place

abbrev PlacedCall : ℕ → ℕ → Result (Option StepCall) ValueFault → Type 0
PlacedCall l s (Ok None) = Unit {0}
PlacedCall l s (Ok (Some call)) = (call.leg ≡ l) × (call.step ≡ s)
PlacedCall l s (Err f) = Unit {0}

then-placed : {A : Type 0} (l s : ℕ) (r : Result A ValueFault) (next : A → Result (Option StepCall) ValueFault) → ((x : A) → PlacedCall l s (next x))
    → PlacedCall l s (then_value r next)
then-placed l s (Ok x) next h = h x
then-placed l s (Err f) next h = tt

decision_placed : (l : ℕ) (at : LegAt) (step : StepPlan) → PlacedCall l (length at.leg.steps) (step_decision l at step)
unfolding step_decision step_call step_env
decision_placed l at step =
    then-placed l (length at.leg.steps) (step_env at step) _ (λ env. then-placed l (length at.leg.steps) _ (call_if (seen_from at) l (length at.leg.steps) step env) (held env))
  where
    made : List (List ℕ × List ℕ) → CallWork → StepCall
    made env given = record { leg = l; step = length at.leg.steps; work = given; env = env }

    held : (env : List (List ℕ × List ℕ)) (c : Bool) → PlacedCall l (length at.leg.steps) (call_if (seen_from at) l (length at.leg.steps) step env c)
    held env true = then-placed l (length at.leg.steps) _ (λ given. Ok (Some (made env given))) (λ given. (refl, refl))
    held env false = tt

-- ---- a step of leg l begins or ends

-- each other leg keeps its steps, and is in no call in which it was not
abbrev pub QuietElsewhere : ℕ → Board → Board → Type 0
QuietElsewhere l b c = (k : ℕ) → k ≢ l → QuietAt (leg_of b k) (leg_of c k)

-- one more step is done, and the leg is in no call
pub record OneMore (old new : Leg) : Type 0 where
  pub steps : length new.steps ≡ suc (length old.steps)
  pub idle : is_calling new.state ≡ false

-- by the reply, the leg is in that call of its next step, or it has done one more
abbrev pub Begun : ℕ → What → Leg → Leg → Type 0
Begun l What.Moved old new = ⊥
Begun l (What.Call call) old new = (call.leg ≡ l) × (call.step ≡ length old.steps) × (new.steps ≡ old.steps) × (is_calling new.state ≡ true)
Begun l What.Skipped old new = OneMore old new
Begun l (What.Faulted f) old new = OneMore old new

-- a leg has a worker, and is in no call
abbrev pub IsIdle : LegState → Type 0
IsIdle s = (is_ended s ≡ false) × (is_calling s ≡ false)

pub record BeginTurns (b c : Board) (l : ℕ) (told : What) : Type 0 where
  pub old : Leg
  pub new : Leg
  pub was : leg_of b l ≡ Some old
  pub is : leg_of c l ≡ Some new
  pub idle : IsIdle old.state
  pub begun : Begun l told old new
  pub others : QuietElsewhere l b c

pub record EndTurns (b c : Board) (l : ℕ) (a : Answer) : Type 0 where
  pub old : Leg
  pub new : Leg
  pub was : leg_of b l ≡ Some old
  pub is : leg_of c l ≡ Some new
  pub more : OneMore old new
  pub others : QuietElsewhere l b c
  pub calling : is_calling old.state ≡ true
  pub well_formed : is_well_formed a ≡ true

unfoldable pub BeginRow : Board → ℕ → Row → Type 0
BeginRow b l (Ok x) = BeginTurns b x.0 l x.1.what
BeginRow b l (Err refusal) = Unit {0}

unfoldable pub EndRow : Board → ℕ → Answer → Row → Type 0
EndRow b l a (Ok x) = EndTurns b x.0 l a
EndRow b l a (Err refusal) = Unit {0}

module _ (p : Plan) (b : Board) (l : ℕ) (at : LegAt) (found : leg_at p b l ≡ Some at) where
  was_there : leg_of b l ≡ Some at.leg
  was_there = leg_item p b l at (leg_stands p b l at found)

  is_there : (f : Leg → Leg) → leg_of (with_leg b at.place f) l ≡ Some (f at.leg)
  is_there f = ap (λ legs. slice_get legs l) (board_legs-changed b l at.place f (leg_stands p b l at found).place) ∙ changed-there (board_legs b) l f at.leg was_there

  elsewhere : (f : Leg → Leg) → QuietElsewhere l b (with_leg b at.place f)
  elsewhere f k apart =
      let same : leg_of (with_leg b at.place f) k ≡ leg_of b k =
      ap (λ legs. slice_get legs k) (board_legs-changed b l at.place f (leg_stands p b l at found).place) ∙ changed-elsewhere (board_legs b) l f k apart in
      subst (QuietAt (leg_of b k)) (sym same) (quiet_at-same (leg_of b k))

  one_more : (worker : ℕ) (done : DoneStep) → OneMore at.leg (record at.leg { state = LegState.Running worker false; steps = at.leg.steps ++ done ∷ [] })
  one_more worker done = let more = length-append at.leg.steps (done ∷ []) in record { steps = omega (arith, more); idle = refl }

  step_turns : (worker : ℕ) (done : DoneStep) (told : What) → IsIdle at.leg.state → (OneMore at.leg (record at.leg { state = LegState.Running worker false; steps = at.leg.steps ++ done ∷ [] })
      → Begun l told at.leg (record at.leg { state = LegState.Running worker false; steps = at.leg.steps ++ done ∷ [] })) → BeginTurns b (step_done b at.place worker done) l told
  step_turns worker done told idle how =
      let f : Leg → Leg = λ leg. record leg { state = LegState.Running worker false; steps = leg.steps ++ done ∷ [] } in
      record { old = at.leg; new = f at.leg; was = was_there; is = is_there f; idle = idle; begun = how (one_more worker done); others = elsewhere f }

  call_turns : (worker : ℕ) (call : StepCall) → IsIdle at.leg.state → call.leg ≡ l → call.step ≡ length at.leg.steps
      → BeginTurns b (leg_state_set b at.place (LegState.Running worker true)) l (What.Call call)
  call_turns worker call idle of_leg of_step =
      let f : Leg → Leg = λ leg. record leg { state = LegState.Running worker true } in
      record { old = at.leg; new = f at.leg; was = was_there; is = is_there f; idle = idle; begun = (of_leg, of_step, refl, refl); others = elsewhere f }

  begun_turns : (worker : ℕ) (step : StepPlan) → IsIdle at.leg.state → (x : Result (Option StepCall) ValueFault) → step_decision l at step ≡ x
      → BeginRow b l (rows.begin_leg b worker at (Ok (decided x)))
  unfolding BeginRow
  begun_turns worker step idle (Ok None) is = step_turns worker skipped_step What.Skipped idle (λ h. h)
  begun_turns worker step idle (Ok (Some call)) is =
      let made = subst (PlacedCall l (length at.leg.steps)) is (decision_placed l at step) in
      call_turns worker call idle made.0 made.1
  begun_turns worker step idle (Err f) is = step_turns worker (failed_step at) (What.Faulted f) idle (λ h. h)

  owner-idle : (s : LegState) (owner : ℕ) → rows.idle_owner s ≡ Some owner → IsIdle s
  owner-idle LegState.Fresh owner h = absurd (no_some owner h)
  owner-idle LegState.Waiting owner h = absurd (no_some owner h)
  owner-idle LegState.Admitted owner h = absurd (no_some owner h)
  owner-idle (LegState.Running worker true) owner h = absurd (no_some owner h)
  owner-idle (LegState.Running worker false) owner h = (refl, refl)
  owner-idle (LegState.Ended result tolerated) owner h = absurd (no_some owner h)

  begin_by : (worker : ℕ) (owner : Option ℕ) → rows.idle_owner at.leg.state ≡ owner → (step : Option StepPlan)
      → BeginRow b l (rows.begin_leg b worker at (rows.beginning_by worker l at owner step))
  unfolding BeginRow
  begin_by worker None is step = tt
  begin_by worker (Some owner) is None = tt
  begin_by worker (Some owner) is (Some step) = tests (worker == owner)
    where
      tests : (c : Bool) → BeginRow b l (rows.begin_leg b worker at (if c then Ok (decided (step_decision l at step)) else Err EventFault.OtherWorker))
      tests true = begun_turns worker step (owner-idle at.leg.state owner is) (step_decision l at step) refl
      tests false = tt

  end_by : (worker : ℕ) (a : Answer) (owner : Option ℕ) → rows.calling_owner at.leg.state ≡ owner → EndRow b l a (rows.end_leg b worker at (rows.ending_by worker at a owner))
  unfolding EndRow
  end_by worker a None is = tt
  end_by worker a (Some owner) is = tests (not (worker == owner)) (is_well_formed a) refl
    where
      calling : (s : LegState) → rows.calling_owner s ≡ Some owner → is_calling s ≡ true
      calling LegState.Fresh h = absurd (no_some owner h)
      calling LegState.Waiting h = absurd (no_some owner h)
      calling LegState.Admitted h = absurd (no_some owner h)
      calling (LegState.Running worker' true) h = refl
      calling (LegState.Running worker' false) h = absurd (no_some owner h)
      calling (LegState.Ended result tolerated) h = absurd (no_some owner h)

      tests : (c d : Bool) → is_well_formed a ≡ d → EndRow b l a (rows.end_leg b worker at (if c then Err EventFault.OtherWorker else (if not d then Err EventFault.BadAnswer else Ok (rows.answered_step at a))))
      tests true d good = tt
      tests false false good = tt
      tests false true good =
          let done = rows.answered_step at a in
          let f : Leg → Leg = λ leg. record leg { state = LegState.Running worker false; steps = leg.steps ++ done ∷ [] } in
          record {
            old = at.leg;
            new = f at.leg;
            was = was_there;
            is = is_there f;
            more = one_more worker done;
            others = elsewhere f;
            calling = calling at.leg.state is;
            well_formed = good;
          }

pub begin_turns : (p : Plan) (b : Board) (worker l : ℕ) → BeginRow b l (rows.begin_row p b worker l)
unfolding BeginRow
begin_turns p b worker l = found (leg_at p b l) refl
  where
    found : (o : Option LegAt) → leg_at p b l ≡ o → BeginRow b l (rows.begin_found b worker l o)
    found None is = tt
    found (Some at) is = begin_by p b l at is worker (rows.idle_owner at.leg.state) refl (rows.next_step at)

pub end_turns : (p : Plan) (b : Board) (worker l : ℕ) (a : Answer) → EndRow b l a (rows.end_row p b worker l a)
unfolding EndRow
end_turns p b worker l a = found (leg_at p b l) refl
  where
    found : (o : Option LegAt) → leg_at p b l ≡ o → EndRow b l a (rows.end_found b worker a o)
    found None is = tt
    found (Some at) is = end_by p b l at is worker a (rows.calling_owner at.leg.state) refl
