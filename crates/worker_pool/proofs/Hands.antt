-- One thread's leg, from its Take to its Finish.
use Rattle.std.proofs.Common.{◌≡◌, ◌≢◌, ℕ, ◌==◌, Bool, true, false, not, [], ◌∷◌, ◌++◌, Option, Some, None, Result, Ok, Err, length, slice_get, nat_lt, if◌then◌else◌, inl, inr, ap, subst, sym, refl, ◌∙◌}
use Rattle.std.proofs.lemmas.Bool.{cases_eq}
use Rattle.status_table.specs.Words.{Answer, Board, CallWork, DoneStep, Env, Event, Leg, LegAt, LegState, Plan, Reply, StepCall, StepPlan, TextPlace, ValueFault, What, board_legs, call_if, changed, condition_value, is_stopping, leg_at, leg_outputs, leg_result, leg_standing, leg_status, moved, moves, seen_from, step_call, step_decision, step_env, then_value, with_leg, work_value}
use Rattle.status_table.specs.declared.fault.EventFault.{EventFault}
use Rattle.status_table.specs.Row as rows
use Rattle.status_table.proofs.Decided.{by_test}
use Rattle.status_table.proofs.Found.{LegStands, leg_stands, leg_item}
use Rattle.status_table.proofs.Lists.{changed-there, changed-elsewhere}
use Rattle.board_decisions.proofs.Lists.{same_some}
use Rattle.status_table.proofs.Numbers.{board_legs-changed}
use Rattle.worker_pool.specs.Alone.{is_running, NobodyRuns}
use Rattle.worker_pool.specs.Hand.{Holds}
use Rattle.worker_pool.proofs.Legs.{EachLegThen, of_leaves, clerk_legs}
use Rattle.worker_pool.proofs.Moved.{first_is_clerks}

-- what follows of the board and the reply of a row, if it is accepted
abbrev pub IfAccepted : (Board → Reply → Type 0) → rows.Row → Type 0
IfAccepted P (Ok x) = P x.0 x.1
IfAccepted P (Err f) = Unit {0}

pub accepted : (P : Board → Reply → Type 0) (r : rows.Row) (c : Board) (told : Reply) → IfAccepted P r → r ≡ Ok (c, told) → P c told
accepted P r c told h is = subst (IfAccepted P) is h

-- ---- no leg has a worker

abbrev of_nobody : ℕ → LegState → Type 0
of_nobody k s = is_running s ≡ false

pub still_nobody : (p : Plan) (b c : Board) (e : Event) (told : Reply) → slice_get (moves p b) 0 ≡ Some e → rows.row p b 0 e ≡ Ok (c, told) → NobodyRuns b → NobodyRuns c
still_nobody p b c e told first is nobody =
    subst (EachLegThen of_nobody) is (clerk_legs of_nobody (λ k s h. h) p b e (first_is_clerks p b e first) nobody)

-- ---- one leg has its worker

-- no other leg has a worker
abbrev OthersRest : Board → ℕ → Type 0
OthersRest b l = (k : ℕ) (other : Leg) → k ≢ l → slice_get (board_legs b) k ≡ Some other → is_running other.state ≡ false

held : (p : Plan) (b : Board) (l : ℕ) (at : LegAt) (f : Leg → Leg) (in_call : Bool) → LegStands p b l at → OthersRest b l → (f at.leg).state ≡ LegState.Running 0 in_call
    → Holds (with_leg b at.place f) l in_call
held p b l at f in_call stands others state =
    let legs = board_legs-changed b l at.place f stands.place in
    record {
      leg = f at.leg;
      there = ap (λ xs. slice_get xs l) legs ∙ changed-there (board_legs b) l f at.leg (leg_item p b l at stands);
      state = state;
      others = λ k other apart there. others k other apart (sym (changed-elsewhere (board_legs b) l f k apart) ∙ sym (ap (λ xs. slice_get xs k) legs) ∙ there);
    }

-- ---- Take

pub taken : (p : Plan) (b c : Board) (l : ℕ) (told : Reply) → rows.row p b 0 (Event.Take l) ≡ Ok (c, told) → NobodyRuns b → Holds c l false
taken p b c l told is nobody = accepted P (rows.take_row p b 0 l) c told (found (leg_at p b l) refl) is
  where
    P : Board → Reply → Type 0
    P x r = Holds x l false

    by_state : (at : LegAt) → leg_at p b l ≡ Some at → (s : LegState) → IfAccepted (λ x r. Holds x l false) (rows.take_leg b 0 at s)
    by_state at here LegState.Fresh = tt
    by_state at here LegState.Waiting = tt
    by_state at here LegState.Admitted =
        by_test (IfAccepted (λ x r. Holds x l false)) (is_stopping at) (Err EventFault.Stopping) (Ok (rows.leg_state_set b at.place (LegState.Running 0 false), moved)) tt
        (held p b l at (λ leg. record leg { state = LegState.Running 0 false }) false (leg_stands p b l at here) (λ k other apart there. nobody k other there) refl)
    by_state at here (LegState.Running other in_call) = tt
    by_state at here (LegState.Ended result tolerated) = tt

    found : (o : Option LegAt) → leg_at p b l ≡ o → IfAccepted (λ x r. Holds x l false) (rows.take_found b 0 o)
    found None here = tt
    found (Some at) here = by_state at here at.leg.state

-- ---- Begin

-- a call, if it is one, is of this leg and step
abbrev IsOf : ℕ → ℕ → Result (Option StepCall) ValueFault → Type 0
IsOf l step (Ok None) = Unit {0}
IsOf l step (Ok (Some call)) = (call.leg ≡ l) × (call.step ≡ step)
IsOf l step (Err f) = Unit {0}

decision_is_of : (l : ℕ) (at : LegAt) (step : StepPlan) → IsOf l (length at.leg.steps) (step_decision l at step)
unfolding step_decision step_call step_env
decision_is_of l at step = by_env (step_env at step)
  where
    by_work : (env : Env) (w : Result CallWork ValueFault)
        → IsOf l (length at.leg.steps) (then_value w (λ asked. Ok (Some (record { leg = l; step = length at.leg.steps; work = asked; env = env }))))
    by_work env (Ok asked) = (refl, refl)
    by_work env (Err f) = tt

    by_condition : (env : Env) (r : Result Bool ValueFault) → IsOf l (length at.leg.steps) (then_value r (call_if (seen_from at) l (length at.leg.steps) step env))
    by_condition env (Ok true) = by_work env (work_value (seen_from at TextPlace.StepText env) step.work)
    by_condition env (Ok false) = tt
    by_condition env (Err f) = tt

    by_env : (e : Result Env ValueFault)
        → IsOf l (length at.leg.steps)
        (then_value e (λ env. then_value (condition_value (seen_from at TextPlace.StepCondition env) (leg_status at) step.condition) (call_if (seen_from at) l (length at.leg.steps) step env)))
    by_env (Ok env) = by_condition env (condition_value (seen_from at TextPlace.StepCondition env) (leg_status at) step.condition)
    by_env (Err f) = tt

-- the leg of worker 0 after a Begin, by what was replied
abbrev pub BegunLeg : ℕ → Board → What → Type 0
BegunLeg l c What.Moved = Holds c l false
BegunLeg l c (What.Call call) = (h : Holds c l true) × (call.leg ≡ l) × (call.step ≡ length h.leg.steps)
BegunLeg l c What.Skipped = Holds c l false
BegunLeg l c (What.Faulted f) = Holds c l false

pub begun : (p : Plan) (b c : Board) (l : ℕ) (told : Reply) → rows.row p b 0 (Event.Begin l) ≡ Ok (c, told) → Holds b l false → BegunLeg l c told.what
unfolding held
begun p b c l told is holds = accepted (λ x r. BegunLeg l x r.what) (rows.begin_row p b 0 l) c told (found (leg_at p b l) refl) is
  where
    stepped : (at : LegAt) → leg_at p b l ≡ Some at → (done : DoneStep) → Holds (rows.step_done b at.place 0 done) l false
    stepped at here done =
        held p b l at (λ leg. record leg { state = LegState.Running 0 false; steps = leg.steps ++ done ∷ [] }) false (leg_stands p b l at here) holds.others refl

    by_decision : (at : LegAt) → leg_at p b l ≡ Some at → (d : Result (Option StepCall) ValueFault) → IsOf l (length at.leg.steps) d
        → IfAccepted (λ x r. BegunLeg l x r.what) (rows.begin_leg b 0 at (Ok (rows.decided d)))
    by_decision at here (Ok None) h = stepped at here rows.skipped_step
    by_decision at here (Ok (Some call)) h =
        (held p b l at (λ leg. record leg { state = LegState.Running 0 true }) true (leg_stands p b l at here) holds.others refl, h.0, h.1)
    by_decision at here (Err f) h = stepped at here (rows.failed_step at)

    by_worker : (at : LegAt) → leg_at p b l ≡ Some at → (step : StepPlan) (mine : Bool)
        → IfAccepted (λ x r. BegunLeg l x r.what) (rows.begin_leg b 0 at (if mine then Ok (rows.decided (step_decision l at step)) else Err EventFault.OtherWorker))
    by_worker at here step true = by_decision at here (step_decision l at step) (decision_is_of l at step)
    by_worker at here step false = tt

    by_step : (at : LegAt) → leg_at p b l ≡ Some at → (owner : Option ℕ) (step : Option StepPlan)
        → IfAccepted (λ x r. BegunLeg l x r.what) (rows.begin_leg b 0 at (rows.beginning_by 0 l at owner step))
    by_step at here None step = tt
    by_step at here (Some owner) None = tt
    by_step at here (Some owner) (Some step) = by_worker at here step (0 == owner)

    found : (o : Option LegAt) → leg_at p b l ≡ o → IfAccepted (λ x r. BegunLeg l x r.what) (rows.begin_found b 0 l o)
    found None here = tt
    found (Some at) here = by_step at here (rows.idle_owner at.leg.state) (rows.next_step at)

-- ---- End

pub ended : (p : Plan) (b c : Board) (l : ℕ) (a : Answer) (told : Reply) → rows.row p b 0 (Event.End l a) ≡ Ok (c, told) → Holds b l true → Holds c l false
ended p b c l a told is holds = accepted (λ x r. Holds x l false) (rows.end_row p b 0 l a) c told (found (leg_at p b l) refl) is
  where
    by_done : (at : LegAt) → leg_at p b l ≡ Some at → (d : Result DoneStep EventFault) → IfAccepted (λ x r. Holds x l false) (rows.end_leg b 0 at d)
    by_done at here (Ok done) =
        held p b l at (λ leg. record leg { state = LegState.Running 0 false; steps = leg.steps ++ done ∷ [] }) false (leg_stands p b l at here) holds.others refl
    by_done at here (Err f) = tt

    found : (o : Option LegAt) → leg_at p b l ≡ o → IfAccepted (λ x r. Holds x l false) (rows.end_found b 0 a o)
    found None here = tt
    found (Some at) here = by_done at here (rows.ending 0 at a)

-- ---- Finish

pub finished_leg : (p : Plan) (b c : Board) (l : ℕ) (told : Reply) → rows.row p b 0 (Event.Finish l) ≡ Ok (c, told) → Holds b l false → NobodyRuns c
finished_leg p b c l told is holds = accepted (λ x r. NobodyRuns x) (rows.finish_row p b 0 l) c told (found (leg_at p b l) refl) is
  where
    out : (at : LegAt) → leg_at p b l ≡ Some at → (s : LegState) → is_running s ≡ false → NobodyRuns (rows.leg_ended b at.place l s (leg_outputs at))
    out at here s down k leg there =
        elim (cases_eq k l) as (λ _. is_running leg.state ≡ false) [
          | inl e ↦
              let new : Some (f at.leg) ≡ Some leg = sym (changed-there (board_legs b) l f at.leg (leg_item p b l at stands)) ∙ sym (ap (λ xs. slice_get xs l) legs) ∙ sym (ap (slice_get (board_legs (with_leg b at.place f))) e) ∙ there in
              sym (ap (λ (x : Leg). is_running x.state) (same_some (f at.leg) leg new)) ∙ down
          | inr n ↦ holds.others k leg n (sym (changed-elsewhere (board_legs b) l f k n) ∙ sym (ap (λ xs. slice_get xs k) legs) ∙ there)
        ]
      where
        f : Leg → Leg
        f leg' = record leg' { state = s; outputs = leg_outputs at }

        stands : LegStands p b l at
        stands = leg_stands p b l at here

        legs : board_legs (with_leg b at.place (λ x. record x { state = s; outputs = leg_outputs at })) ≡ changed (board_legs b) l (λ x. record x { state = s; outputs = leg_outputs at })
        legs = board_legs-changed b l at.place (λ x. record x { state = s; outputs = leg_outputs at }) stands.place

    by_left : (at : LegAt) → leg_at p b l ≡ Some at → (left : Bool)
        → IfAccepted (λ x r. NobodyRuns x) (rows.finish_leg b l at (if left then Err EventFault.StepsLeft else Ok (rows.ended_state at (leg_result at))))
    by_left at here true = tt
    by_left at here false =
        of_leaves of_nobody (λ k s h. h) b (rows.leg_ended b at.place l (rows.ended_state at (leg_result at)) (leg_outputs at)) (leg_standing at.leg)
        (out at here (rows.ended_state at (leg_result at)) refl)

    by_worker : (at : LegAt) → leg_at p b l ≡ Some at → (other : Bool)
        → IfAccepted (λ x r. NobodyRuns x)
        (rows.finish_leg b l at (if other then Err EventFault.OtherWorker else (if nat_lt (length at.leg.steps) (length at.job_plan.steps) then Err EventFault.StepsLeft else Ok (rows.ended_state at (leg_result at)))))
    by_worker at here true = tt
    by_worker at here false = by_left at here (nat_lt (length at.leg.steps) (length at.job_plan.steps))

    by_owner : (at : LegAt) → leg_at p b l ≡ Some at → (owner : Option ℕ) → IfAccepted (λ x r. NobodyRuns x) (rows.finish_leg b l at (rows.finishing_by 0 at owner))
    by_owner at here None = tt
    by_owner at here (Some owner) = by_worker at here (not (0 == owner))

    found : (o : Option LegAt) → leg_at p b l ≡ o → IfAccepted (λ x r. NobodyRuns x) (rows.finish_found b 0 l o)
    found None here = tt
    found (Some at) here = by_owner at here (rows.idle_owner at.leg.state)
