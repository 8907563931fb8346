-- What the call of a step is made of.
use Rattle.std.proofs.Common.{◌≡◌, ℕ, suc, Bool, true, false, List, [], ◌∷◌, map, Option, Some, None, Result, Ok, Err, length, nat_le, refl, sym, ap, subst, ◌∙◌}
use Rattle.board_settled.specs.Words.{Ascends, AskedInOrder, Board, CallInOrder, CallWork, CallsAreInOrder, CallsAreMostSpecific, Contexts, DoneStep, Env, EnvHasItsNames, EventFault, IfCalled, LegAt, LevelsStayInOrder, MostSpecificIsGiven, Plan, PlanInOrder, SetInOrder, StepCall, StepInOrder, StepPlan, TextPlace, ValueFault, Work, WorkInOrder, begin_found, begin_leg, call_if, condition_value, decided, directory_value, env_value, flow_env, job_env, laid_over, last_set, leg_at, leg_env, leg_status, next_step, or_below, overlaid, seen_from, set_over, step_call, step_decision, step_env, text_text, then_value, value_at, work_value}
use Rattle.status_table.proofs.Found.{leg_stands}
use Rattle.board_decisions.proofs.Lists.{same_some}
use Rattle.board_settled.proofs.Begins.{begins, by_decision, either}
use Rattle.board_settled.proofs.Pairs.{below_through, one_found}

-- ---- answers that are made of others

then-ok : {A B : Type 0} (r : Result A ValueFault) (next : A → Result B ValueFault) (y : B) → then_value r next ≡ Ok y → (x : A) × (r ≡ Ok x) × (next x ≡ Ok y)
then-ok (Ok x) next y h = (x, refl, h)
then-ok (Err f) next y h = absurd (cc)

-- ---- the levels of variables

record Levels (at : LegAt) (step : StepPlan) (env : Env) : Type 0 where
  workflow : Env
  job : Env
  own : Env
  workflow_is : env_value (seen_from at TextPlace.WorkflowEnv []) at.run_plan.env ≡ Ok workflow
  job_is : env_value (seen_from at TextPlace.JobEnv []) at.job_plan.env ≡ Ok job
  own_is : env_value (seen_from at TextPlace.StepEnv (set_over at.leg.steps (laid_over job workflow))) step.env ≡ Ok own
  laid : laid_over own (set_over at.leg.steps (laid_over job workflow)) ≡ env

levels : (at : LegAt) (step : StepPlan) (env : Env) → step_env at step ≡ Ok env → Levels at step env
unfolding step_env leg_env job_env flow_env
levels at step env h =
    let below = then-ok (leg_env at) (λ below. then_value (env_value (seen_from at TextPlace.StepEnv below) step.env) (λ above. Ok (laid_over above below))) env h in
    let own = then-ok (env_value (seen_from at TextPlace.StepEnv below.0) step.env) (λ above. Ok (laid_over above below.0)) env below.2 in
    let of_job = then-ok (job_env at) (λ under. Ok (set_over at.leg.steps under)) below.0 below.1 in
    let flow = then-ok (flow_env at) (λ under. then_value (env_value (seen_from at TextPlace.JobEnv []) at.job_plan.env) (λ above. Ok (laid_over above under))) of_job.0 of_job.1 in
    let job = then-ok (env_value (seen_from at TextPlace.JobEnv []) at.job_plan.env) (λ above. Ok (laid_over above flow.0)) of_job.0 flow.2 in
    let under : laid_over job.0 flow.0 ≡ of_job.0 = cc job.2 in
    let two : set_over at.leg.steps (laid_over job.0 flow.0) ≡ below.0 = cc (under, of_job.2) in
    let all : laid_over own.0 below.0 ≡ env = cc own.2 in
    record {
      workflow = flow.0;
      job = job.0;
      own = own.0;
      workflow_is = flow.1;
      job_is = job.1;
      own_is = ap (λ e. env_value (seen_from at TextPlace.StepEnv e) step.env) two ∙ own.1;
      laid = ap (λ e. laid_over own.0 e) two ∙ all;
    }

-- ---- the call

pub record Asked (at : LegAt) (step : StepPlan) (call : StepCall) : Type 0 where
  pub env : step_env at step ≡ Ok call.env
  pub holds : condition_value (seen_from at TextPlace.StepCondition call.env) (leg_status at) step.condition ≡ Ok true
  pub work : work_value (seen_from at TextPlace.StepText call.env) step.work ≡ Ok call.work

pub asked : (l : ℕ) (at : LegAt) (step : StepPlan) (call : StepCall) → step_decision l at step ≡ Ok (Some call) → Asked at step call
unfolding step_decision step_call step_env
asked l at step call h =
    let env = then-ok (step_env at step) (λ env. then_value (condition_value (seen_from at TextPlace.StepCondition env) (leg_status at) step.condition) (call_if (seen_from at) l (length at.leg.steps) step env)) (Some call) h in
    let held = then-ok (condition_value (seen_from at TextPlace.StepCondition env.0) (leg_status at) step.condition) (call_if (seen_from at) l (length at.leg.steps) step env.0) (Some call) env.2 in
    called env.0 env.1 held.0 held.1 held.2
  where
    made : (env : Env) (given : CallWork) → StepCall
    made env given = record { leg = l; step = length at.leg.steps; work = given; env = env }

    called : (env : Env) → step_env at step ≡ Ok env → (c : Bool) → condition_value (seen_from at TextPlace.StepCondition env) (leg_status at) step.condition ≡ Ok c
        → call_if (seen_from at) l (length at.leg.steps) step env c ≡ Ok (Some call) → Asked at step call
    called env is true held g =
        let given = then-ok (work_value (seen_from at TextPlace.StepText env) step.work) (λ asked. Ok (Some (made env asked))) (Some call) g in
        let same : made env given.0 ≡ call = cc given.2 in
        subst (Asked at step) same (record { env = is; holds = held; work = given.1 })
    called env is false held g = absurd (cc)

-- ---- order

asked_in_order : EnvHasItsNames → (c : Contexts) (w : Work) (given : CallWork) → WorkInOrder w → work_value c w ≡ Ok given → AskedInOrder given
unfolding work_value
asked_in_order law c (Work.Run dir run shell) given ordered h =
    let script = then-ok (text_text c run) (λ script. then_value (directory_value c dir) (λ there. Ok (CallWork.Script script shell there))) given h in
    let there = then-ok (directory_value c dir) (λ there. Ok (CallWork.Script script.0 shell there)) given script.2 in
    let same : CallWork.Script script.0 shell there.0 ≡ given = cc there.2 in
    subst AskedInOrder same tt
asked_in_order law c (Work.Uses uses given') given ordered h =
    let inputs = then-ok (env_value c given') (λ inputs. Ok (CallWork.Uses uses inputs)) given h in
    let same : CallWork.Uses uses inputs.0 ≡ given = cc inputs.2 in
    subst AskedInOrder same (law c given' inputs.0 ordered inputs.1).1

-- the maps that a step sees are in order
record OrderedHere (at : LegAt) (step : StepPlan) : Type 0 where
  workflow : Ascends at.run_plan.env
  job : Ascends at.job_plan.env
  own : StepInOrder step

ordered_here : (p : Plan) (b : Board) (l : ℕ) (at : LegAt) (step : StepPlan) → PlanInOrder p → leg_at p b l ≡ Some at → next_step at ≡ Some step → OrderedHere at step
ordered_here p b l at step ordered is next =
    let there = leg_stands p b l at is in
    let run = ordered at.place.run at.run_plan there.in_plan in
    let job = run.jobs at.place.job at.job_plan there.job_plan in
    record { workflow = run.env; job = job.env; own = job.steps (length at.leg.steps) step next }

-- ---- what done steps set

set_in_order : LevelsStayInOrder → (levels : List Env) (below : Env) → Ascends below → Ascends (overlaid levels below)
set_in_order stay [] below h = h
set_in_order stay (level ∷ levels) below h = set_in_order stay levels (laid_over level below) (stay below level h)

abbrev levels_of : List DoneStep → List Env
levels_of steps = map (λ done. done.env) steps

set_found : (steps : List DoneStep) (below : Env) (name : List ℕ) → SetInOrder steps
    → value_at name (overlaid (levels_of steps) below) ≡ or_below (last_set name steps) (value_at name below)
set_found [] below name h = refl
set_found (done ∷ later) below name h =
    set_found later (laid_over done.env below) name (λ i x at. h (suc i) x at)
    ∙ ap (or_below (last_set name later)) (one_found done.env below name (h 0 done refl))
    ∙ below_through (last_set name later) (value_at name done.env) (value_at name below)

call_in_order : EnvHasItsNames → LevelsStayInOrder → (at : LegAt) (step : StepPlan) (call : StepCall) → OrderedHere at step → Asked at step call → CallInOrder call
call_in_order names stay at step call ordered made =
    let three = levels at step call.env made.env in
    let flow = (names (seen_from at TextPlace.WorkflowEnv []) at.run_plan.env three.workflow ordered.workflow three.workflow_is).1 in
    record {
      env = subst (λ (e : Env). Ascends e) three.laid (stay (set_over at.leg.steps (laid_over three.job three.workflow)) three.own
          (set_in_order stay (levels_of at.leg.steps) (laid_over three.job three.workflow) (stay three.workflow three.job flow)));
      work = asked_in_order names (seen_from at TextPlace.StepText call.env) step.work call.work ordered.own.work made.work;
    }

call_most_specific : EnvHasItsNames → (at : LegAt) (step : StepPlan) (call : StepCall) → OrderedHere at step → SetInOrder at.leg.steps → Asked at step call → MostSpecificIsGiven at step call
call_most_specific names at step call ordered set made =
    let three = levels at step call.env made.env in
    let job = (names (seen_from at TextPlace.JobEnv []) at.job_plan.env three.job ordered.job three.job_is).1 in
    let own = (names (seen_from at TextPlace.StepEnv (set_over at.leg.steps (laid_over three.job three.workflow))) step.env three.own ordered.own.env three.own_is).1 in
    record {
      workflow = three.workflow;
      job = three.job;
      own = three.own;
      workflow_is = three.workflow_is;
      job_is = three.job_is;
      own_is = three.own_is;
      given = λ name.
          ap (λ (e : Env). value_at name e) (sym three.laid)
          ∙ one_found three.own (set_over at.leg.steps (laid_over three.job three.workflow)) name own
          ∙ ap (or_below (value_at name three.own)) (set_found at.leg.steps (laid_over three.job three.workflow) name set
          ∙ ap (or_below (last_set name at.leg.steps)) (one_found three.job three.workflow name job));
    }

-- ---- the row

if_decided : (P : StepCall → Type 0) (b : Board) (worker : ℕ) (at : LegAt) (d : Result (Option StepCall) ValueFault)
    → ((call : StepCall) → d ≡ Ok (Some call) → P call) → IfCalled P (begin_leg b worker at (Ok (decided d)))
if_decided P b worker at (Ok (Some call)) h = h call refl
if_decided P b worker at d h = tt

pub calls_are_in_order : EnvHasItsNames → LevelsStayInOrder → CallsAreInOrder
calls_are_in_order names stay p b worker l ordered =
    either (IfCalled CallInOrder) (nat_le worker 15) (begin_found b worker l (leg_at p b l)) (Err EventFault.NoSuch) (found (leg_at p b l) refl) tt
  where
    found : (o : Option LegAt) → leg_at p b l ≡ o → IfCalled CallInOrder (begin_found b worker l o)
    found None is = tt
    found (Some at) is = by_decision (IfCalled CallInOrder) (λ f. tt) b worker l at (λ owner s was next. if_decided CallInOrder b worker at (step_decision l at s) (λ call h.
        call_in_order names stay at s call (ordered_here p b l at s ordered is next) (asked l at s call h)))

pub calls_are_most_specific : EnvHasItsNames → CallsAreMostSpecific
calls_are_most_specific names p b worker l at step ordered set is next =
    begins (IfCalled (MostSpecificIsGiven at step)) (λ f. tt) b worker l at p is (λ s at_s. if_decided (MostSpecificIsGiven at step) b worker at (step_decision l at s) (λ call h.
    call_most_specific names at step call (ordered_here p b l at step ordered is next) set (asked l at step call (ap (step_decision l at) (same_some step s (sym next ∙ at_s)) ∙ h))))
