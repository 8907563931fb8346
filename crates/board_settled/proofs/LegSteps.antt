-- The next step of a leg by itself, and its end, are those that are settled.
use Rattle.std.proofs.Common.{◌≡◌, ◌↔◌, ℕ, ◌+◌, ◌<◌, ◌==◌, ◌&&◌, Bool, true, false, List, [], ◌∷◌, ◌++◌, Option, Some, None, Result, Ok, Err, option_map, length, drop, slice_get, if◌then◌else◌, ap, sym, subst, refl, ◌∙◌, arith}
use Rattle.std.proofs.lemmas.Bool.Decides.{nat_tests}
use Rattle.board_settled.specs.Words.{Answer, Answers, DoneStep, EndsAs, Env, Finish, IsAlone, IsIdle, JobAt, Leg, LegAt, LegIsSettled, LegState, Outcome, SettledLeg, Spot, StepCall, StepPlan, StepsCome, ValueFault, answered, answered_step, concludes, conclusion_of, counts, ends_so, failure_of, finish_of, is_failure, is_stopping, job_tolerates, leg_after, leg_on, leg_outputs, leg_result, leg_settled, next_comes, next_done, next_step, outcome_of, outputs_of, planned, set_by, step_by, step_comes, step_decision, steps_from, steps_then}
use Rattle.board_settled.proofs.Seen.{spot_of, call_is, failure_is, finish_is}
use Rattle.board_decisions.proofs.Lists.{same_some, no_some}
use Rattle.status_table.proofs.Standings.{drop_at}
use Rattle.flow_model.proofs.Places.{slice_get_there}

-- ---- a leg that is alone

pub and-none : (a : Bool) → a && false ≡ false
and-none true = refl
and-none false = refl

-- It is not to stop, and counts by its steps.
pub counts_alone : (at : JobAt) (k : ℕ) (leg : Leg) → IsAlone at → leg.stop ≡ false → leg_result (leg_on at k leg) ≡ counts leg.steps
counts_alone at k leg alone goes = ap (λ c. if c then Outcome.Cancelled else counts leg.steps) stopping
  where
    stopping : is_stopping (leg_on at k leg) ≡ false
    stopping = rw (goes, alone.no_others, alone.goes, and-none at.plan.fail_fast) refl

-- ---- the next step

module _ (answers : Answers) (l : ℕ) (at : LegAt) (quiet : leg_result at ≡ counts at.leg.steps) (step : StepPlan) (is : next_step at ≡ Some step) where
  abbrev spot : Spot
  spot = spot_of l at

  concluded : (result : Outcome) → conclusion_of at result ≡ concludes spot at.leg.steps step result
  concluded Outcome.Failure = ap (failure_of at) is ∙ failure_is l at quiet step
  concluded result = refl

  ended : (result : Outcome) (outputs env : Env) → record { outcome = result; conclusion = conclusion_of at result; outputs = outputs; env = env } ≡ ends_so spot at.leg.steps step result outputs env
  ended result outputs env = λ i. record { outcome = result; conclusion = concluded result i; outputs = outputs; env = env }

  by_answer : (o : Option Answer) → option_map (answered_step at) o ≡ option_map (answered spot at.leg.steps step) o
  by_answer None = refl
  by_answer (Some a) = ap (λ (d : DoneStep). Some d) (ended (outcome_of a) (outputs_of a) (set_by a))

  by_call : (x : Result (Option StepCall) ValueFault) → step_comes answers at x ≡ step_by answers spot at.leg.steps step x
  by_call (Ok None) = refl
  by_call (Ok (Some call)) = by_answer (answers call)
  by_call (Err fault) = ap (λ (d : DoneStep). Some d) (ended Outcome.Failure [] [])

  pub comes_next : next_comes answers l at step ≡ next_done answers spot at.leg.steps step
  unfolding next_done
  comes_next = by_call (step_decision l at step) ∙ ap (step_by answers spot at.leg.steps step) (call_is l at quiet step)

-- ---- all steps

-- what follows some steps that are done, by what the next comes to
pub step_after : (answers : Answers) (spot : Spot) (done : List DoneStep) (n : ℕ) (step : StepPlan) (next : Option DoneStep) → slice_get spot.job.steps n ≡ Some step
    → next_done answers spot done step ≡ next
    → steps_from answers spot done (drop n spot.job.steps) ≡ steps_then done next (λ x. steps_from answers spot (done ++ x ∷ []) (drop (n + 1) spot.job.steps))
step_after answers spot done n step next planned is =
    ap (steps_from answers spot done) (drop_at spot.job.steps n step planned)
    ∙ ap (λ (o : Option DoneStep). steps_then done o (λ x. steps_from answers spot (done ++ x ∷ []) (drop (n + 1) spot.job.steps))) is

-- ---- the end of a leg

-- a leg whose steps are not all given is not settled
pub unended : (answers : Answers) (spot : Spot) (leg : Leg) → StepsCome answers spot None → LegIsSettled (leg_settled answers spot) leg → ⊥
unfolding leg_settled
unended answers spot leg come h =
    let short : (length (steps_from answers spot [] spot.job.steps) == length spot.job.steps) ≡ false = grind (arith, nat_tests, come) in
    no_some (record { result = h.result; tolerated = h.tolerated; outputs = leg.outputs })
    (sym (ap (λ c. if c then Some (finish_of spot (steps_from answers spot [] spot.job.steps)) else None) short) ∙ h.finish)

-- what is settled of a leg all of whose steps are these
pub ended_leg : (answers : Answers) (spot : Spot) (steps : List DoneStep) → steps ≡ steps_from answers spot [] spot.job.steps → length steps ≡ length spot.job.steps
    → leg_settled answers spot ≡ record { steps = steps; finish = Some (finish_of spot steps) }
unfolding leg_settled
ended_leg answers spot steps is many =
    let full : (length steps == length spot.job.steps) ≡ true = grind (arith, nat_tests, many) in
    ap (leg_after spot) (sym is)
    ∙ λ i. record { steps = steps; finish = if full i then Some (finish_of spot steps) else None }

-- a leg that is alone, with all its steps, ends as settled
module _ (answers : Answers) (l : ℕ) (at : JobAt) (k : ℕ) (played : Leg) (alone : IsAlone at) (come : StepsCome answers (planned l at k) (Some played)) where
  abbrev on : LegAt
  on = leg_on at k played

  abbrev end : Finish
  end = record { result = leg_result on; tolerated = is_failure (leg_result on) && job_tolerates on; outputs = leg_outputs on }

  settled_is : leg_settled answers (planned l at k) ≡ record { steps = played.steps; finish = Some end }
  settled_is =
      ended_leg answers (planned l at k) played.steps come.1 come.2
      ∙ λ i. record { steps = played.steps; finish = Some (finish_is l on (counts_alone at k played alone come.0.goes) i) }

  pub ends_settled : (leg : Leg) → EndsAs on leg ↔ LegIsSettled (leg_settled answers (planned l at k)) leg
  ends_settled leg = subst (λ (x : SettledLeg). EndsAs on leg ↔ LegIsSettled x leg) (sym settled_is) (
    (λ h. record {
      result = end.result;
      tolerated = end.tolerated;
      state = h.state;
      steps = sym h.steps;
      finish = λ i. Some (record end { outputs = h.outputs i });
    }),
    (λ h.
        let finish = same_some end (record { result = h.result; tolerated = h.tolerated; outputs = leg.outputs }) h.finish in
        record { state = h.state ∙ sym (ap (λ (f : Finish). LegState.Ended f.result f.tolerated) finish); steps = sym h.steps; outputs = ap (λ (f : Finish). f.outputs) finish }),
  )

-- ---- one step after the other

module _ (answers : Answers) (l : ℕ) (at : JobAt) (k : ℕ) (leg : Leg) (alone : IsAlone at) (idle : IsIdle leg) (n : ℕ) (many : length leg.steps ≡ n) (left : n < length at.plan.steps)
    (next : Option DoneStep) (come : (step : StepPlan) → next_step (leg_on at k leg) ≡ Some step → next ≡ next_comes answers l (leg_on at k leg) step)
    (goes_on : steps_from answers (planned l at k) leg.steps (drop n at.plan.steps) ≡ steps_from answers (planned l at k) [] at.plan.steps) where
  here : (step : StepPlan) × (slice_get at.plan.steps n ≡ Some step)
  here = slice_get_there at.plan.steps n left

  done_next : next ≡ next_done answers (planned l at k) leg.steps here.0
  done_next =
      let is : next_step (leg_on at k leg) ≡ Some here.0 = ap (slice_get at.plan.steps) many ∙ here.1 in
      come here.0 is ∙ comes_next answers l (leg_on at k leg) (counts_alone at k leg alone idle.goes) here.0 is

  -- one step more is done
  pub one_more : (done : DoneStep) → next ≡ Some done
      → steps_from answers (planned l at k) (leg.steps ++ done ∷ []) (drop (n + 1) at.plan.steps) ≡ steps_from answers (planned l at k) [] at.plan.steps
  one_more done is = sym (step_after answers (planned l at k) leg.steps n here.0 (Some done) here.1 (sym done_next ∙ is)) ∙ goes_on

  -- without an answer not all steps are given
  pub no_more : next ≡ None → length (steps_from answers (planned l at k) [] at.plan.steps) ≡ length at.plan.steps → ⊥
  no_more is all =
      let same = ap length (sym goes_on ∙ step_after answers (planned l at k) leg.steps n here.0 None here.1 (sym done_next ∙ is)) in
      omega (arith, same, all, many, left)
