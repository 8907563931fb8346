-- What the texts of a plan decide, seen in the rows.
use Rattle.std.proofs.Common.{◌≡◌, ℕ, ◌==◌, Bool, true, false, not, List, Option, Some, None, Result, Ok, Err, nat_le, if◌then◌else◌, refl, sym, ap, subst, ◌∙◌}
use Rattle.board_settled.specs.Words.{Answer, Beginning, Board, CallsNothing, Concludes, DoneStep, Env, EventFault, HasFailedStep, IsPassedOver, LegAt, NamesNoStatus, NoCallAfterFailure, OnlyFailuresArePassedOver, Outcome, StepCall, StepPlan, TextPlace, ValueFault, WaitsForSuccess, answered_step, begin_leg, calling_owner, calls, conclusion_of, condition_value, decided, end_found, end_leg, ending_by, failed_step, failure_of, faults, is_failure, is_stopping, is_success, is_well_formed, leg_status, list_any, next_step, outcome_of, seen_from, skipped_step, skips, status_of, step_decision, step_tolerates}
use Rattle.board_decisions.proofs.Lists.{same_some}
use Rattle.board_settled.proofs.Begins.{begins, either}
use Rattle.board_settled.proofs.Called.{asked}

-- ---- no call after a failure

not_success : (c failed : Bool) → failed ≡ true → is_success (status_of (if c then Outcome.Cancelled else (if failed then Outcome.Failure else Outcome.Success))) ≡ false
not_success true failed h = refl
not_success false failed h = ap (λ t. is_success (status_of (if t then Outcome.Failure else Outcome.Success))) h

fails : (at : LegAt) → HasFailedStep at → is_success (leg_status at) ≡ false
fails at h = not_success (is_stopping at) (list_any (λ step. is_failure step.conclusion) at.leg.steps) h

waits : WaitsForSuccess → (at : LegAt) (env : Env) (condition : Option (List ℕ)) → is_success (leg_status at) ≡ false → NamesNoStatus condition
    → condition_value (seen_from at TextPlace.StepCondition env) (leg_status at) condition ≡ Ok false
waits law at env None h plain = (law (seen_from at TextPlace.StepCondition env) (leg_status at) h).1
waits law at env (Some bytes) h plain = (law (seen_from at TextPlace.StepCondition env) (leg_status at) h).0 bytes plain.0 plain.1 plain.2

never_called : WaitsForSuccess → (l : ℕ) (at : LegAt) (step : StepPlan) (call : StepCall) → NamesNoStatus step.condition → HasFailedStep at → step_decision l at step ≡ Ok (Some call) → ⊥
never_called law l at step call plain failed h =
    let made = asked l at step call h in
    let held = made.holds in
    let waited = waits law at call.env step.condition (fails at failed) plain in
    cc (held, waited)

uncalled : (b : Board) (worker : ℕ) (at : LegAt) (d : Result (Option StepCall) ValueFault) → ((call : StepCall) → d ≡ Ok (Some call) → ⊥) → CallsNothing (begin_leg b worker at (Ok (decided d)))
uncalled b worker at (Ok (Some call)) never = never call refl
uncalled b worker at d never = tt

pub no_call_after_failure : WaitsForSuccess → NoCallAfterFailure
no_call_after_failure law p b worker l at step is next plain failed =
    begins CallsNothing (λ f. tt) b worker l at p is (λ s at_s. uncalled b worker at (step_decision l at s) (λ call h.
    never_called law l at step call plain failed (ap (step_decision l at) (same_some step s (sym next ∙ at_s)) ∙ h)))

-- ---- conclusions

abbrev Passed : LegAt → Type 0
Passed at = (step : StepPlan) × (next_step at ≡ Some step) × (step_tolerates at step ≡ true)

passed : (at : LegAt) (step : Option StepPlan) → next_step at ≡ step → (failure_of at step ≡ Outcome.Failure → ⊥) → Passed at
passed at None is differs = absurd (differs refl)
passed at (Some step) is differs = by (step_tolerates at step) refl differs
  where
    by : (t : Bool) → step_tolerates at step ≡ t → ((if t then Outcome.Success else Outcome.Failure) ≡ Outcome.Failure → ⊥) → Passed at
    by true h d = (step, is, h)
    by false h d = absurd (d refl)

concluded : (at : LegAt) (o : Outcome) → (conclusion_of at o ≡ o → ⊥) → (o ≡ Outcome.Failure) × Passed at
concluded at Outcome.Failure d = (refl, passed at (next_step at) refl d)
concluded at o d = absurd (d refl)

passed_over : (at : LegAt) (done : DoneStep) → (done.outcome ≡ Outcome.Failure) × Passed at → IsPassedOver at done
passed_over at done h = record { failed = h.0; step = h.1.0; next = h.1.1; passed = h.1.2 }

begun_concludes : (b : Board) (worker : ℕ) (at : LegAt) (d : Beginning) → Concludes b worker at (begin_leg b worker at (Ok d))
begun_concludes b worker at (calls call) = tt
begun_concludes b worker at skips = (skipped_step, refl, λ d. absurd (d refl))
begun_concludes b worker at (faults f) = (failed_step at, refl, λ d. passed_over at (failed_step at) (concluded at Outcome.Failure d))

end_concludes : (b : Board) (worker : ℕ) (at : LegAt) (a : Answer) (owner : Option ℕ) → Concludes b worker at (end_leg b worker at (ending_by worker at a owner))
end_concludes b worker at a None = tt
end_concludes b worker at a (Some owner) =
    either (λ x. Concludes b worker at (end_leg b worker at x)) (not (worker == owner)) (Err EventFault.OtherWorker) (if not (is_well_formed a) then Err EventFault.BadAnswer else Ok (answered_step at a)) tt
    (either (λ x. Concludes b worker at (end_leg b worker at x)) (not (is_well_formed a)) (Err EventFault.BadAnswer) (Ok (answered_step at a)) tt
    (answered_step at a, refl, λ d. passed_over at (answered_step at a) (concluded at (outcome_of a) d)))

pub only_failures_are_passed_over : OnlyFailuresArePassedOver
only_failures_are_passed_over p b worker l at is = (
  begins (Concludes b worker at) (λ f. tt) b worker l at p is (λ step _. begun_concludes b worker at (decided (step_decision l at step))),
  λ a. either (Concludes b worker at) (nat_le worker 15) _ (Err EventFault.NoSuch)
      (subst (λ (o : Option LegAt). Concludes b worker at (end_found b worker a o)) (sym is) (end_concludes b worker at a (calling_owner at.leg.state)))
      tt,
)
