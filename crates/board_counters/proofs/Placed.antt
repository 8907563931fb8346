-- What is kept of a board and stays, whatever is changed of it.
use Rattle.std.proofs.Common.{◌≡◌, ◌<◌, ◌+◌, ℕ, List, [], ◌∷◌, ◌++◌, Option, Some, None, length, take, get_or, slice_get, ap, subst, sym, refl, ◌∙◌}
use Rattle.board_counters.specs.Words.{AllZip, AreCallsOf, Board, Calls, IsLasting, JobPlace, JobPlan, Lasting, Outcome, Plan, RunPlan, StepPlan, Tells, TellsJobs, TellsRuns, TellsSteps, all_dependents, all_jobs_from, all_legs_from, called_as, calls_at, is_called, leg_result, or_unknown, run_sizes, step_decision, ◌>>=◌}
use Rattle.std.proofs.lemmas.List.{take_more}
use Rattle.status_table.proofs.Lists.{zip-append, zip-get}

pub still_lasts : (p : Plan) (b new : Board) (lasting : Lasting) → run_sizes new.runs ≡ run_sizes b.runs → IsLasting p b lasting → IsLasting p new lasting
still_lasts p b new lasting same is = record {
  jobs = is.jobs ∙ sym (ap (all_jobs_from 0) same);
  legs = is.legs ∙ sym (ap (all_legs_from 0) same);
  calls = is.calls;
  dependents = is.dependents ∙ sym (ap (all_dependents p.runs) same);
}

-- nothing is told where nothing is known
nothing_told : (run : RunPlan) (job : JobPlan) (step : StepPlan) → AreCallsOf run job step (or_unknown None)
nothing_told run job step l at in_run in_job = by_result (leg_result at)
  where
    by_result : (how : Outcome) → Tells (called_as (or_unknown None) how) (is_called (step_decision l at step))
    by_result Outcome.Success = tt
    by_result how = tt

-- what is told of a step of the job at a place
pub calls_told : (runs : List RunPlan) (calls : List (List (List Calls))) (place : JobPlace) (n : ℕ) (run : RunPlan) (job : JobPlan) (step : StepPlan) → TellsRuns runs calls
    → slice_get runs place.run ≡ Some run → slice_get run.jobs place.job ≡ Some job → slice_get job.steps n ≡ Some step → AreCallsOf run job step (calls_at calls place n)
calls_told runs calls place n run job step all in_runs in_jobs in_steps = by_row (slice_get calls place.run) refl
  where
    by_step : (told : List Calls) → TellsSteps run job told → (o : Option Calls) → slice_get told n ≡ o → AreCallsOf run job step (or_unknown o)
    by_step told are None at = nothing_told run job step
    by_step told are (Some one) at = zip-get (AreCallsOf run job) job.steps told n step one in_steps at are

    by_job : (row : List (List Calls)) → TellsJobs run row → (o : Option (List Calls)) → slice_get row place.job ≡ o
        → AreCallsOf run job step (or_unknown (o >>= λ told. slice_get told n))
    by_job row are None at = nothing_told run job step
    by_job row are (Some told) at = by_step told (zip-get (TellsSteps run) run.jobs row place.job job told in_jobs at are) (slice_get told n) refl

    by_row : (o : Option (List (List Calls))) → slice_get calls place.run ≡ o
        → AreCallsOf run job step (or_unknown (o >>= λ row. slice_get row place.job >>= λ told. slice_get told n))
    by_row None at = nothing_told run job step
    by_row (Some row) at = by_job row (zip-get TellsJobs runs calls place.run run row in_runs at all) (slice_get row place.job) refl

-- one more item, side by side with one more
pub zip-more : {A B : Type 0} (R : A → B → Type 0) (xs : List A) (i : ℕ) (x : A) (y : B) (ys made : List B) → i < length xs → x ≡ get_or xs i x → made ≡ ys ++ y ∷ [] → R x y
    → AllZip R (take i xs) ys → AllZip R (take (i + 1) xs) made
zip-more {A} {B} R xs i x y ys made within is more one before =
    subst (AllZip R (take (i + 1) xs)) (sym more)
    (subst (λ (zs : List A). AllZip R zs (ys ++ y ∷ [])) (sym (take_more xs i x within ∙ ap (λ (z : A). take i xs ++ z ∷ []) (sym is)))
    (zip-append R (take i xs) (x ∷ []) ys (y ∷ []) before (one, tt)))
