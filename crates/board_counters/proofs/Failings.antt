-- Which legs have a failed step after a change.
use Rattle.std.proofs.Common.{◌≡◌, ℕ, suc, ◌-◌, ◌||◌, Bool, true, false, List, [], ◌∷◌, ◌++◌, Option, Some, None, option_map, slice_get, length, take, if◌then◌else◌, ap, sym, refl, ◌∙◌}
use Rattle.std.proofs.lemmas.Bool.{true≢false}
use Rattle.std.proofs.lemmas.List.Folds.{list_any-append}
use Rattle.std.proofs.lemmas.Option.{slice_get-map}
use Rattle.board_counters.specs.Words.{Board, DoneStep, Job, Leg, LegChange, LegPlace, LegState, Run, any_failed, changed, failing_at, failing_noted, failing_of, failing_set, failing_taken, is_failure, job_failing, leg_after, leg_failed, leg_failing, leg_there, or_false, run_failing, step_done, step_taken, with_leg, ◌>>=◌}
use Rattle.board_counters.proofs.Lists.{map-changed, map-same}
use Rattle.board_counters.proofs.Tallies.{in_job, in_run, leg_there_changed, there}

-- ---- the leg at a place

pub failing_there : (b : Board) (place : LegPlace) → failing_at (failing_of b) place ≡ leg_failed (leg_there b place)
failing_there b place =
    ap (λ o. or_false (o >>= λ row. slice_get row place.job >>= λ legs. slice_get legs place.leg)) (slice_get-map run_failing b.runs place.run) ∙ by_run (slice_get b.runs place.run)
  where
    by_leg : (o : Option Leg) → or_false (option_map leg_failing o) ≡ leg_failed o
    by_leg None = refl
    by_leg (Some leg) = refl

    by_job : (o : Option Job) → or_false (option_map job_failing o >>= λ legs. slice_get legs place.leg) ≡ leg_failed (o >>= λ job. slice_get job.legs place.leg)
    by_job None = refl
    by_job (Some job) = ap or_false (slice_get-map leg_failing job.legs place.leg) ∙ by_leg (slice_get job.legs place.leg)

    by_run : (o : Option Run) → or_false (option_map run_failing o >>= λ row. slice_get row place.job >>= λ legs. slice_get legs place.leg)
        ≡ leg_failed (o >>= λ run. slice_get run.jobs place.job >>= λ job. slice_get job.legs place.leg)
    by_run None = refl
    by_run (Some run) =
        ap (λ o. or_false (o >>= λ legs. slice_get legs place.leg)) (slice_get-map job_failing run.jobs place.job) ∙ by_job (slice_get run.jobs place.job)

-- ---- changes

module _ (b : Board) (place : LegPlace) (f : Leg → Leg) where
  -- they stay where as many steps of the leg failed
  pub leg_failing_kept : ((leg : Leg) → leg_there b place ≡ Some leg → any_failed (f leg).steps ≡ any_failed leg.steps) → failing_of (with_leg b place f) ≡ failing_of b
  leg_failing_kept keeps = map-same run_failing b.runs place.run (in_run place f) (λ run in_runs. map-same job_failing run.jobs place.job (in_job place f) (λ job in_jobs.
      map-same leg_failing job.legs place.leg f (λ leg in_legs. keeps leg (there b place run job in_runs in_jobs ∙ in_legs))))

  -- the truth at the place is that of the leg that is there then
  pub leg_failing_set : (holds : Bool) → ((leg : Leg) → leg_there b place ≡ Some leg → any_failed (f leg).steps ≡ holds) → failing_set place holds (failing_of b) ≡ failing_of (with_leg b place f)
  leg_failing_set holds is = sym (map-changed run_failing b.runs place.run (in_run place f) (λ row. changed row place.job (λ legs. changed legs place.leg (λ before. holds)))
      (λ run in_runs. map-changed job_failing run.jobs place.job (in_job place f) (λ legs. changed legs place.leg (λ before. holds))
      (λ job in_jobs. map-changed leg_failing job.legs place.leg f (λ before. holds)
      (λ leg in_legs. is leg (there b place run job in_runs in_jobs ∙ in_legs)))))

-- no change of a leg's state, group, outputs or flag changes its steps
pub steps_stay : (how : LegChange) (leg : Leg) → (leg_after how leg).steps ≡ leg.steps
steps_stay (LegChange.State state) leg = refl
steps_stay how leg = refl

or-none : (c : Bool) → c || false ≡ c
or-none true = refl
or-none false = refl

or-some : (c : Bool) → c || true ≡ true
or-some true = refl
or-some false = refl

one-more : (steps : List DoneStep) (done : DoneStep) → any_failed (steps ++ done ∷ []) ≡ (any_failed steps || is_failure done.conclusion)
one-more steps done = list_any-append (λ (step : DoneStep). is_failure step.conclusion) steps (done ∷ []) ∙ ap (λ c. any_failed steps || c) (or-none (is_failure done.conclusion))

-- a step more
pub failing_done : (b new : Board) (place : LegPlace) (worker : ℕ) (done : DoneStep) (failed : Bool) (old made : List (List (List Bool))) → old ≡ failing_of b → new ≡ step_done b place worker done
    → failed ≡ is_failure done.conclusion → made ≡ failing_noted place failed old → made ≡ failing_of new
failing_done b new place worker done failed old made old_is new_is failed_is made_is =
    made_is ∙ (λ i. failing_noted place (failed_is i) (old_is i)) ∙ by (is_failure done.conclusion) refl ∙ ap failing_of (sym new_is)
  where
    by : (c : Bool) → is_failure done.conclusion ≡ c → failing_noted place c (failing_of b) ≡ failing_of (step_done b place worker done)
    by true is = leg_failing_set b place _ true (λ leg at. one-more leg.steps done ∙ ap (λ c. any_failed leg.steps || c) is ∙ or-some (any_failed leg.steps))
    by false is = sym (leg_failing_kept b place _ (λ leg at. one-more leg.steps done ∙ ap (λ c. any_failed leg.steps || c) is ∙ or-none (any_failed leg.steps)))

none-left : (steps : List DoneStep) (n : ℕ) → any_failed steps ≡ false → any_failed (take n steps) ≡ false
none-left (step ∷ steps) (suc n) none = by (none-left steps n) (is_failure step.conclusion) refl
  where
    by : (any_failed steps ≡ false → any_failed (take n steps) ≡ false) → (c : Bool) → is_failure step.conclusion ≡ c → any_failed (take (suc n) (step ∷ steps)) ≡ false
    by later true is = absurd (true≢false (sym (ap (λ d. d || any_failed steps) is) ∙ none))
    by later false is = ap (λ d. d || any_failed (take n steps)) is ∙ later (sym (ap (λ d. d || any_failed steps) is) ∙ none)
none-left [] (suc n) none = refl
none-left steps n none = refl

-- the last step taken off
pub failing_off : (b new : Board) (place : LegPlace) (state : LegState) (old made : List (List (List Bool))) → old ≡ failing_of b → new ≡ with_leg b place (step_taken state)
    → made ≡ failing_taken place (leg_there new place) old → made ≡ failing_of new
failing_off b new place state old made old_is new_is made_is =
    made_is ∙ (λ i. failing_taken place (leg_there (new_is i) place) (old_is i)) ∙ by (failing_at (failing_of b) place) refl ∙ ap failing_of (sym new_is)
  where
    is_left : (leg : Leg) → leg_there b place ≡ Some leg → any_failed (step_taken state leg).steps ≡ leg_failed (leg_there (with_leg b place (step_taken state)) place)
    is_left leg at = sym (ap leg_failed (leg_there_changed b place (step_taken state)) ∙ ap (λ o. leg_failed (option_map (step_taken state) o)) at)

    by : (c : Bool) → failing_at (failing_of b) place ≡ c
        → (if c then failing_set place (leg_failed (leg_there (with_leg b place (step_taken state)) place)) (failing_of b) else failing_of b) ≡ failing_of (with_leg b place (step_taken state))
    by true is = leg_failing_set b place (step_taken state) (leg_failed (leg_there (with_leg b place (step_taken state)) place)) is_left
    by false is = sym (leg_failing_kept b place (step_taken state) (λ leg at.
        let none : any_failed leg.steps ≡ false = sym (ap leg_failed at) ∙ sym (failing_there b place) ∙ is in
        none-left leg.steps (length leg.steps - 1) none ∙ sym none))
