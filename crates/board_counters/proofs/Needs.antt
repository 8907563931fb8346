-- The needs of the jobs of a board after a change.
use Rattle.std.proofs.Common.{◌≡◌, ◌≢◌, ℕ, zero, suc, Bool, true, false, List, [], ◌∷◌, Option, Some, None, length, map, option_map, slice_get, ap, sym, refl, ◌∙◌}
use Rattle.std.proofs.lemmas.Bool.{true≢false}
use Rattle.std.proofs.lemmas.Option.{slice_get-map}
use Rattle.board_counters.specs.Words.{Job, Need, Run, RunPlan, all_dependents, changed, dependents_at, dependents_each, dependents_of, first_number, holds, holds_at, is_settled, need_of, needs_of, needs_turned, or_nobody, resettled, run_needs, run_sizes, settled_jobs, sizes}
use Rattle.board_decisions.proofs.Lists.{map-get, map-past}
use Rattle.board_counters.proofs.Depending.{dependents_there}
use Rattle.board_counters.proofs.Lists.{changed-none, changed-same, map-same}
use Rattle.board_counters.proofs.Tallies.{get_changed}
use Rattle.board_counters.proofs.Turned.{needs_fall, needs_rise}
use Rattle.status_table.proofs.Lists.{changed-cons, changed-elsewhere, changed-there}

-- whether the job at a place of a run that may be there has ended by itself
abbrev pub settled_in : Option Run → ℕ → Bool
settled_in None job = false
settled_in (Some run) job = holds_at (settled_jobs run) job

-- needs stay where no job of the run that is changed becomes settled, or no longer is
pub needs-kept : (plans : List RunPlan) (runs : List Run) (r : ℕ) (f : Run → Run) → ((run : Run) → slice_get runs r ≡ Some run → settled_jobs (f run) ≡ settled_jobs run)
    → needs_of plans (changed runs r f) ≡ needs_of plans runs
needs-kept [] runs r f same = refl
needs-kept (plan ∷ plans) [] r f same = refl
needs-kept (plan ∷ plans) (run ∷ runs) zero f same =
    ap (λ (settled : List Bool). map (need_of (first_number plan.jobs) settled) plan.jobs ∷ needs_of plans runs) (same run refl)
needs-kept (plan ∷ plans) (run ∷ runs) (suc r) f same =
    ap (needs_of (plan ∷ plans)) (changed-cons run runs r f) ∙ ap (λ (needs : List (List Need)). run_needs plan run ∷ needs) (needs-kept plans runs r f same)

-- a truth of each item that stays at one place stays at all
truths-kept : (jobs : List Job) (j : ℕ) (g : Job → Job) → holds_at (map is_settled (changed jobs j g)) j ≡ holds_at (map is_settled jobs) j
    → map is_settled (changed jobs j g) ≡ map is_settled jobs
truths-kept jobs j g same = map-same is_settled jobs j g (λ job at.
    sym (ap holds (map-get is_settled (changed jobs j g) j (g job) (changed-there jobs j g job at))) ∙ same ∙ ap holds (map-get is_settled jobs j job at))

-- the needs of one run, and so those of all
abbrev run_resettled : Bool → Bool → List ℕ → List Need → List Need
run_resettled false true places needs = needs_turned true false places needs
run_resettled true false places needs = needs_turned false true places needs
run_resettled was is places needs = needs

in-run : (was is : Bool) (r : ℕ) (places : List ℕ) (needs : List (List Need)) → resettled was is r places needs ≡ changed needs r (run_resettled was is places)
in-run false true r places needs = refl
in-run true false r places needs = refl
in-run was is r places needs = sym (changed-same needs r (λ row. row) (λ row. refl))

module _ (j : ℕ) (g : Job → Job) where
  abbrev in_run : Run → Run
  in_run run = record run { jobs = changed run.jobs j g }

  others-stay : (jobs : List Job) (i : ℕ) → i ≢ j → holds_at (map is_settled (changed jobs j g)) i ≡ holds_at (map is_settled jobs) i
  others-stay jobs i other =
      ap holds (slice_get-map is_settled (changed jobs j g) i ∙ ap (option_map is_settled) (changed-elsewhere jobs j g i other) ∙ sym (slice_get-map is_settled jobs i))

  -- where a job becomes settled, or no longer is, there is one, and so those that need it are kept
  kept-there : (plan : RunPlan) (jobs now : List Job) → (slice_get jobs j ≡ None → now ≡ jobs) → holds_at (map is_settled now) j ≡ true
      → or_nobody (slice_get (dependents_each plan.jobs 0 (sizes jobs)) j) ≡ dependents_of plan.jobs j
  kept-there plan jobs now none holds_now = by (slice_get jobs j) refl
    where
      by : (o : Option Job) → slice_get jobs j ≡ o → or_nobody (slice_get (dependents_each plan.jobs 0 (sizes jobs)) j) ≡ dependents_of plan.jobs j
      by None at = absurd (true≢false (sym holds_now ∙ ap (λ (js : List Job). holds_at (map is_settled js) j) (none at) ∙ ap holds (map-past is_settled jobs j at)))
      by (Some job) at =
          ap or_nobody (dependents_there plan.jobs (sizes jobs) j ∙ ap (option_map (λ count. dependents_of plan.jobs j)) (map-get (λ (x : Job). length x.legs) jobs j job at))

  one-run : (plan : RunPlan) (run : Run) (was is : Bool) → settled_in (Some run) j ≡ was → settled_in (Some (in_run run)) j ≡ is
      → run_resettled was is (or_nobody (slice_get (dependents_each plan.jobs 0 (sizes run.jobs)) j)) (run_needs plan run) ≡ run_needs plan (in_run run)
  one-run plan run false true was is =
      ap (λ places. run_resettled false true places (run_needs plan run)) (kept-there plan run.jobs (changed run.jobs j g) (changed-none run.jobs j g) is)
      ∙ needs_fall plan.jobs j (settled_jobs run) (settled_jobs (in_run run)) (record { was = was; is = is; others = others-stay run.jobs })
  one-run plan run true false was is =
      ap (λ places. run_resettled true false places (run_needs plan run)) (kept-there plan run.jobs run.jobs (λ at. refl) was)
      ∙ needs_rise plan.jobs j (settled_jobs run) (settled_jobs (in_run run)) (record { was = is; is = was; others = λ i other. sym (others-stay run.jobs i other) })
  one-run plan run before after was is =
      sym (ap (λ (settled : List Bool). map (need_of (first_number plan.jobs) settled) plan.jobs) (truths-kept run.jobs j g (is ∙ sym was)))

  follow : (plans : List RunPlan) (runs : List Run) (r : ℕ)
      → changed (needs_of plans runs) r (run_resettled (settled_in (slice_get runs r) j) (settled_in (option_map in_run (slice_get runs r)) j) (dependents_at (all_dependents plans (run_sizes runs)) (record { run = r; job = j })))
      ≡ needs_of plans (changed runs r in_run)
  follow [] runs r = refl
  follow (plan ∷ plans) [] r = refl
  follow (plan ∷ plans) (run ∷ runs) zero = ap (λ (needs : List Need). needs ∷ needs_of plans runs) (one-run plan run _ _ refl refl)
  follow (plan ∷ plans) (run ∷ runs) (suc r) =
      changed-cons (run_needs plan run) (needs_of plans runs) r
      (run_resettled (settled_in (slice_get runs r) j) (settled_in (option_map in_run (slice_get runs r)) j) (dependents_at (all_dependents plans (run_sizes runs)) (record { run = r; job = j })))
      ∙ ap (λ (needs : List (List Need)). run_needs plan run ∷ needs) (follow plans runs r)
      ∙ ap (needs_of (plan ∷ plans)) (sym (changed-cons run runs r in_run))

  -- the needs after a job of a run was changed
  pub needs_follow : (plans : List RunPlan) (runs : List Run) (r : ℕ)
      → resettled (settled_in (slice_get runs r) j) (settled_in (slice_get (changed runs r in_run) r) j) r (dependents_at (all_dependents plans (run_sizes runs)) (record { run = r; job = j })) (needs_of plans runs)
      ≡ needs_of plans (changed runs r in_run)
  needs_follow plans runs r =
      let places = dependents_at (all_dependents plans (run_sizes runs)) (record { run = r; job = j }) in
      ap (λ is. resettled (settled_in (slice_get runs r) j) (settled_in is j) r places (needs_of plans runs)) (get_changed runs r in_run)
      ∙ in-run (settled_in (slice_get runs r) j) (settled_in (option_map in_run (slice_get runs r)) j) r places (needs_of plans runs)
      ∙ follow plans runs r
