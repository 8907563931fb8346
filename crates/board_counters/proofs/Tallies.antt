-- The tallies of a board after a change.
use Rattle.std.proofs.Common.{◌≡◌, ℕ, zero, suc, inl, inr, Bool, true, false, List, [], ◌∷◌, Option, Some, None, map, option_map, slice_get, length, ap, subst, sym, refl, ◌∙◌}
use Rattle.board_counters.specs.Words.{Board, CameTo, Counter, Job, Leg, LegChange, LegPlace, LegState, Run, Tally, changed, counted, counts, leg_after, leg_there, leg_was, moved, retallied, state_in, state_of, state_there, tallies_of, tally_of, turned, with_leg, ◌>>=◌}
use Rattle.board_counters.proofs.Lists.{map-changed, changed-none, changed-same, count-changed}
use Rattle.status_table.proofs.Lists.{length-changed, changed-cons}

-- ---- one job

tally-changed : (job : Job) (l : ℕ) (f : Leg → Leg) (leg : Leg) → slice_get job.legs l ≡ Some leg
    → tally_of (record job { legs = changed job.legs l f }) ≡ moved leg.state (f leg).state (tally_of job)
tally-changed job l f leg at = λ i. record {
  legs = length-changed job.legs l f i;
  pending = each Counter.Open i;
  used = each Counter.Used i;
  failed = each Counter.Failed i;
  cancelled = each Counter.Cancelled i;
}
  where
    each : (what : Counter) → counted what (changed job.legs l f) ≡ turned (length job.legs) (counted what job.legs) (counts what leg.state) (counts what (f leg).state)
    each what = count-changed (λ x. counts what x.state) job.legs l f leg at

-- ---- one leg of a board

pub there : (b : Board) (place : LegPlace) (run : Run) (job : Job) → slice_get b.runs place.run ≡ Some run → slice_get run.jobs place.job ≡ Some job
    → leg_there b place ≡ slice_get job.legs place.leg
there b place run job in_runs in_jobs =
    ap (λ o. o >>= λ x. slice_get x.jobs place.job >>= λ y. slice_get y.legs place.leg) in_runs ∙ ap (λ o. o >>= λ y. slice_get y.legs place.leg) in_jobs

-- a job and a run, where the leg at a place is changed
abbrev pub in_job : LegPlace → (Leg → Leg) → Job → Job
in_job place f job = record job { legs = changed job.legs place.leg f }

abbrev pub in_run : LegPlace → (Leg → Leg) → Run → Run
in_run place f run = record run { jobs = changed run.jobs place.job (in_job place f) }

-- the leg at a place after it was changed
pub get_changed : {T : Type 0} (xs : List T) (i : ℕ) (f : T → T) → slice_get (changed xs i f) i ≡ option_map f (slice_get xs i)
get_changed [] i f = refl
get_changed (x ∷ xs) zero f = refl
get_changed (x ∷ xs) (suc i) f = ap (λ ys. slice_get ys (suc i)) (changed-cons x xs i f) ∙ get_changed xs i f

pub leg_there_changed : (b : Board) (place : LegPlace) (f : Leg → Leg) → leg_there (with_leg b place f) place ≡ option_map f (leg_there b place)
leg_there_changed b place f =
    ap (λ (o : Option Run). o >>= λ run. slice_get run.jobs place.job >>= λ job. slice_get job.legs place.leg) (get_changed b.runs place.run (in_run place f))
    ∙ by_run (slice_get b.runs place.run)
  where
    by_job : (o : Option Job) → (option_map (in_job place f) o >>= λ job. slice_get job.legs place.leg) ≡ option_map f (o >>= λ job. slice_get job.legs place.leg)
    by_job None = refl
    by_job (Some job) = get_changed job.legs place.leg f

    by_run : (o : Option Run) → (option_map (in_run place f) o >>= λ run. slice_get run.jobs place.job >>= λ job. slice_get job.legs place.leg)
        ≡ option_map f (o >>= λ run. slice_get run.jobs place.job >>= λ job. slice_get job.legs place.leg)
    by_run None = refl
    by_run (Some run) =
        ap (λ (o : Option Job). o >>= λ job. slice_get job.legs place.leg) (get_changed run.jobs place.job (in_job place f)) ∙ by_job (slice_get run.jobs place.job)

module _ (b : Board) (place : LegPlace) (f : Leg → Leg) (run : Run) (job : Job) (in_runs : slice_get b.runs place.run ≡ Some run) (in_jobs : slice_get run.jobs place.job ≡ Some job) where
  counted_job : (o : Option Leg) → slice_get job.legs place.leg ≡ o → tally_of (in_job place f job) ≡ moved (state_of o) (state_of (option_map f o)) (tally_of job)
  counted_job None at = ap (λ (ls : List Leg). tally_of (record job { legs = ls })) (changed-none job.legs place.leg f at)
  counted_job (Some leg) at = tally-changed job place.leg f leg at

  one_job : tally_of (in_job place f job) ≡ moved (state_there b place) (state_there (with_leg b place f) place) (tally_of job)
  one_job =
      let old = there b place run job in_runs in_jobs in
      let new = leg_there_changed b place f ∙ ap (option_map f) old in
      counted_job (slice_get job.legs place.leg) refl ∙ sym (λ i. moved (state_of (old i)) (state_of (new i)) (tally_of job))

-- the tallies after a leg was changed
pub leg_tallies : (b : Board) (place : LegPlace) (f : Leg → Leg)
    → retallied place (state_there b place) (state_there (with_leg b place f) place) (tallies_of b) ≡ tallies_of (with_leg b place f)
leg_tallies b place f = sym (map-changed (λ (run : Run). map tally_of run.jobs) b.runs place.run (in_run place f)
    (λ row. changed row place.job (moved (state_there b place) (state_there (with_leg b place f) place)))
    (λ run in_runs. map-changed tally_of run.jobs place.job (in_job place f) (moved (state_there b place) (state_there (with_leg b place f) place))
    (λ job in_jobs. one_job b place f run job in_runs in_jobs)))

-- where it is counted alike, they stay
pub alike_tallies : (place : LegPlace) (before after : LegState) (tallies : List (List Tally)) → ((t : Tally) → moved before after t ≡ t)
    → retallied place before after tallies ≡ tallies
alike_tallies place before after tallies alike = changed-same tallies place.run (λ row. changed row place.job (moved before after)) (λ row. changed-same row place.job (moved before after) alike)

pub turned_same : (all n : ℕ) (c : Bool) → turned all n c c ≡ n
turned_same all n true = refl
turned_same all n false = refl

pub moved_same : (s : LegState) (t : Tally) → moved s s t ≡ t
moved_same s t = λ i. record {
  legs = t.legs;
  pending = turned_same t.legs t.pending (counts Counter.Open s) i;
  used = turned_same t.legs t.used (counts Counter.Used s) i;
  failed = turned_same t.legs t.failed (counts Counter.Failed s) i;
  cancelled = turned_same t.legs t.cancelled (counts Counter.Cancelled s) i;
}

-- a leg that came from a state to another is counted as one that came from its own to its own
pub ComesSo : Board → Board → LegPlace → LegState → LegState → Type 0
ComesSo b new place before after = (t : Tally) → moved before after t ≡ moved (state_there b place) (state_there new place) t

pub tallied_so : (b new : Board) (place : LegPlace) (f : Leg → Leg) (before after : LegState) (tallies : List (List Tally)) → tallies ≡ tallies_of b → new ≡ with_leg b place f
    → ComesSo b new place before after → retallied place before after tallies ≡ tallies_of new
unfolding ComesSo
tallied_so b new place f before after tallies tallied new_is so =
    ap (λ (m : Tally → Tally). changed tallies place.run (λ row. changed row place.job m)) (λ i t. so t i)
    ∙ (λ i. retallied place (state_there b place) (state_there (new_is i) place) (tallied i))
    ∙ leg_tallies b place f
    ∙ ap tallies_of (sym new_is)

-- what is exchanged tells how the leg is counted
pub exchanged_told : (b new : Board) (place : LegPlace) (how back : LegChange) (before after : LegState) → new ≡ with_leg b place (leg_after how) → back ≡ leg_was how (leg_there b place)
    → before ≡ state_in back → after ≡ state_in how → ComesSo b new place before after
unfolding ComesSo
exchanged_told b new place how back before after new_is back_is before_is after_is = λ t.
    (λ i. moved ((before_is ∙ ap state_in back_is) i) (after_is i) t)
    ∙ by (leg_there b place) how t
    ∙ sym (λ i. moved (state_there b place) (state_of ((ap (λ (x : Board). leg_there x place) new_is ∙ leg_there_changed b place (leg_after how)) i)) t)
  where
    by : (o : Option Leg) (how : LegChange) (t : Tally) → moved (state_in (leg_was how o)) (state_in how) t ≡ moved (state_of o) (state_of (option_map (leg_after how) o)) t
    by None how t = moved_same (state_in how) t ∙ sym (moved_same LegState.Fresh t)
    by (Some leg) (LegChange.Stop stop) t = moved_same LegState.Fresh t ∙ sym (moved_same leg.state t)
    by (Some leg) how t = refl

pub same_so : (b new : Board) (place : LegPlace) (before after : LegState) → before ≡ state_there b place → after ≡ state_there new place → ComesSo b new place before after
unfolding ComesSo
same_so b new place before after before_is after_is = λ t. (λ i. moved (before_is i) (after_is i) t)

-- a leg that is there came into the state into which it is put
pub came_to : (b new : Board) (place : LegPlace) (f : Leg → Leg) (before to : LegState) → before ≡ state_there b place → new ≡ with_leg b place f → ((leg : Leg) → (f leg).state ≡ to)
    → CameTo before to (state_there new place)
came_to b new place f before to before_is new_is puts =
    subst (λ (s : LegState). CameTo before to s) (sym (ap (λ (x : Board). state_there x place) new_is ∙ ap state_of (leg_there_changed b place f)))
    (subst (λ (s : LegState). CameTo s to (state_of (option_map f (leg_there b place)))) (sym before_is) (by (leg_there b place)))
  where
    by : (o : Option Leg) → CameTo (state_of o) to (state_of (option_map f o))
    by None = inr refl
    by (Some leg) = inl (puts leg)
