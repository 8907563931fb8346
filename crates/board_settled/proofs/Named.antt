-- What the contexts `needs` and `steps` and the outputs of a job give, name by name; and what a leg sees where no step of it that is done
-- set anything.
use Rattle.std.proofs.Common.{◌≡◌, ℕ, List, [], ◌∷◌, map, Result, Ok, Err, refl, ap, ◌∙◌, zero, suc, Option, Some, None, sym, ◌-◌}
use Rattle.board_settled.specs.Words.{AllByRecursion, Ascends, Board, DoneStep, Env, HaveDistinctNames, IsDone, IsNeeded, Job, JobAt, JobPlace, JobPlan, LastLegWins, Leg, LegAt, NeedsAreDirect, NothingSetIsTheJobs, Plain, Run, RunPlan, StepPlan, StepsAreDone, ValueFault, done_value, ended_legs, filter_map, first_number, id_pair, job_beside, job_env, job_outputs, laid_over, last_giving, leg_env, need_pair, need_value, needed_job, needs_value, or_below, overlaid, set_over, slice_get, step_pair, steps_value, then_value, value_at, zip, ◌>>=◌}
use Rattle.board_settled.proofs.Pairs.{below_through, none_below, nothing-laid, one_found, IsIn, in_kept, kept_in, laid_exactly}
use Rattle.flow_model.proofs.Places.{same_Some}
use Rattle.board_decisions.proofs.Lists.{map-get}
use Rattle.board_settled.proofs.Lists.{mapped_from}

-- the last level that has a name gives it, else what was below
giving : (name : List ℕ) (legs : List Leg) (below : Env) → AllByRecursion (λ leg. Ascends leg.outputs) legs
    → value_at name (overlaid (map (λ leg. leg.outputs) legs) below) ≡ or_below (last_giving name (map (λ leg. leg.outputs) legs)) (value_at name below)
giving name [] below h = refl
giving name (leg ∷ legs) below h =
    giving name legs (laid_over leg.outputs below) h.1
    ∙ ap (or_below (last_giving name (map (λ leg. leg.outputs) legs)))
    (one_found leg.outputs below name h.0)
    ∙ below_through (last_giving name (map (λ leg. leg.outputs) legs)) (value_at name leg.outputs) (value_at name below)

pub last_leg_wins : LastLegWins
unfolding job_outputs
last_leg_wins b job name ascend =
    giving name (ended_legs b job) [] ascend ∙ none_below (last_giving name (map (λ leg. leg.outputs) (ended_legs b job)))

pub nothing_set : NothingSetIsTheJobs
unfolding leg_env job_env
nothing_set at none = by (job_env at)
  where
    by : (r : Result Env ValueFault) → then_value r (λ below. Ok (set_over at.leg.steps below)) ≡ r
    by (Ok below) = ap (λ (e : Env). (let r : Result Env ValueFault = Ok e in r)) (nothing-laid (λ done. done.env) at.leg.steps below none)
    by (Err f) = refl

-- what stands beside what
beside : (xs : List StepPlan) (ys : List DoneStep) (k : ℕ) (x : StepPlan) (y : DoneStep) → slice_get (zip xs ys) k ≡ Some (x, y)
    → (slice_get xs k ≡ Some x) × (slice_get ys k ≡ Some y)
beside (a ∷ xs) (b ∷ ys) zero x y h = let is = same_Some h in (ap (λ (p : StepPlan × DoneStep). Some p.0) is, ap (λ (p : StepPlan × DoneStep). Some p.1) is)
beside (a ∷ xs) (b ∷ ys) (suc k) x y h = beside xs ys k x y h
beside xs ys k x y h = absurd (cc)

both_beside : (xs : List StepPlan) (ys : List DoneStep) (k : ℕ) (x : StepPlan) (y : DoneStep) → slice_get xs k ≡ Some x → slice_get ys k ≡ Some y
    → slice_get (zip xs ys) k ≡ Some (x, y)
both_beside [] ys k x y h g = absurd (cc)
both_beside (a ∷ xs) [] k x y h g = absurd (cc)
both_beside (a ∷ xs) (b ∷ ys) zero x y h g = ap (λ (z : StepPlan). Some (z, b)) (same_Some h) ∙ ap (λ (z : DoneStep). Some (x, z)) (same_Some g)
both_beside (a ∷ xs) (b ∷ ys) (suc k) x y h g = both_beside xs ys k x y h g

-- an id and what is seen at it
id_of : (o : Option (List ℕ)) (done : DoneStep) (id : List ℕ) (v : Plain) → id_pair o done ≡ Some (id, v) → (o ≡ Some id) × (done_value done ≡ v)
id_of None done id v h = absurd (cc)
id_of (Some own) done id v h = let is = same_Some h in (ap (λ (p : List ℕ × Plain). Some p.0) is, ap (λ (p : List ℕ × Plain). p.1) is)

done_of : (at : LegAt) (i : ℕ) (id : List ℕ) (v : Plain) → slice_get (filter_map step_pair (zip at.job_plan.steps at.leg.steps)) i ≡ Some (id, v)
    → (done : DoneStep) × IsDone at id done × (done_value done ≡ v)
done_of at i id v there =
    let (k, both, stands, has) = in_kept step_pair (zip at.job_plan.steps at.leg.steps) i (id, v) there in
    let (planned, done) = beside at.job_plan.steps at.leg.steps k both.0 both.1 stands in
    let (named, is) = id_of both.0.id both.1 id v has in
    (both.1, record { place = k; plan = both.0; planned = planned; named = named; there = done }, is)

done_pair : (at : LegAt) (id : List ℕ) (v : Plain) → (done : DoneStep) × IsDone at id done × (done_value done ≡ v)
    → IsIn (id, v) (filter_map step_pair (zip at.job_plan.steps at.leg.steps))
done_pair at id v (done, is, has) =
    kept_in step_pair (zip at.job_plan.steps at.leg.steps) is.place (is.plan, done) (id, v) (both_beside at.job_plan.steps at.leg.steps is.place is.plan done is.planned is.there)
    (ap (λ (o : Option (List ℕ)). id_pair o done) is.named ∙ ap (λ (w : Plain). Some (id, w)) has)

-- two steps that are done and have one id are one
done_once : (at : LegAt) (id : List ℕ) (a b : DoneStep) → HaveDistinctNames (λ s. s.id) at.job_plan.steps → IsDone at id a → IsDone at id b → a ≡ b
done_once at id a b distinct is_a is_b =
    let place : is_a.place ≡ is_b.place = distinct is_a.place is_b.place is_a.plan is_b.plan id is_a.planned is_b.planned is_a.named is_b.named in
    same_Some (sym is_a.there ∙ ap (slice_get at.leg.steps) place ∙ is_b.there)

pub steps_are_done : StepsAreDone
unfolding steps_value
steps_are_done at distinct = (
  refl,
  laid_exactly (filter_map step_pair (zip at.job_plan.steps at.leg.steps))
      (λ id v. (done : DoneStep) × IsDone at id done × (done_value done ≡ v)) (done_of at) (done_pair at)
      (λ id v w (one, is_one, has) (other, is_other, has_too). sym has ∙ ap done_value (done_once at id one other distinct is_one is_other) ∙ has_too),
)

-- the job at a place is planned there
planned_by : (b : Board) (run_plan : RunPlan) (run : Run) (place : JobPlace) (o : Option JobPlan) (q : Option Job) (at : JobAt)
    → (o >>= (λ plan. q >>= (λ job. Some (record { board = b; place = place; run_plan = run_plan; plan = plan; run = run; job = job })))) ≡ Some at → o ≡ Some at.plan
planned_by b run_plan run place (Some plan) (Some job) at h = ap (λ (x : JobAt). Some x.plan) (same_Some h)
planned_by b run_plan run place o q at h = absurd (cc)

needed_planned : (at need : JobAt) (number : ℕ) → needed_job at number ≡ Some need → slice_get at.run_plan.jobs (number - first_number at) ≡ Some need.plan
needed_planned at need number h =
    planned_by at.board at.run_plan at.run (record { run = at.place.run; job = number - first_number at }) (slice_get at.run_plan.jobs (number - first_number at))
    (slice_get at.run.jobs (number - first_number at)) need h

-- two jobs of one id that a job needs are one
needed_once : (at a b : JobAt) (m n : ℕ) → HaveDistinctNames (λ j. Some j.id) at.run_plan.jobs → needed_job at m ≡ Some a → needed_job at n ≡ Some b → a.plan.id ≡ b.plan.id
    → a ≡ b
needed_once at a b m n distinct is_a is_b same =
    let place : m - first_number at ≡ n - first_number at =
    distinct (m - first_number at) (n - first_number at) a.plan b.plan b.plan.id (needed_planned at a m is_a) (needed_planned at b n is_b) (ap Some same) refl in
    same_Some (sym is_a ∙ ap (job_beside at) place ∙ is_b)

-- a pair of jobs that are needed is that of one
pair_of : (at : JobAt) (i : ℕ) (id : List ℕ) (v : Plain) → slice_get (map need_pair (filter_map (needed_job at) at.plan.needs)) i ≡ Some (id, v)
    → (need : JobAt) × IsNeeded at need × (need.plan.id ≡ id) × (need_value need ≡ v)
pair_of at i id v there =
    let (need, listed, is) = mapped_from need_pair (filter_map (needed_job at) at.plan.needs) i (id, v) there in
    let (k, number, named, has) = in_kept (needed_job at) at.plan.needs i need listed in
    (need, record { place = k; number = number; named = named; there = has }, ap (λ (p : List ℕ × Plain). p.0) is, ap (λ (p : List ℕ × Plain). p.1) is)

needed_pair : (at : JobAt) (id : List ℕ) (v : Plain) → (need : JobAt) × IsNeeded at need × (need.plan.id ≡ id) × (need_value need ≡ v)
    → IsIn (id, v) (map need_pair (filter_map (needed_job at) at.plan.needs))
needed_pair at id v (need, needed, named, has) =
    let (i, there) = kept_in (needed_job at) at.plan.needs needed.place needed.number need needed.named needed.there in
    (i, map-get need_pair (filter_map (needed_job at) at.plan.needs) i need there ∙ ap (λ n. Some (n, need_value need)) named ∙ ap (λ w. Some (id, w)) has)

pub needs_are_direct : NeedsAreDirect
unfolding needs_value
needs_are_direct at distinct = (
  refl,
  laid_exactly (map need_pair (filter_map (needed_job at) at.plan.needs))
      (λ id v. (need : JobAt) × IsNeeded at need × (need.plan.id ≡ id) × (need_value need ≡ v)) (pair_of at) (needed_pair at)
      (λ id v w (one, is_one, named, has) (other, is_other, named_too, has_too).
      sym has ∙ ap need_value (needed_once at one other is_one.number is_other.number distinct is_one.there is_other.there (named ∙ sym named_too)) ∙ has_too),
)
