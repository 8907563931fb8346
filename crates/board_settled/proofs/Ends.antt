-- What has ended on a board beside what is settled: legs, and jobs with their results and outputs.
use Rattle.std.proofs.Common.{◌≡◌, ℕ, suc, ◌+◌, ◌≤◌, Bool, true, false, List, [], ◌∷◌, ◌++◌, Option, Some, None, length, take, drop, map, slice_get, inl, inr, append-nil, append_assoc, ap, subst, sym, refl, ◌∙◌, arith}
use Rattle.board_settled.specs.Words.{AllZip, Answers, Board, DoneStep, EndOnce, Finish, Job, JobAgrees, JobIsFree, JobIsSettled, JobPlace, JobPlan, JobState, Leg, LegAgrees, LegIsSettled, LegState, Outcome, Plain, Plan, Run, RunPlan, SettledJob, SettledLeg, Sight, Spot, StepCall, StepPlan, TextPlace, finish_of, is_closed, is_ended, is_open, is_shut, job_has_ended, job_outputs, job_settled, leg_has_ended, leg_settled, leg_variables, legs_from, legs_settled, needs_of, next_done, or_none, outputs_of_leg, outputs_value, overlaid, seen_after, spot_at, steps_from, steps_then}
use Rattle.std.proofs.Math.Seq.{take-append_seam}
use Rattle.std.proofs.lemmas.Bool.{true≢false}
use Rattle.std.proofs.lemmas.List.{drop_all}
use Rattle.flow_model.proofs.Places.{slice_get_there}
use Rattle.status_table.proofs.Lists.{all-get}
use Rattle.board_settled.proofs.Comes.{JobComes, comes_by}
use Rattle.board_settled.proofs.LegSteps.{ended_leg}
use Rattle.board_settled.proofs.Lists.{zip-more}
use Rattle.board_settled.proofs.Outputs.{JobThere, no_outputs, one_outputs}
use Rattle.board_settled.proofs.Pairs.{nothing-laid}
use Rattle.board_settled.proofs.Played.{is_judged, LegPlayed, StateStands, JobPlayed, JobOver, judged-or}

-- ---- legs

-- what is settled of a leg that is Ended
leg_is : (answers : Answers) (spot : Spot) (call : Option StepCall) (leg : Leg) (result : Outcome) (tolerated : Bool) → LegPlayed answers spot call leg
    → leg.state ≡ LegState.Ended result tolerated
    → leg_settled answers spot ≡ record { steps = leg.steps; finish = Some (record { result = result; tolerated = tolerated; outputs = leg.outputs }) }
leg_is answers spot call leg result tolerated played is =
    let rightly = played.ended result tolerated is in
    let all = rightly.all in
    ended_leg answers spot leg.steps (sym (ap (steps_from answers spot leg.steps) (drop_all (length leg.steps) spot.job.steps (omega (arith, all)))) ∙ played.goes_on) all
    ∙ λ i. record { steps = leg.steps; finish = Some (rightly.finish i) }

-- what is done stays in front
front : (answers : Answers) (spot : Spot) (done : List DoneStep) (steps : List StepPlan) → (more : List DoneStep) × (steps_from answers spot done steps ≡ done ++ more)
front answers spot done [] = ([], sym (append-nil done))
front answers spot done (step ∷ steps) = by (next_done answers spot done step) (λ next. front answers spot (done ++ next ∷ []) steps)
  where
    by : (o : Option DoneStep) → ((next : DoneStep) → (more : List DoneStep) × (steps_from answers spot (done ++ next ∷ []) steps ≡ (done ++ next ∷ []) ++ more))
        → (more : List DoneStep) × (steps_then done o (λ next. steps_from answers spot (done ++ next ∷ []) steps) ≡ done ++ more)
    by None later = ([], sym (append-nil done))
    by (Some next) later = let x = later next in (next ∷ x.0, x.1 ∙ append_assoc done (next ∷ []) x.0)

pub leg_agrees : (answers : Answers) (spot : Spot) (call : Option StepCall) (leg : Leg) → LegPlayed answers spot call leg → LegAgrees (leg_settled answers spot) leg
unfolding leg_settled
leg_agrees answers spot call leg played = record {
  steps = let more = front answers spot leg.steps (drop (length leg.steps) spot.job.steps) in
      sym (ap (take (length leg.steps)) (sym played.goes_on ∙ more.1) ∙ take-append_seam leg.steps more.0);
  ended = λ result tolerated is.
      let all = leg_is answers spot call leg result tolerated played is in
      (sym (ap (λ (x : SettledLeg). x.steps) all), ap (λ (x : SettledLeg). x.finish) all);
}

-- one that is Ended is settled
pub leg_over : (given : SettledLeg) (leg : Leg) → LegAgrees given leg → is_ended leg.state ≡ true → LegIsSettled given leg
leg_over given leg agrees ended = by leg.state refl ended
  where
    by : (s : LegState) → leg.state ≡ s → is_ended s ≡ true → LegIsSettled given leg
    by (LegState.Ended result tolerated) is h =
        let all = agrees.ended result tolerated is in record { result = result; tolerated = tolerated; state = is; steps = all.0; finish = all.1 }
    by s is h = absurd (true≢false (sym h))

-- ---- a job

module _ (answers : Answers) (run : RunPlan) (before : List SettledJob) (first : ℕ) (plan : JobPlan) (calls : ℕ → Option StepCall) where
  abbrev needs : Plain
  needs = needs_of run before plan

  -- the legs from one on, each by its place
  legs_agree : (k : ℕ) (combos : List (List (List ℕ × Plain))) (legs : List Leg) → length legs ≡ length combos
      → ((i : ℕ) (leg : Leg) → slice_get legs i ≡ Some leg → (n : ℕ) → n ≡ k + i → LegPlayed answers (spot_at run plan needs first n) (calls (first + n)) leg)
      → AllZip LegAgrees (legs_from answers run plan needs first k combos) legs
  legs_agree k [] [] size played = tt
  legs_agree k (c ∷ cs) (leg ∷ legs) size played = (
    leg_agrees answers (spot_at run plan needs first k) (calls (first + k)) leg (played 0 leg refl k (omega arith)),
    legs_agree (suc k) cs legs (omega (arith, size)) (λ i x at n is. played (suc i) x at n (omega (arith, is))),
  )
  legs_agree k cs legs size played = absurd (omega (arith, size))

  pub job_agrees : (job : Job) → length job.legs ≡ length plan.legs → JobPlayed answers run before first plan calls job → JobAgrees (job_settled answers run first before plan) job
  job_agrees job size played = record {
    when_shut = λ result is. subst (StateStands (job_settled answers run first before plan) (legs_settled answers run plan needs first)) is played.state;
    when_open = λ is. (
      legs_settled answers run plan needs first,
      subst (StateStands (job_settled answers run first before plan) (legs_settled answers run plan needs first)) is played.state,
      legs_agree 0 plan.legs job.legs size (λ i leg there n is.
          let same : i ≡ n = omega (arith, is) in
          subst (λ m. LegPlayed answers (spot_at run plan needs first m) (calls (first + m)) leg) same (played.legs i leg there)),
    );
    else_untouched = λ unopened k leg is. ap (λ (x : Leg). x.steps) (played.untouched unopened k leg is);
  }

-- one that is over is settled
pub job_over : (given : SettledJob) (job : Job) → JobAgrees given job → JobOver job → JobIsSettled given job.legs job.state
job_over given job agrees over = by job.state refl
  where
    by : (s : JobState) → job.state ≡ s → JobIsSettled given job.legs s
    by JobState.Unjudged is = true≢false (sym over.judged ∙ ap is_judged is)
    by (JobState.Shut result) is = agrees.when_shut result is
    by JobState.Open is = let all = agrees.when_open is in
        (all.0, all.1, zip-more LegAgrees LegIsSettled all.0 job.legs (λ k given leg there so. leg_over given leg so (over.ended (ap is_open is) k leg there)) all.2)

empty_outputs : (sees : Sight) (run : RunPlan) (job : JobPlan) (done : List DoneStep) → job.outputs ≡ [] → outputs_of_leg sees run job done ≡ []
unfolding outputs_of_leg outputs_value
empty_outputs sees run job done none = ap (outputs_value (sees TextPlace.StepEnv (or_none (leg_variables sees run job done)))) none

module _ {p : Plan} {b : Board} {place : JobPlace} {run_plan : RunPlan} {run : Run} {job : Job} (here : JobThere p b place run_plan run job) (ends : EndOnce b) (unclosed : is_closed run.state ≡ false)
    (answers : Answers) (before : List SettledJob) (first : ℕ) (plan : JobPlan) (calls : ℕ → Option StepCall) (size : length job.legs ≡ length plan.legs) (some : 1 ≤ length job.legs)
    (free : JobIsFree plan) (played : JobPlayed answers run_plan before first plan calls job) (ended : job_has_ended run job ≡ true) where
  abbrev given : SettledJob
  given = job_settled answers run_plan first before plan

  -- each leg has ended, where the job was not shut
  each_ended : is_shut job.state ≡ false → (k : ℕ) (leg : Leg) → slice_get job.legs k ≡ Some leg → is_ended leg.state ≡ true
  each_ended unshut k leg is = rw (unclosed, unshut) at (all-get (leg_has_ended run job) job.legs k leg is ended)

  was_judged : job.state ≡ JobState.Unjudged → ⊥
  was_judged is =
      let leg = slice_get_there job.legs 0 some in
      let fresh = played.untouched (ap is_open is) 0 leg.0 leg.1 in
      true≢false (sym (each_ended (ap is_shut is) 0 leg.0 leg.1) ∙ ap (λ (x : Leg). is_ended x.state) fresh)

  pub is_over : JobOver job
  is_over = record { judged = judged-or job.state was_judged; ended = λ opened. each_ended (unshut job.state opened) }
    where
      unshut : (s : JobState) → is_open s ≡ true → is_shut s ≡ false
      unshut (JobState.Shut result) h = absurd (true≢false (sym h))
      unshut s h = refl

  -- where a job gives no outputs, its legs have none
  no_leg_outputs : plan.outputs ≡ [] → (k : ℕ) (leg : Leg) → slice_get job.legs k ≡ Some leg → is_ended leg.state ≡ true → leg.outputs ≡ []
  unfolding finish_of
  no_leg_outputs none k leg there over =
      let spot : Spot = spot_at run_plan plan (needs_of run_plan before plan) first k in
      let played_leg = played.legs k leg there in
      let it = leg_over (leg_settled answers spot) leg (leg_agrees answers spot (calls (first + k)) leg played_leg) over in
      ap (λ (x : Finish). x.outputs) (sym (played_leg.ended it.result it.tolerated it.state).finish) ∙ empty_outputs (seen_after spot leg.steps) run_plan plan leg.steps none

  open_outputs : job.state ≡ JobState.Open → job_outputs b place ≡ overlaid (map (λ leg. leg.outputs) job.legs) []
  open_outputs is = elim free.outputs as (λ _. job_outputs b place ≡ overlaid (map (λ (leg : Leg). leg.outputs) job.legs) []) [
    | inl none ↦
        let empty : (k : ℕ) (leg : Leg) → slice_get job.legs k ≡ Some leg → leg.outputs ≡ [] = λ k leg there. no_leg_outputs none k leg there (each_ended (ap is_shut is) k leg there) in
        no_outputs here empty ∙ sym (nothing-laid (λ leg. leg.outputs) job.legs [] empty)
    | inr one ↦ one_outputs here ends (size ∙ one) (each_ended (ap is_shut is))
  ]

  -- the settled job comes to what the board shows
  pub job_ended : JobComes b place run given job
  job_ended = comes_by b place run given job (job_over given job (job_agrees answers run_plan before first plan calls job size played) is_over) open_outputs
      (λ unopened. no_outputs here (λ k leg there. ap (λ (x : Leg). x.outputs) (played.untouched unopened k leg there)))
