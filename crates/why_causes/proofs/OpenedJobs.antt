-- A job that was opened names its legs that have not ended, or that bring it to its result, and no others; so all obstacles are
-- named.
use Rattle.std.proofs.Common.{◌≡◌, ◌∙◌, ap, sym, refl, subst, ℕ, ◌+◌, Bool, true, false, not, Contains, List, Some, slice_get, if◌then◌else◌}
use Rattle.std.proofs.lemmas.Bool.{true≢false}
use Rattle.std.proofs.lemmas.Option.{slice_get_within}
use Rattle.status_table.specs.Words.{Board, Entry, HasShape, Job, JobAt, JobPlace, JobPlan, JobState, Leg, LegAt, LegPlace, LegState, Outcome, Plan, Run, RunAt, board_jobs, has_failed, is_ended, job_at, job_has_ended, job_in_run, job_of, job_placed, job_there, leg_at, legs_result, run_at, was_cancelled, ◌>>=◌}
use Rattle.board_decisions.proofs.Lists.{same_some}
use Rattle.board_decisions.specs.Place.{leg_placed}
use Rattle.status_table.proofs.Found.{JobStands, job_stands, leg_stands}
use Rattle.status_table.proofs.Legal.{after_fits}
use Rattle.status_table.proofs.Lists.{bind-some}
use Rattle.status_table.proofs.Numbers.{jobs_are_numbered, jobs_before, number_of_job}
use Rattle.why_causes.proofs.FirstLegs.{first_leg_is}
use Rattle.why_causes.proofs.MetFirst.{contains_at}
use Rattle.why_causes.proofs.Obstacles.{asked_item, item_asked, open_jobs, open_needs, result_legs, taken_slots}
use Rattle.why_causes.specs.Causes.{asked, causes, job_asked, job_state_asked, leg_counts, leg_sought, opened_sought, was_tolerated}
use Rattle.why_causes.specs.Obstacles.{Brings, NamesItsLegs, ObstaclesAreNamed, OpenedJobsNameLegs}
use Rattle.why_causes.specs.declared.question.Question.{Question}
use Rattle.why_causes.specs.declared.sought.Sought.{Sought}
use Rattle.why_notes.proofs.Lawful.{accounts_follow_the_table}
use Rattle.why_notes.proofs.Numbers.{before, has_number, job_spot, leg_spot, numbered}
use Rattle.why_notes.specs.Account.{Account, account_of}

-- ---- the job that is found, and its legs

abbrev job_made : Board → JobPlace → RunAt → JobPlan → Job → JobAt
job_made b place run plan job = record { board = b; place = place; run_plan = run.plan; plan = plan; run = run.run; job = job }

made_board : (b : Board) (place : JobPlace) (run : RunAt) (plan : JobPlan) (job : Job) → (job_made b place run plan job).board ≡ b
made_board b place run plan job = refl

job_board : (p : Plan) (b : Board) (place : JobPlace) (at : JobAt) → job_placed p b place ≡ Some at → at.board ≡ b
job_board p b place at h =
    let run = bind-some (run_at p b place.run) (λ run. job_in_run b run.plan run.run place) at h in
    let plan = bind-some (slice_get run.0.plan.jobs place.job) (λ plan. slice_get run.0.run.jobs place.job >>= λ job. Some (job_made b place run.0 plan job)) at run.2 in
    let job = bind-some (slice_get run.0.run.jobs place.job) (λ job. Some (job_made b place run.0 plan.0 job)) at plan.2 in
    turned (job_made b place run.0 plan.0 job.0) (same_some (job_made b place run.0 plan.0 job.0) at job.2) (made_board b place run.0 plan.0 job.0)
  where
    turned : (x : JobAt) → x ≡ at → x.board ≡ b → at.board ≡ b
    turned x same is = ap (λ (y : JobAt). y.board) (sym same) ∙ is

abbrev leg_placed_so : Board → LegPlace → JobAt → Leg → LegAt
leg_placed_so b place at leg = record { board = b; place = place; run_plan = at.run_plan; job_plan = at.plan; run = at.run; job = at.job; leg = leg }

abbrev leg_made : Board → JobAt → ℕ → Leg → LegAt
leg_made b at k leg = leg_placed_so b (leg_spot at.place.run at.place.job k) at leg

module _ (p : Plan) (b : Board) (j : ℕ) (at : JobAt) (is : job_at p b j ≡ Some at) where
  stands : JobStands p b j at
  stands = job_stands p b j at is

  placed : job_placed p b at.place ≡ Some at
  placed = sym (ap (λ o. o >>= λ place. job_placed p b place) stands.place) ∙ is

  item : slice_get (board_jobs b) j ≡ Some at.job
  item =
      sym ((jobs_are_numbered b).there j) ∙ ap (λ o. o >>= job_there b) stands.place
      ∙ ap (λ o. o >>= λ (run : Run). slice_get run.jobs at.place.job) stands.in_board ∙ stands.job

  -- the number of a leg of it
  abbrev number : ℕ → ℕ
  number k = before j (board_jobs b) + k

  leg_found : (k : ℕ) (leg : Leg) → slice_get at.job.legs k ≡ Some leg → leg_at p b (number k) ≡ Some (leg_made b at k leg)
  leg_found k leg there =
      ap (λ o. o >>= λ place. leg_placed p b place) (numbered b j k at.place at.job stands.place item (slice_get_within at.job.legs k leg there))
      ∙ ap (λ o. o >>= λ (x : JobAt). slice_get x.job.legs k >>= λ l. Some (leg_placed_so b (leg_spot at.place.run at.place.job k) x l)) placed
      ∙ ap (λ o. o >>= λ l. Some (leg_made b at k l)) there

  leg_of_it : (k : ℕ) (leg : Leg) → job_of (leg_made b at k leg) ≡ at
  leg_of_it k leg = ap (λ (c : Board). record at { board = c }) (sym (job_board p b at.place at placed))

  -- a leg of it, by its number
  numbered_so : (l : ℕ) (leg : LegAt) → leg_at p b l ≡ Some leg → job_of leg ≡ at → l ≡ number leg.place.leg
  numbered_so l leg found same =
      let there = leg_stands p b l leg found in
      let has = has_number b l leg.place there.place in
      let own : has.job ≡ j =
      number_of_job b has.job (job_spot leg.place.run leg.place.job) has.placed
      ∙ ap (λ (x : JobAt). jobs_before x.place.run b.runs + x.place.job) same ∙ sym (number_of_job b j at.place stands.place) in
      has.is ∙ ap (λ n. before n (board_jobs b) + leg.place.leg) own

  leg_there : (l : ℕ) (leg : LegAt) → leg_at p b l ≡ Some leg → job_of leg ≡ at → slice_get at.job.legs leg.place.leg ≡ Some leg.leg
  leg_there l leg found same = ap (λ (x : JobAt). slice_get x.job.legs leg.place.leg) (sym same) ∙ (leg_stands p b l leg found).leg

-- ---- the legs that are looked for

untrue : (c : Bool) → not c ≡ true → c ≡ false
untrue true h = absurd (true≢false (sym h))
untrue false h = refl

brings : (result : Outcome) (state : LegState) → leg_counts result state ≡ true → Brings result state
brings Outcome.Success (LegState.Ended how true) h = (how, refl)
brings Outcome.Failure (LegState.Ended Outcome.Failure false) h = refl
brings Outcome.Cancelled (LegState.Ended Outcome.Cancelled tolerated) h = (tolerated, refl)
brings result state h = absurd (true≢false (sym h))

counts_so : (result : Outcome) (state : LegState) → Brings result state → leg_counts result state ≡ true
counts_so Outcome.Success state h = ap was_tolerated h.1
counts_so Outcome.Failure state h = ap has_failed h
counts_so Outcome.Cancelled state h = ap was_cancelled h.1
counts_so Outcome.Skipped state h = absurd h

module _ (p : Plan) (es : List Entry) (a : Account) (j : ℕ) (at : JobAt) (account : account_of p es ≡ Some a) (is : job_at a.plan a.board j ≡ Some at) (opened : at.job.state ≡ JobState.Open) where
  abbrev test : Leg → Bool
  test leg = leg_sought (opened_sought at.run at.job) leg

  abbrev first : ℕ
  first = before j (board_jobs a.board)

  abbrev legs : List Question
  legs = asked Question.Leg first test at.job.legs

  below : causes a (Question.Job j) ≡ legs
  below =
      let shape : HasShape p a.board = (after_fits p es a.board (accounts_follow_the_table p es a account)).shape in
      ap (job_asked a j) is ∙ ap (job_state_asked at (slice_get a.notes.jobs j)) opened
      ∙ ap (λ n. asked Question.Leg n test at.job.legs) (first_leg_is p es a j at.job account shape (item a.plan a.board j at is))

  names : (Is : LegState → Type 0) → ((leg : Leg) → test leg ≡ true → Is leg.state) → ((leg : Leg) → Is leg.state → test leg ≡ true) → NamesItsLegs a j at Is
  names Is passes sought = record { all = all; alone = alone }
    where
      all : (l : ℕ) (leg : LegAt) → leg_at a.plan a.board l ≡ Some leg → job_of leg ≡ at → Is leg.leg.state → Contains (causes a (Question.Job j)) (Question.Leg l)
      all l leg found same holds =
          let there = leg_there a.plan a.board j at is l leg found same in
          let named = item_asked Question.Leg first test at.job.legs leg.place.leg leg.leg there (sought leg.leg holds) in
          let number_is = numbered_so a.plan a.board j at is l leg found same in
          subst (λ qs. Contains qs (Question.Leg l)) (sym below)
          (subst (λ n. Contains legs (Question.Leg n)) (sym number_is) (contains_at legs named.0 (Question.Leg (first + leg.place.leg)) named.1))

      alone : (q : Question) → Contains (causes a (Question.Job j)) q
          → (l : ℕ) × (leg : LegAt) × (leg_at a.plan a.board l ≡ Some leg) × (job_of leg ≡ at) × Is leg.leg.state × (q ≡ Question.Leg l)
      alone q there =
          let x = asked_item Question.Leg first test at.job.legs q (subst (λ qs. Contains qs q) below there) in (
            first + x.place,
            leg_made a.board at x.place x.item,
            leg_found a.plan a.board j at is x.place x.item x.there,
            leg_of_it a.plan a.board j at is x.place x.item,
            passes x.item x.passes,
            x.is,
          )

  going : job_has_ended at.run at.job ≡ false → NamesItsLegs a j at (λ state. is_ended state ≡ false)
  going goes =
      let wanted : opened_sought at.run at.job ≡ Sought.Unended = ap (λ c. if c then Sought.Counting (legs_result at.job.legs) else Sought.Unended) goes in
      names (λ state. is_ended state ≡ false)
      (λ leg h. untrue (is_ended leg.state) (ap (λ w. leg_sought w leg) (sym wanted) ∙ h))
      (λ leg h. ap (λ w. leg_sought w leg) wanted ∙ ap not h)

  ended : job_has_ended at.run at.job ≡ true → NamesItsLegs a j at (Brings (legs_result at.job.legs))
  ended over =
      let result = legs_result at.job.legs in
      let wanted : opened_sought at.run at.job ≡ Sought.Counting result = ap (λ c. if c then Sought.Counting result else Sought.Unended) over in
      names (Brings result)
      (λ leg h. brings result leg.state (ap (λ w. leg_sought w leg) (sym wanted) ∙ h))
      (λ leg h. ap (λ w. leg_sought w leg) wanted ∙ counts_so result leg.state h)

pub opened_jobs : OpenedJobsNameLegs
opened_jobs p es a j at account is opened = record { going = going p es a j at account is opened; ended = ended p es a j at account is opened }

pub obstacles_are_named : ObstaclesAreNamed
obstacles_are_named = record { needs = open_needs; jobs = open_jobs; slots = taken_slots; legs = result_legs; opened = opened_jobs }
