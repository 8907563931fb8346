-- The outputs of a job on a board: where no order of its legs is told by them, and where its legs stand among the ends in the order of
-- their numbers.
use Rattle.std.proofs.Common.{◌≡◌, ◌≢◌, ℕ, ◌+◌, ◌==◌, ◌&&◌, Bool, true, false, List, [], ◌∷◌, Option, Some, None, length, map, slice_get, count_by, replicate, if◌then◌else◌, ap, sym, refl, ◌∙◌, arith, zero, suc, ◌-◌, ◌<◌, ◌≤◌, ◌⊎◌, inl, inr, ◌++◌, option_map, take, take_all, add-one}
use Rattle.board_settled.specs.Words.{Board, EndOnce, HasShape, Job, JobPlace, Leg, LegPlace, Plan, Run, RunPlan, board_legs, cons_option, ended_in_order, filter, filter_map, flat_map, has_ended_at, holds, is_ended, job_leg, job_outputs, leg_of_job, leg_place, leg_there, numbered_leg, numbers, overlaid, quiet_run, times_ended}
use Rattle.std.proofs.lemmas.Bool.Decides.{nat_tests}
use Rattle.std.proofs.lemmas.Option.{slice_get_within}
use Rattle.status_table.proofs.Lists.{bind-some}
use Rattle.board_decisions.proofs.Lists.{and-left, and-right, no_some}
use Rattle.status_table.proofs.Numbers.{legs_are_numbered}
use Rattle.board_settled.proofs.Lists.{given-often}
use Rattle.board_settled.proofs.Pairs.{in_kept, nothing-laid}
use Rattle.board_settled.proofs.Numbers.{before_run, before_job, leg_spot, number_at, place_at}
use Rattle.std.proofs.lemmas.Bool.{cases_lt}
use Rattle.std.proofs.lemmas.List.Elements.{filter-append, filter_map-append}
use Rattle.flow_model.proofs.Places.{slice_get_there}

-- a job of a run of a plan stands on a board
pub record JobThere (p : Plan) (b : Board) (place : JobPlace) (plan : RunPlan) (run : Run) (job : Job) : Type 0 where
  pub shape : HasShape p b
  pub planned : slice_get p.runs place.run ≡ Some plan
  pub in_board : slice_get b.runs place.run ≡ Some run
  pub in_run : slice_get run.jobs place.job ≡ Some job

-- the number of a leg of a job, by its place among the legs
abbrev pub leg_number : Plan → JobPlace → RunPlan → ℕ → ℕ
leg_number p place plan k = before_run place.run p.runs + before_job place.job plan.jobs + k

module _ {p : Plan} {b : Board} {place : JobPlace} {plan : RunPlan} {run : Run} {job : Job} (here : JobThere p b place plan run job) where
  -- a leg of the job is found by its number alone
  pub number_of : (l : ℕ) (leg : Leg) → job_leg b place l ≡ Some leg → (k : ℕ) × (l ≡ leg_number p place plan k) × (slice_get job.legs k ≡ Some leg)
  number_of l leg h = let (at, is, found) = bind-some (leg_place b l) (leg_of_job b place) leg h in tested at is ((at.run == place.run) && (at.job == place.job)) refl found
    where
      tested : (at : LegPlace) → leg_place b l ≡ Some at → (c : Bool) → (at.run == place.run) && (at.job == place.job) ≡ c
          → (if c then leg_there b at else None) ≡ Some leg → (k : ℕ) × (l ≡ leg_number p place plan k) × (slice_get job.legs k ≡ Some leg)
      tested at is false was e = absurd (no_some leg e)
      tested at is true was e =
          let left = and-left (at.run == place.run) (at.job == place.job) was in
          let right = and-right (at.run == place.run) (at.job == place.job) was in
          let run_is : at.run ≡ place.run = grind (arith, nat_tests, left) in
          let job_is : at.job ≡ place.job = grind (arith, nat_tests, right) in
          let number = number_at p b l at plan here.shape is (ap (slice_get p.runs) run_is ∙ here.planned) in
          (at.leg, number ∙ (λ i. before_run (run_is i) p.runs + before_job (job_is i) plan.jobs + at.leg), rw (run_is, here.in_board, job_is, here.in_run) at e)

  module _ (k : ℕ) (leg : Leg) (is : slice_get job.legs k ≡ Some leg) where
    placed : leg_place b (leg_number p place plan k) ≡ Some (leg_spot place.run place.job k)
    placed = place_at p b place.run place.job k plan run job here.shape here.planned here.in_board here.in_run (slice_get_within job.legs k leg is)

    there : leg_there b (leg_spot place.run place.job k) ≡ Some leg
    there = rw (here.in_board, here.in_run) is

    pub has_number : numbered_leg b (leg_number p place plan k) ≡ Some leg
    has_number = rw placed there

    pub is_leg_of : job_leg b place (leg_number p place plan k) ≡ Some leg
    is_leg_of =
        let same_run : (place.run == place.run) ≡ true = grind (arith, nat_tests) in
        let same_job : (place.job == place.job) ≡ true = grind (arith, nat_tests) in
        rw (placed, same_run, same_job) there

    pub is_item : slice_get (board_legs b) (leg_number p place plan k) ≡ Some leg
    is_item = sym ((legs_are_numbered b).there (leg_number p place plan k)) ∙ has_number

  -- where no leg has outputs, neither has the job
  pub no_outputs : ((k : ℕ) (leg : Leg) → slice_get job.legs k ≡ Some leg → leg.outputs ≡ []) → job_outputs b place ≡ []
  unfolding job_outputs
  no_outputs h = nothing-laid (λ leg. leg.outputs) (filter_map (job_leg b place) b.ends) [] (λ i leg at.
      let (k, l, there, is) = in_kept (job_leg b place) b.ends i leg at in let (j, number, here) = number_of l leg is in h j leg here)

  -- the outputs of a job with one leg, which has ended
  pub one_outputs : EndOnce b → length job.legs ≡ 1 → ((k : ℕ) (leg : Leg) → slice_get job.legs k ≡ Some leg → is_ended leg.state ≡ true)
      → job_outputs b place ≡ overlaid (map (λ leg. leg.outputs) job.legs) []
  unfolding job_outputs
  one_outputs ends one ended =
      ap (λ (legs : List Leg). overlaid (map (λ x. x.outputs) legs) [])
      (given-often (job_leg b place) (leg_number p place plan 0) leg b.ends (is_leg_of 0 leg first) others ∙ ap (λ n. replicate n leg) counted ∙ sym only.1)
    where
      single : (legs : List Leg) → length legs ≡ 1 → (leg : Leg) × (legs ≡ leg ∷ [])
      single (leg ∷ []) h = (leg, refl)
      single legs h = absurd (omega (arith, h))

      only : (leg : Leg) × (job.legs ≡ leg ∷ [])
      only = single job.legs one

      leg : Leg
      leg = only.0

      first : slice_get job.legs 0 ≡ Some leg
      first = ap (λ legs. slice_get legs 0) only.1

      others : (l : ℕ) → l ≢ leg_number p place plan 0 → job_leg b place l ≡ None
      others l differs = by (job_leg b place l) refl
        where
          by : (o : Option Leg) → job_leg b place l ≡ o → o ≡ None
          by None is = refl
          by (Some x) is =
              let (k, number, there) = number_of l x is in
              let within = slice_get_within job.legs k x there in
              let here : k ≡ 0 = omega (arith, within, one) in
              absurd (differs (number ∙ ap (leg_number p place plan) here))

      counted : count_by (λ l. l == leg_number p place plan 0) b.ends ≡ 1
      counted = ends (leg_number p place plan 0) ∙ ap times_ended (is_item 0 leg first) ∙ ap (λ c. if c then 1 else 0) (ended 0 leg first)

-- one number more, whether it passes or not
pub filter_more : (t : ℕ → Bool) (n : ℕ) → filter t (numbers (n + 1)) ≡ filter t (numbers n) ++ filter t (n ∷ [])
filter_more t n = rw add-one (filter-append t (numbers n) (n ∷ []))

-- ---- what numbers in their order give

nothing-given : {B : Type 0} (f : ℕ → Option B) → ((l : ℕ) → f l ≡ None) → (n : ℕ) → filter_map f (numbers n) ≡ []
nothing-given f h zero = refl
nothing-given f h (suc n) = filter_map-append f (numbers n) (n ∷ []) ∙ λ i. nothing-given f h n i ++ cons_option (h n i) []

take-next : {B : Type 0} (xs : List B) (k : ℕ) → take k xs ++ cons_option (slice_get xs k) [] ≡ take (suc k) xs
take-next [] zero = refl
take-next [] (suc k) = refl
take-next (x ∷ xs) zero = refl
take-next {B} (x ∷ xs) (suc k) = ap (λ (ys : List B). x ∷ ys) (take-next xs k)

-- the items of a list, where the numbers from one on give them, and those below it nothing
given-from : {B : Type 0} (f : ℕ → Option B) (xs : List B) (first : ℕ) → ((l : ℕ) → l < first → f l ≡ None) → ((k : ℕ) → f (first + k) ≡ slice_get xs k)
    → (n : ℕ) → filter_map f (numbers n) ≡ take (n - first) xs
given-from f xs first early each zero = let none : 0 - first ≡ 0 = omega arith in rw none refl
given-from {B} f xs first early each (suc n) =
    filter_map-append f (numbers n) (n ∷ []) ∙ ap (λ (ys : List B). ys ++ cons_option (f n) []) (given-from f xs first early each n) ∙ next (cases_lt n first)
  where
    next : (n < first) ⊎ (first ≤ n) → take (n - first) xs ++ cons_option (f n) [] ≡ take (suc n - first) xs
    next (inl less) =
        let none : n - first ≡ 0 = omega (arith, less) in
        let still : suc n - first ≡ 0 = omega (arith, less) in
        rw (none, still, early n less) refl
    next (inr from) =
        let here : first + (n - first) ≡ n = omega (arith, from) in
        let more : suc (n - first) ≡ suc n - first = omega (arith, from) in
        ap (λ (o : Option B). take (n - first) xs ++ cons_option o []) (ap f (sym here) ∙ each (n - first)) ∙ take-next xs (n - first) ∙ ap (λ k. take k xs) more

-- what is given by numbers that pass
abbrev passing : {B : Type 0} → (ℕ → Bool) → (ℕ → Option B) → ℕ → Option B
passing t f l = if t l then f l else None

filter_map-passing : {B : Type 0} (t : ℕ → Bool) (f : ℕ → Option B) (xs : List ℕ) → filter_map f (filter t xs) ≡ filter_map (passing t f) xs
filter_map-passing t f [] = refl
filter_map-passing {B} t f (x ∷ xs) = by (t x) refl (filter_map-passing t f xs)
  where
    by : (c : Bool) → t x ≡ c → filter_map f (filter t xs) ≡ filter_map (passing t f) xs → filter_map f (filter t (x ∷ xs)) ≡ filter_map (passing t f) (x ∷ xs)
    by true is later = rw is (ap (λ ys. cons_option (f x) ys) later)
    by false is later = rw is later

-- ---- a job

module _ {p : Plan} {b : Board} {place : JobPlace} {plan : RunPlan} {run : Run} {job : Job} (here : JobThere p b place plan run job) (ends : b.ends ≡ ended_in_order b) where
  abbrev first : ℕ
  first = before_run place.run p.runs + before_job place.job plan.jobs

  abbrev given : ℕ → Option Leg
  given = passing (has_ended_at b) (job_leg b place)

  -- where the legs of the job that are Ended are these, its outputs are theirs, in the order of the legs
  outputs-by : (legs : List Leg) → filter_map given (numbers (length (board_legs b))) ≡ legs → job_outputs b place ≡ overlaid (map (λ leg. leg.outputs) legs) []
  unfolding job_outputs
  outputs-by legs h =
      ap (λ ls. overlaid (map (λ leg. leg.outputs) (filter_map (job_leg b place) ls)) []) ends
      ∙ ap (λ (ls : List Leg). overlaid (map (λ leg. leg.outputs) ls) []) (filter_map-passing (has_ended_at b) (job_leg b place) (numbers (length (board_legs b))) ∙ h)

  has-ended : (k : ℕ) (leg : Leg) → slice_get job.legs k ≡ Some leg → has_ended_at b (first + k) ≡ is_ended leg.state
  has-ended k leg is = ap (λ o. holds (option_map (λ (x : Leg). is_ended x.state) o)) (has_number here k leg is)

  -- a number gives nothing that is not of a leg of the job that is Ended
  given-none : (l : ℕ) → ((k : ℕ) (leg : Leg) → l ≡ first + k → slice_get job.legs k ≡ Some leg → has_ended_at b l ≡ false) → given l ≡ None
  given-none l unended = by (job_leg b place l) refl
    where
      every : (c : Bool) (o : Option Leg) → o ≡ None → (if c then o else None) ≡ None
      every true o is = is
      every false o is = refl

      by : (o : Option Leg) → job_leg b place l ≡ o → given l ≡ None
      by None is = every (has_ended_at b l) (job_leg b place l) is
      by (Some leg) is = let (k, number, there) = number_of here l leg is in ap (λ c. if c then job_leg b place l else None) (unended k leg number there)

  -- a job none of whose legs is Ended
  pub none_ended : ((k : ℕ) (leg : Leg) → slice_get job.legs k ≡ Some leg → is_ended leg.state ≡ false) → job_outputs b place ≡ []
  none_ended h = outputs-by [] (nothing-given given (λ l. given-none l (λ k leg number is. ap (has_ended_at b) number ∙ has-ended k leg is ∙ h k leg is)) (length (board_legs b)))

  -- a job all of whose legs are Ended
  pub all_ended : ((k : ℕ) (leg : Leg) → slice_get job.legs k ≡ Some leg → is_ended leg.state ≡ true)
      → job_outputs b place ≡ overlaid (map (λ leg. leg.outputs) job.legs) []
  all_ended h = outputs-by job.legs (given-from given job.legs first early each (length (board_legs b)) ∙ take_all (length (board_legs b) - first) job.legs enough)
    where
      early : (l : ℕ) → l < first → given l ≡ None
      early l less = given-none l (λ k leg number is. absurd (omega (arith, less, number)))

      each : (k : ℕ) → given (first + k) ≡ slice_get job.legs k
      each k = by (slice_get job.legs k) refl
        where
          by : (o : Option Leg) → slice_get job.legs k ≡ o → given (first + k) ≡ o
          by None is = given-none (first + k) (λ j leg number there.
              let same : k ≡ j = omega (arith, number) in absurd (no_some leg (sym is ∙ ap (slice_get job.legs) same ∙ there)))
          by (Some leg) is = ap (λ c. if c then job_leg b place (first + k) else None) (has-ended k leg is ∙ h k leg is) ∙ is_leg_of here k leg is

      enough : length job.legs ≤ length (board_legs b) - first
      enough = elim (cases_lt (length (board_legs b) - first) (length job.legs)) as (λ _. length job.legs ≤ length (board_legs b) - first) [
        | inl less ↦
            let k = length (board_legs b) - first in
            let (leg, there) = slice_get_there job.legs k less in
            let within = slice_get_within (board_legs b) (first + k) leg (is_item here k leg there) in
            absurd (omega (arith, within))
        | inr few ↦ few
      ]

-- ---- the quiet copy of a board

jobs-quiet : (runs : List Run) → flat_map (λ (run : Run). run.jobs) (map quiet_run runs) ≡ flat_map (λ (run : Run). run.jobs) runs
jobs-quiet [] = refl
jobs-quiet (run ∷ runs) = ap (λ (js : List Job). run.jobs ++ js) (jobs-quiet runs)

-- it has the legs of the board
pub legs_quiet : (b c : Board) → c.runs ≡ map quiet_run b.runs → board_legs c ≡ board_legs b
legs_quiet b c is =
    ap (λ (runs : List Run). flat_map (λ (job : Job). job.legs) (flat_map (λ (run : Run). run.jobs) runs)) is
    ∙ ap (flat_map (λ (job : Job). job.legs)) (jobs-quiet b.runs)
