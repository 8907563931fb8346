-- What has ended, by the counters.
use Rattle.std.proofs.Common.{◌≡◌, ℕ, zero, suc, ◌+◌, ◌-◌, ◌==◌, ◌||◌, Bool, true, false, not, List, [], ◌∷◌, Option, Some, slice_get, map, count_by, ap, sym, refl, ◌∙◌, arith}
use Rattle.board_counters.specs.Words.{Board, InPlay, Job, JobAt, JobPlan, Leg, Need, NeedsPointBack, Plan, Run, RunPlan, first_job, first_number, first_of, holds_at, is_closed, is_ended, is_going, is_settled, is_shut, job_at, job_has_ended, jobs_have_ended, list_all, need_of, needs_have_ended, needs_none, needs_of, run_needs, settled_jobs, ◌>>=◌}
use Rattle.std.proofs.lemmas.Bool.{true≢false}
use Rattle.board_counters.proofs.Lists.{all-counted}
use Rattle.board_decisions.proofs.Lists.{map-get, same_some, no_some}
use Rattle.status_table.proofs.Found.{JobStands, job_stands}
use Rattle.status_table.proofs.Sound.{is_numbered_in}
use Rattle.status_table.proofs.Steps.{going-unclosed}

-- ---- a job of a run that is Going has ended where it is settled

ended-by : (closed shut : Bool) → closed ≡ false → (legs : List Leg)
    → list_all (λ leg. closed || shut || is_ended leg.state) legs ≡ (shut || (count_by (λ leg. not (is_ended leg.state)) legs == 0))
ended-by true shut is legs = absurd (true≢false is)
ended-by false true is [] = refl
ended-by false true is (x ∷ xs) = ended-by false true is xs
ended-by false false is legs = all-counted (λ (leg : Leg). is_ended leg.state) legs

settled-ended : (run : Run) (job : Job) → is_going run.state ≡ true → is_settled job ≡ job_has_ended run job
settled-ended run job going = sym (ended-by (is_closed run.state) (is_shut job.state) (going-unclosed run.state going) job.legs)

pub jobs_ended : (run : Run) → is_going run.state ≡ true → list_all is_settled run.jobs ≡ jobs_have_ended run
jobs_ended run going = λ i. list_all (λ job. settled-ended run job going i) run.jobs

-- ---- needs

needs-at : (plans : List RunPlan) (runs : List Run) (r : ℕ) (plan : RunPlan) (run : Run) → slice_get plans r ≡ Some plan → slice_get runs r ≡ Some run
    → slice_get (needs_of plans runs) r ≡ Some (run_needs plan run)
needs-at [] runs r plan run planned at = absurd (no_some plan planned)
needs-at (p ∷ ps) [] r plan run planned at = absurd (no_some run at)
needs-at (p ∷ ps) (x ∷ xs) zero plan run planned at =
    (λ i. Some (run_needs (same_some p plan planned i) (same_some x run at i)))
needs-at (p ∷ ps) (x ∷ xs) (suc r) plan run planned at = needs-at ps xs r plan run planned at

first-is : NeedsPointBack → (p : Plan) (b : Board) (j : ℕ) (at : JobAt) → InPlay p b → job_at p b j ≡ Some at → first_number at.run_plan.jobs ≡ first_of j at
first-is law p b j at play is = by at.run_plan.jobs refl
  where
    stands : JobStands p b j at
    stands = job_stands p b j at is

    number : at.plan.number ≡ j
    number = (is_numbered_in p b j at play is).number

    placed : at.plan.number ≡ first_job p at.place.run + at.place.job
    placed = (law p play.rules at.place.run at.place.job at.run_plan at.plan stands.in_plan stands.plan).0

    by : (jobs : List JobPlan) → at.run_plan.jobs ≡ jobs → first_number jobs ≡ first_of j at
    by [] none = absurd (no_some at.plan (ap (λ (js : List JobPlan). slice_get js at.place.job) (sym none) ∙ stands.plan))
    by (x ∷ xs) some =
        let first : x.number ≡ first_job p at.place.run + 0 = (law p play.rules at.place.run 0 at.run_plan x stands.in_plan (ap (λ (js : List JobPlan). slice_get js 0) some)).0 in
        let n = number in
        let k = placed in
        omega (arith, first, n, k)

pub needs_told : NeedsPointBack → (p : Plan) (b : Board) (j : ℕ) (at : JobAt) → InPlay p b → job_at p b j ≡ Some at → is_going at.run.state ≡ true
    → needs_none (slice_get (needs_of p.runs b.runs) at.place.run >>= λ row. slice_get row at.place.job) ≡ needs_have_ended (first_of j at) at.run at.plan
needs_told law p b j at play is going =
    let stands = job_stands p b j at is in
    let row = needs-at p.runs b.runs at.place.run at.run_plan at.run stands.in_plan stands.in_board in
    let item = map-get (need_of (first_number at.run_plan.jobs) (settled_jobs at.run)) at.run_plan.jobs at.place.job at.plan stands.plan in
    let first = first-is law p b j at play is in
    ap (λ (o : Option (List Need)). needs_none (o >>= λ row. slice_get row at.place.job)) row
    ∙ ap needs_none item
    ∙ sym (all-counted (λ need. holds_at (settled_jobs at.run) (need - first_number at.run_plan.jobs)) at.plan.needs)
    ∙ (λ i. list_all (λ need. holds_at (map (λ job. settled-ended at.run job going i) at.run.jobs) (need - first i)) at.plan.needs)
