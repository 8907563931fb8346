-- A job that was skipped, and whose condition waits for success, names the ancestors without success that are met first.
use Rattle.std.proofs.Common.{◌≡◌, ◌≢◌, inl, inr, ◌∙◌, ap, sym, refl, subst, ℕ, zero, suc, ◌+◌, ◌-◌, ◌<◌, arith, Bool, true, false, not, ◌&&◌, Contains, IfSome, List, [], ◌∷◌, Option, Some, None, Result, Ok, Err, length, map, slice_get, if◌then◌else◌, true≢false, nat_lt}
use Rattle.std.specs.List.{list_all}
use Rattle.std.proofs.lemmas.List.{length-map}
use Rattle.std.proofs.lemmas.Option.{slice_get_within}
use Rattle.status_table.specs.Words.{Board, EachAncestor, Entry, IsAncestor, IsPlan, Job, JobAt, JobPlan, JobShape, JobState, Outcome, Plan, Reply, Run, RunFits, RunPlan, RunShape, RunState, RunStays, SaysOf, SoundPlan, Status, ValueFault, board_jobs, event_row, first_number, first_of, holds, holds_at, is_closed, is_failure, is_going, is_open, is_shut, is_success, job_at, job_has_ended, job_place, job_place_from, job_result, job_results, job_status, judge_found, judge_job, judgement, judgement_by, need, needs_at, needs_have_ended, new_board, of_need, places_needed, result_by}
use Rattle.board_decisions.proofs.Backwards.{status_says}
use Rattle.board_decisions.proofs.Lists.{and-left, and-right, map-get, map-past, no_some, same_some}
use Rattle.expr_value.specs.Functions.{is_success as is_success_status}
use Rattle.why_causes.proofs.Becoming.{job_item}
use Rattle.why_causes.proofs.Changing.{made_by}
use Rattle.why_causes.proofs.MetFirst.{contains_cases, contains_map, contains_none, first_found, found_first, get_within, mapped_from, a_success}
use Rattle.why_causes.proofs.Noting.{accepted_event, notes_are_made}
use Rattle.why_causes.proofs.Staying.{stays_unsuccessful}
use Rattle.why_causes.specs.Agrees.{JobAgrees, JobNow}
use Rattle.why_causes.specs.Causes.{causes, job_asked, job_last, job_state_asked, shut_asked}
use Rattle.why_causes.specs.Made.{MadeAt}
use Rattle.why_causes.specs.declared.question.Question.{Question}
use Rattle.why_facts.specs.Ancestors.{first_unsuccessful}
use Rattle.why_facts.specs.declared.fact.Change.{Change}
use Rattle.why_facts.specs.declared.fact.JobFact.{JobFact}
use Rattle.why_facts.specs.declared.notes.JobNote.{JobNote}
use Rattle.why_facts.specs.declared.notes.JobNotes.{JobNotes}
use Rattle.why_notes.specs.Account.{Account, account_of}
use Rattle.why_notes.specs.Changes.{judged, judged_under}
use Rattle.why_notes.specs.Conditions.{waits_for_success, waits_in_vain}
use Rattle.why_notes.specs.Laws.{judged_to}
use Rattle.status_table.specs.declared.fault.EventFault.{EventFault}
use Rattle.status_table.proofs.Counts.{zip-left}
use Rattle.status_table.proofs.Ended.{WasJob, was_job, unjudged-going}
use Rattle.status_table.proofs.Found.{JobStands, job_stands}
use Rattle.status_table.proofs.Lists.{zip-get, zip-length}
use Rattle.status_table.proofs.Sound.{is_numbered_in, stands_after_needs}
use Rattle.std.proofs.lemmas.Bool.{false_from_ne_true, le-leb, leb-true}
use Rattle.why_causes.proofs.ClosedRuns.{some_there}
use Rattle.why_causes.proofs.Past.{Beside, Past, beside, past, same_plan}
use Rattle.why_causes.specs.Endings.{IsMetFirst, NamesFirstAbove, WaitedInVain, needed, of_needed, NamesStop}
use Rattle.status_table.proofs.Numbers.{jobs_before, number_of_job}
use Rattle.status_table.proofs.Steps.{going-unclosed}

-- ---- ancestors on a board

-- an ancestor without success is met, or another before it
pub met_on_the_way : (first : ℕ) (jobs : List JobPlan) (results : List Outcome) → length results ≡ length jobs → {c k : ℕ} (x : Outcome) → IsAncestor first jobs c k
    → slice_get results c ≡ Some x → x ≢ Outcome.Success → (m : ℕ) × IsMetFirst first jobs results m k
met_on_the_way first jobs results size {c} {k} x (need there) is apart = (c, needed there is apart)
met_on_the_way first jobs results size {c} {k} x (of_need {n = n} there further) is apart =
    let later = met_on_the_way first jobs results size x further is apart in
    let within = in_jobs further in
    let result = get_within results n (omega (arith, size, within)) in
    by result.0 result.1 later
  where
    has_needs : {d i : ℕ} → Contains (needs_at first jobs i) d → i < length jobs
    has_needs {d} {i} t = by_plan (slice_get jobs i) refl t
      where
        by_plan : (o : Option JobPlan) → slice_get jobs i ≡ o → Contains (places_needed first o) d → i < length jobs
        by_plan None at t = absurd (contains_none d t)
        by_plan (Some job) at t = slice_get_within jobs i job at

    in_jobs : {d i : ℕ} → IsAncestor first jobs d i → i < length jobs
    in_jobs (need t) = has_needs t
    in_jobs (of_need t more) = has_needs t

    by : (y : Outcome) → slice_get results n ≡ Some y → (m : ℕ) × IsMetFirst first jobs results m n → (m : ℕ) × IsMetFirst first jobs results m k
    by Outcome.Success at later = (later.0, of_needed there at later.1)
    by Outcome.Failure at later = (n, needed there at (λ e. cc))
    by Outcome.Cancelled at later = (n, needed there at (λ e. cc))
    by Outcome.Skipped at later = (n, needed there at (λ e. cc))

-- the job with a result
record WithResult (run : Run) (k : ℕ) (y : Outcome) : Type 0 where
  job : Job
  is : slice_get run.jobs k ≡ Some job
  same : job_result run job ≡ y

with_result : (run : Run) (k : ℕ) (y : Outcome) → slice_get (job_results run) k ≡ Some y → WithResult run k y
with_result run k y h = by (slice_get run.jobs k) refl
  where
    by : (o : Option Job) → slice_get run.jobs k ≡ o → WithResult run k y
    by None there = absurd (no_some y (sym (map-past (job_result run) run.jobs k there) ∙ h))
    by (Some job) there = record { job = job; is = there; same = same_some (job_result run job) y (sym (map-get (job_result run) run.jobs k job there) ∙ h) }

-- a job that has ended
record EndedAt (run : Run) (k : ℕ) : Type 0 where
  job : Job
  is : slice_get run.jobs k ≡ Some job
  ended : job_has_ended run job ≡ true

ended_at : (run : Run) (k : ℕ) → holds_at (map (job_has_ended run) run.jobs) k ≡ true → EndedAt run k
ended_at run k h = by (slice_get run.jobs k) refl
  where
    by : (o : Option Job) → slice_get run.jobs k ≡ o → EndedAt run k
    by None there = absurd (true≢false (sym h ∙ ap holds (map-past (job_has_ended run) run.jobs k there)))
    by (Some job) there = record { job = job; is = there; ended = sym (ap holds (map-get (job_has_ended run) run.jobs k job there)) ∙ h }

-- the needs of a job that have ended
needs_ended : (first : ℕ) (run : Run) (needs : List ℕ) (k : ℕ) → list_all (λ need. holds_at (map (job_has_ended run) run.jobs) (need - first)) needs ≡ true
    → Contains (map (λ need. need - first) needs) k → EndedAt run k
needs_ended first run [] k all there = absurd (contains_none k there)
needs_ended first run (n ∷ ns) k all there = elim (contains_cases (n - first) (map (λ need. need - first) ns) k there) as (λ _. EndedAt run k) [
  | inl e ↦ ended_at run k
      (ap (holds_at (map (job_has_ended run) run.jobs)) (sym e)
      ∙ and-left (holds_at (map (job_has_ended run) run.jobs) (n - first)) (list_all (λ need. holds_at (map (job_has_ended run) run.jobs) (need - first)) ns) all)
  | inr later ↦ needs_ended first run ns k
      (and-right (holds_at (map (job_has_ended run) run.jobs) (n - first)) (list_all (λ need. holds_at (map (job_has_ended run) run.jobs) (need - first)) ns) all) later
]

all_needs_ended : (first : ℕ) (run : Run) (jobs : List JobPlan) (n : ℕ) (plan : JobPlan) → slice_get jobs n ≡ Some plan → needs_have_ended first run plan ≡ true → (k : ℕ)
    → Contains (needs_at first jobs n) k → EndedAt run k
all_needs_ended first run jobs n plan is ended k there =
    needs_ended first run plan.needs k ended (subst (λ (o : Option JobPlan). Contains (places_needed first o) k) is there)

-- Where all ancestors had success as far as they had ended, none is met later that has none.
module _ (first : ℕ) (plan : RunPlan) (a b : Run) (stays : RunStays a b) (unclosed : is_closed a.state ≡ false) (old : RunFits plan a) (new : RunFits plan b)
    (opened : (m : ℕ) (x : Job) (planned : JobPlan) → slice_get a.jobs m ≡ Some x → slice_get plan.jobs m ≡ Some planned → is_open x.state ≡ true → needs_have_ended first a planned ≡ true)
    (unshut : (m : ℕ) (y : Job) (planned : JobPlan) → slice_get b.jobs m ≡ Some y → slice_get plan.jobs m ≡ Some planned → y.state ≢ JobState.Shut Outcome.Success) where
  abbrev Ended : ℕ → Type 0
  Ended n = (d : ℕ) → Contains (needs_at first plan.jobs n) d → EndedAt a d

  -- a job with success that has ended was opened
  handed_on : (m : ℕ) → EndedAt a m → slice_get (job_results b) m ≡ Some Outcome.Success → Ended m
  handed_on m e is = by e.job.state refl
    where
      both : Beside plan a b m e.job
      both = beside plan a b m e.job e.is stays old new

      result : job_result b both.job ≡ Outcome.Success
      result = same_some (job_result b both.job) Outcome.Success (sym (map-get (job_result b) b.jobs m both.job both.there) ∙ is)

      by : (s : JobState) → e.job.state ≡ s → (d : ℕ) → Contains (needs_at first plan.jobs m) d → EndedAt a d
      by JobState.Unjudged state = absurd (unjudged-going a both.planned e.job unclosed state both.old e.ended)
      by JobState.Open state = all_needs_ended first a plan.jobs m both.planned both.is_planned (opened m e.job both.planned e.is both.is_planned (ap is_open state))
      by (JobState.Shut x) state =
          let still : both.job.state ≡ JobState.Shut x = ap (λ (job : Job). job.state) (both.stays.shut (ap is_shut state)) ∙ state in
          let success : x ≡ Outcome.Success = sym (ap (λ s. result_by b.state s both.job.legs) still) ∙ result in
          absurd (unshut m both.job both.planned both.there both.is_planned (still ∙ ap JobState.Shut success))

  none_met : {k n : ℕ} → IsMetFirst first plan.jobs (job_results b) k n → Ended n
      → ((c : ℕ) (x : Outcome) → IsAncestor first plan.jobs c n → slice_get (job_results a) c ≡ Some x → is_success x ≡ true) → ⊥
  none_met {k} {n} (needed {result = x} there is apart) ended success =
      let e = ended k there in
      let both = beside plan a b k e.job e.is stays old new in
      let before = a_success (job_result a e.job) (success k (job_result a e.job) (need there) (map-get (job_result a) a.jobs k e.job e.is)) in
      apart (sym (same_some (job_result b both.job) x (sym (map-get (job_result b) b.jobs k both.job both.there) ∙ is)) ∙ both.stays.result e.ended ∙ before)
  none_met {k} {n} (of_needed {n = m} there is met) ended success =
      none_met met (handed_on m (ended m there) is) (λ c x above at. success c x (of_need there above) at)

-- ---- the jobs of a run by their numbers

placed_from : (k : ℕ) (runs : List Run) (i m : ℕ) (run : Run) → slice_get runs i ≡ Some run → m < length run.jobs
    → job_place_from k runs (jobs_before i runs + m) ≡ Some (record { run = k + i; job = m })
placed_from k [] i m run is less = absurd (no_some run is)
placed_from k (x ∷ runs) zero m run is less =
    let none : 0 + m ≡ m = omega arith in
    let here : k ≡ k + 0 = omega arith in
    let few : m < length x.jobs = subst (λ (y : Run). m < length y.jobs) (sym (same_some x run is)) less in
    rw (none, le-leb (suc m) (length x.jobs) (omega (arith, few))) (ap (λ i. Some (record { run = i; job = m })) here)
placed_from k (x ∷ runs) (suc i) m run is less =
    let past : length x.jobs + jobs_before i runs + m - length x.jobs ≡ jobs_before i runs + m = omega arith in
    let next : suc k + i ≡ k + suc i = omega arith in
    let many : nat_lt (length x.jobs + jobs_before i runs + m) (length x.jobs) ≡ false =
    false_from_ne_true _ (λ h. let few = leb-true (suc (length x.jobs + jobs_before i runs + m)) (length x.jobs) h in omega (arith, few)) in
    rw (many, past) (placed_from (suc k) runs i m run is less ∙ ap (λ i. Some (record { run = i; job = m })) next)

-- the job at a place beside another
abbrev job_beside : Board → JobAt → ℕ → JobPlan → Job → JobAt
job_beside b at m plan job = record { board = b; place = record { run = at.place.run; job = m }; run_plan = at.run_plan; plan = plan; run = at.run; job = job }

beside_found : (p : Plan) (b : Board) (j : ℕ) (at : JobAt) (m : ℕ) (plan : JobPlan) (job : Job) → job_at p b j ≡ Some at → slice_get at.run_plan.jobs m ≡ Some plan
    → slice_get at.run.jobs m ≡ Some job → job_at p b (first_of j at + m) ≡ Some (job_beside b at m plan job)
beside_found p b j at m plan job is planned there =
    let here = job_stands p b j at is in
    let number = number_of_job b j at.place here.place in
    let first : j - at.place.job + m ≡ jobs_before at.place.run b.runs + m = omega (arith, number) in
    let place : job_place b (j - at.place.job + m) ≡ Some (record { run = at.place.run; job = m }) =
    ap (job_place b) first ∙ placed_from 0 b.runs at.place.run m at.run here.in_board (slice_get_within at.run.jobs m job there)
    ∙ (let none : 0 + at.place.run ≡ at.place.run = omega arith in ap (λ i. Some (record { run = i; job = m })) none) in
    rw (place, here.in_plan, here.in_board, planned, there) refl

-- ---- a job that is judged

-- a job that waits in vain: its run was not told to stop, and the status is none of success
vain : (stop waits : Bool) (holds : Result Bool ValueFault) → judged stop waits holds ≡ JobFact.Unsuccessful → (stop ≡ false) × (waits ≡ true)
vain stop waits (Ok true) h = cc
vain true waits (Ok false) h = cc
vain false true (Ok false) h = (refl, refl)
vain false false (Ok false) h = cc
vain stop waits (Err f) h = cc

-- a job that does not, though its condition is not true
not_vain : (stop waits : Bool) (holds : Result Bool ValueFault) → judged stop waits holds ≡ JobFact.Untrue → (stop ≡ false) × (waits ≡ false)
not_vain stop waits (Ok true) h = cc
not_vain true waits (Ok false) h = cc
not_vain false true (Ok false) h = cc
not_vain false false (Ok false) h = (refl, refl)
not_vain stop waits (Err f) h = cc

-- a job of a run that was told to stop
run_stopped : (stop waits : Bool) (holds : Result Bool ValueFault) → judged stop waits holds ≡ JobFact.RunStopped → stop ≡ true
run_stopped stop waits (Ok true) h = cc
run_stopped true waits (Ok false) h = refl
run_stopped false true (Ok false) h = cc
run_stopped false false (Ok false) h = cc
run_stopped stop waits (Err f) h = cc

-- what the row looks at where it judges a job
record Judging (j : ℕ) (at : JobAt) : Type 0 where
  going : is_going at.run.state ≡ true
  ended : needs_have_ended (first_of j at) at.run at.plan ≡ true

judging : (b : Board) (j : ℕ) (at : JobAt) (x : Board × Reply) → judge_job b at.place (judgement j at) ≡ Ok x → Judging j at
judging b j at x h = by at.run.state at.job.state refl h
  where
    ready : (c : Bool) (s : JobState) → is_going at.run.state ≡ true → needs_have_ended (first_of j at) at.run at.plan ≡ c
        → judge_job b at.place (if c then Ok s else Err EventFault.NeedsOpen) ≡ Ok x → Judging j at
    ready true s going ended k = record { going = going; ended = ended }
    ready false s going ended k = cc

    by : (s : RunState) (t : JobState) → at.run.state ≡ s → judge_job b at.place (judgement_by j at s t) ≡ Ok x → Judging j at
    by RunState.New t is k = cc
    by RunState.Waiting t is k = cc
    by RunState.Going JobState.Unjudged is k = ready (needs_have_ended (first_of j at) at.run at.plan) _ (ap is_going is) refl k
    by RunState.Going JobState.Open is k = cc
    by RunState.Going (JobState.Shut result) is k = cc
    by (RunState.Closed result) t is k = cc

-- an ancestor without success, and its result
record Missed (first : ℕ) (at : JobAt) : Type 0 where
  place : ℕ
  result : Outcome
  above : IsAncestor first at.run_plan.jobs place at.place.job
  is : slice_get (job_results at.run) place ≡ Some result
  apart : result ≢ Outcome.Success

missed : (first : ℕ) (at : JobAt) (s : Status) → SaysOf first at s → at.run.stop ≡ false → not (is_success_status s) ≡ true → Missed first at
missed first at Status.Success says untold h = absurd (true≢false (sym h))
missed first at Status.Failure says untold h =
    let some = says.1 in
    record { place = some.0; result = some.1; above = some.2; is = some.3; apart = λ e. true≢false (sym some.4 ∙ ap is_failure e) }
missed first at Status.Cancelled says untold h = absurd (true≢false (sym says ∙ untold))
missed first at Status.Other says untold h =
    let some = says.1 in
    record { place = some.0; result = some.1; above = some.2; is = some.3; apart = λ e. true≢false (sym some.4 ∙ ap (λ x. not (is_success x)) e) }

-- each ancestor has success under the status of success
all_succeed : (first : ℕ) (at : JobAt) (s : Status) → SaysOf first at s → is_success_status s ≡ true → EachAncestor first at is_success
all_succeed first at Status.Success says h = says.1
all_succeed first at Status.Failure says h = absurd (true≢false (sym h))
all_succeed first at Status.Cancelled says h = absurd (true≢false (sym h))
all_succeed first at Status.Other says h = absurd (true≢false (sym h))

never_shut : (fact : JobFact) → judged_to fact ≡ JobState.Shut Outcome.Success → ⊥
never_shut JobFact.Opened h = cc
never_shut JobFact.RunStopped h = cc
never_shut JobFact.Unsuccessful h = cc
never_shut JobFact.Untrue h = cc
never_shut (JobFact.Faulted f) h = cc

module _ (p : Plan) (es : List Entry) (a : Account) (j : ℕ) (at : JobAt) (rules : IsPlan p) (sound : SoundPlan p) (account : account_of p es ≡ Some a)
    (is_found : job_at a.plan a.board j ≡ Some at) where
  abbrev first : ℕ
  first = first_of j at

  abbrev Met : ℕ → Type 0
  Met k = IsMetFirst first at.run_plan.jobs (job_results at.run) k at.place.job

  is : job_at p a.board j ≡ Some at
  is = subst (λ (q : Plan). job_at q a.board j ≡ Some at) (same_plan 2 p (new_board p) _ es a account) is_found

  here : JobStands p a.board j at
  here = job_stands p a.board j at is

  -- a job of the board stands as is noted of it
  record AsNoted (n : ℕ) (job : Job) : Type 0 where
    notes : JobNotes
    there : slice_get a.notes.jobs n ≡ Some notes
    now : JobNow notes.last job.state

  as_noted : (n : ℕ) (x : JobAt) → job_at p a.board n ≡ Some x → AsNoted n x.job
  as_noted n x found =
      let z = zip-left JobAgrees a.notes.jobs (board_jobs a.board) n x.job (job_item p a.board n x found) (notes_are_made p es a account).agrees.jobs in
      record { notes = z.0; there = z.1; now = z.2 }

  -- ---- by what is noted

  module _ (note : JobNote) (fact : JobFact) (noted : job_last (slice_get a.notes.jobs j) ≡ Some note) (same : note.fact ≡ fact) where
    made : MadeAt p es note.line (Change.Job j fact)
    made = by (slice_get a.notes.jobs j) refl noted
      where
        by : (o : Option JobNotes) → slice_get a.notes.jobs j ≡ o → job_last o ≡ Some note → MadeAt p es note.line (Change.Job j fact)
        by None there h = absurd (no_some note h)
        by (Some n) there h =
            subst (λ f. MadeAt p es note.line (Change.Job j f)) same
            (subst (λ (o : Option JobNote). IfSome o (λ note. MadeAt p es note.line (Change.Job j note.fact))) h ((notes_are_made p es a account).notes.jobs j n there))

    boards : Past p made.old a.board
    boards = past p es a note.line (Change.Job j fact) rules sound account made

    was : WasJob p made.old j at
    was = was_job p made.old a.board j at boards.since is

    -- the job before it was judged
    abbrev then_at : JobAt
    then_at = record { board = made.old; place = at.place; run_plan = at.run_plan; plan = at.plan; run = was.run; job = was.job }

    in_run : slice_get made.old.runs at.place.run ≡ Some was.run
    in_run = (job_stands p made.old j then_at was.is).in_board

    old : RunFits at.run_plan was.run
    old = zip-get RunFits p.runs made.old.runs at.place.run at.run_plan was.run here.in_plan in_run boards.before.laws.fits

    new : RunFits at.run_plan at.run
    new = zip-get RunFits p.runs a.board.runs at.place.run at.run_plan at.run here.in_plan here.in_board boards.now.laws.fits

    abbrev s : Status
    s = job_status first then_at

    told : judged_under then_at s ≡ fact
    told =
        let by = made_by p made.old made.entry.event (Change.Job j fact) made.among in
        let same_at : by.0 ≡ then_at = same_some by.0 then_at (sym by.1 ∙ was.is) in
        sym (ap (λ (x : JobAt). judged_under x (job_status (first_of j x) x)) same_at) ∙ sym by.3

    judges : Judging j then_at
    judges =
        let by = made_by p made.old made.entry.event (Change.Job j fact) made.among in
        judging made.old j then_at (made.new, made.reply)
        (sym (ap (judge_found made.old j) was.is)
        ∙ subst (λ e. event_row p made.old made.entry.worker e ≡ Ok (made.new, made.reply)) by.2 (accepted_event p made.old made.entry (made.new, made.reply) made.accepted))

    says : SaysOf first then_at s
    says = status_says first then_at (stands_after_needs p made.old j then_at boards.before was.is)

    state : at.job.state ≡ judged_to fact
    state =
        let x = as_noted j at is in
        let last : x.notes.last ≡ Some note = sym (ap job_last x.there) ∙ noted in
        subst (λ (o : Option JobNote). JobNow o at.job.state) last x.now ∙ ap judged_to same

    asked_is : (result : Outcome) → at.job.state ≡ JobState.Shut result
        → causes a (Question.Job j) ≡ shut_asked (first_number at) at (Some (record { line = note.line; fact = fact }))
    asked_is result shut =
        ap (job_asked a j) is_found
        ∙ ap (job_state_asked at (slice_get a.notes.jobs j)) shut
        ∙ ap (shut_asked (first_number at) at) noted
        ∙ ap (λ (f : JobFact). shut_asked (first_number at) at (Some (record { line = note.line; fact = f }))) same

    size : length at.run.jobs ≡ length at.run_plan.jobs
    size =
        sym (zip-length JobShape at.run_plan.jobs at.run.jobs
        (zip-get RunShape p.runs a.board.runs at.place.run at.run_plan at.run here.in_plan here.in_board boards.now.shape))

    number : first_number at ≡ first
    number = ap (λ n. n - at.place.job) (is_numbered_in p a.board j at boards.now is).number

    -- all that is met first is asked about, and nothing else
    names_met : causes a (Question.Job j) ≡ map Question.Job (first_unsuccessful (first_number at) at) → NamesFirstAbove a j at
    names_met asks =
        let back = (stands_after_needs p a.board j at boards.now is).back in
        let all : causes a (Question.Job j) ≡ map Question.Job (first_unsuccessful first at) = asks ∙ ap (λ n. map Question.Job (first_unsuccessful n at)) number in
        record {
          all = λ k met. subst (λ qs. Contains qs (Question.Job (first + k))) (sym all)
              (contains_map Question.Job (first_unsuccessful first at) (first + k) (first_found first at back size here.plan k met));
          alone = λ q there.
              let x = mapped_from Question.Job (first_unsuccessful first at) q (subst (λ qs. Contains qs q) all there) in
              let found = found_first first at back size here.plan x.0 x.1 in
              (found.0, found.1, x.2 ∙ ap Question.Job found.2);
        }

    -- where the status was none of success, somebody is met
    some_met : was.run.stop ≡ false → not (is_success_status s) ≡ true → (k : ℕ) × Met k
    some_met untold unsuccessful =
        let x = missed first then_at s says untold unsuccessful in
        let job = with_result was.run x.place x.result x.is in
        let both = beside at.run_plan was.run at.run x.place job.job job.is was.stays old new in
        let stayed = stays_unsuccessful was.run at.run job.job both.job both.planned both.planned judges.going both.old both.new both.stays (λ e. x.apart (sym job.same ∙ e)) in
        let many : length (job_results at.run) ≡ length at.run_plan.jobs = length-map at.run.jobs (job_result at.run) ∙ size in
        met_on_the_way first at.run_plan.jobs (job_results at.run) many (job_result at.run both.job) x.above
        (map-get (job_result at.run) at.run.jobs x.place both.job both.there) stayed.unsuccessful

    -- where it was success, nobody is
    nobody_met : is_success_status s ≡ true → (k : ℕ) → Met k → ⊥
    nobody_met success k met =
        none_met first at.run_plan was.run at.run was.stays (going-unclosed was.run.state judges.going) old new opened unshut met
        (all_needs_ended first was.run at.run_plan.jobs at.place.job at.plan here.plan judges.ended) (all_succeed first then_at s says success)
      where
        opened : (m : ℕ) (x : Job) (planned : JobPlan) → slice_get was.run.jobs m ≡ Some x → slice_get at.run_plan.jobs m ≡ Some planned → is_open x.state ≡ true
            → needs_have_ended first was.run planned ≡ true
        opened m x planned there is_planned open_now =
            let place : first + m - m ≡ first = omega arith in
            subst (λ n. needs_have_ended n was.run planned ≡ true) place
            (boards.before.laws.needs (first + m) (job_beside made.old then_at m planned x) (beside_found p made.old j then_at m planned x was.is is_planned there) open_now)

        unshut : (m : ℕ) (y : Job) (planned : JobPlan) → slice_get at.run.jobs m ≡ Some y → slice_get at.run_plan.jobs m ≡ Some planned → y.state ≢ JobState.Shut Outcome.Success
        unshut m y planned there is_planned shut =
            let n = as_noted (first + m) (job_beside a.board at m planned y) (beside_found p a.board j at m planned y is is_planned there) in
            by n.notes.last (subst (JobNow n.notes.last) shut n.now)
          where
            by : (last : Option JobNote) → JobNow last (JobState.Shut Outcome.Success) → ⊥
            by None k = cc
            by (Some x) k = never_shut x.fact (sym k)

  -- ---- both

  pub waited_in_vain : (note : JobNote) → job_last (slice_get a.notes.jobs j) ≡ Some note → note.fact ≡ JobFact.Unsuccessful → WaitedInVain a j at
  waited_in_vain note noted same =
      let fact = JobFact.Unsuccessful in
      let skipped = state note fact noted same in
      let why = vain _ (waits_in_vain at.plan.condition (s note fact noted same)) _ (told note fact noted same) in
      let unsuccessful = and-right (waits_for_success at.plan.condition) (not (is_success_status (s note fact noted same))) why.1 in
      let met = some_met note fact noted same why.0 unsuccessful in
      record {
        skipped = skipped;
        waits = and-left (waits_for_success at.plan.condition) (not (is_success_status (s note fact noted same))) why.1;
        some = some_there (causes a (Question.Job j)) (Question.Job (first + met.0))
            ((names_met note fact noted same (asked_is note fact noted same Outcome.Skipped skipped)).all met.0 met.1);
      }

  pub names_first : at.job.state ≡ JobState.Shut Outcome.Skipped → waits_for_success at.plan.condition ≡ true → NamesFirstAbove a j at
  names_first skipped waits =
      let x = as_noted j at is in
      by_last x.notes.last (ap job_last x.there) (subst (JobNow x.notes.last) skipped x.now)
    where
      -- a condition that waits for success, and did not wait in vain
      success : (w t : Bool) → w ≡ true → (w && not t) ≡ false → t ≡ true
      success true true e h = refl
      success true false e h = absurd (true≢false h)
      success false t e h = absurd (true≢false (sym e))

      by_fact : (note : JobNote) (fact : JobFact) → job_last (slice_get a.notes.jobs j) ≡ Some note → note.fact ≡ fact → JobState.Shut Outcome.Skipped ≡ judged_to fact → NamesFirstAbove a j at
      by_fact note JobFact.Opened noted same e = cc
      by_fact note JobFact.RunStopped noted same e = cc
      by_fact note JobFact.Unsuccessful noted same e =
          names_met note JobFact.Unsuccessful noted same (asked_is note JobFact.Unsuccessful noted same Outcome.Skipped skipped)
      by_fact note JobFact.Untrue noted same e =
          let asks = asked_is note JobFact.Untrue noted same Outcome.Skipped skipped in
          let why = not_vain _ (waits_in_vain at.plan.condition (s note JobFact.Untrue noted same)) _ (told note JobFact.Untrue noted same) in
          let nobody = nobody_met note JobFact.Untrue noted same (success (waits_for_success at.plan.condition) (is_success_status (s note JobFact.Untrue noted same)) waits why.1) in
          record {
            all = λ k met. absurd (nobody k met);
            alone = λ q there. absurd (contains_none q (subst (λ qs. Contains qs q) asks there));
          }
      by_fact note (JobFact.Faulted f) noted same e = cc

      by_last : (last : Option JobNote) → job_last (slice_get a.notes.jobs j) ≡ last → JobNow last (JobState.Shut Outcome.Skipped) → NamesFirstAbove a j at
      by_last None noted e = cc
      by_last (Some note) noted e = by_fact note note.fact noted refl e

  pub names_stop : at.job.state ≡ JobState.Shut Outcome.Cancelled → NamesStop a j at
  names_stop cancelled =
      let x = as_noted j at is in
      by_last x.notes.last (ap job_last x.there) (subst (JobNow x.notes.last) cancelled x.now)
    where
      by_fact : (note : JobNote) (fact : JobFact) → job_last (slice_get a.notes.jobs j) ≡ Some note → note.fact ≡ fact → JobState.Shut Outcome.Cancelled ≡ judged_to fact → NamesStop a j at
      by_fact note JobFact.Opened noted same e = cc
      by_fact note JobFact.RunStopped noted same e =
          let stop = run_stopped _ (waits_in_vain at.plan.condition (s note JobFact.RunStopped noted same)) _ (told note JobFact.RunStopped noted same) in
          record {
            told = (boards note JobFact.RunStopped noted same).told at.place.run (was note JobFact.RunStopped noted same).run at.run (in_run note JobFact.RunStopped noted same) here.in_board stop;
            named = asked_is note JobFact.RunStopped noted same Outcome.Cancelled cancelled;
          }
      by_fact note JobFact.Unsuccessful noted same e = cc
      by_fact note JobFact.Untrue noted same e = cc
      by_fact note (JobFact.Faulted f) noted same e = cc

      by_last : (last : Option JobNote) → job_last (slice_get a.notes.jobs j) ≡ last → JobNow last (JobState.Shut Outcome.Cancelled) → NamesStop a j at
      by_last None noted e = cc
      by_last (Some note) noted e = by_fact note note.fact noted refl e
