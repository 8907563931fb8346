-- A change of a board that is noted leaves notes that agree with the board.
use Rattle.std.proofs.Common.{◌≡◌, ℕ, zero, suc, ◌+◌, ◌-◌, ◌<◌, arith, Bool, true, false, List, [], ◌∷◌, ◌++◌, Option, Some, None, length, map, slice_get, is_some, if◌then◌else◌, ap, subst, sym, refl, ◌∙◌}
use Rattle.std.specs.List.{flat_map, AllZip}
use Rattle.std.proofs.lemmas.List.{map-append}
use Rattle.std.proofs.lemmas.Option.{slice_get_within}
use Rattle.status_table.specs.Words.{Board, DoneStep, Each, Job, JobAt, JobState, Leg, LegAt, LegPlace, LegState, Member, Outcome, Plan, Run, RunState, admitted, board_jobs, board_legs, cancelled, changed, closed, dropped, first_place, is_failure, job_at, leg_changed, leg_place, passed_on, step_done, stopped, waits, with_job, with_leg, with_numbered_leg, with_run}
use Rattle.why_facts.specs.Notes as spec
use Rattle.why_facts.specs.Notes.{noted}
use Rattle.why_facts.specs.declared.fact.Change.{Change}
use Rattle.why_facts.specs.declared.fact.JobFact.{JobFact}
use Rattle.why_facts.specs.declared.fact.MemberFact.{MemberFact}
use Rattle.why_facts.specs.declared.fact.StepFact.{StepFact}
use Rattle.why_facts.specs.declared.fact.Teller.{Teller}
use Rattle.why_facts.specs.declared.notes.JobNotes.{JobNotes}
use Rattle.why_facts.specs.declared.notes.LegNotes.{LegNotes}
use Rattle.why_facts.specs.declared.notes.MemberNote.{MemberNote}
use Rattle.why_facts.specs.declared.notes.Notes.{Notes}
use Rattle.why_facts.specs.declared.notes.RunNotes.{RunNotes}
use Rattle.why_facts.specs.declared.notes.StepNote.{StepNote}
use Rattle.why_facts.specs.declared.notes.StopNote.{StopNote}
use Rattle.why_notes.specs.Laws.{judged_to}
use Rattle.why_causes.specs.Agrees.{Agrees, FailureIs, JobAgrees, JobNow, LegAgrees, LegNow, LegStill, ResultIs, ResultNow, RunAgrees}
use Rattle.why_causes.specs.Stands.{RunIs, outcome_told}
use Rattle.why_causes.proofs.Members.{KeepsJobs, job_legs}
use Rattle.status_table.proofs.Found.{JobStands, LegStands, job_stands, leg_item}
use Rattle.status_table.proofs.Lists.{changed-cons, changed-left, changed-right, flat_map-kept, flat_map-twice, zip-changed}
use Rattle.board_decisions.proofs.Lists.{no_some, same_some}
use Rattle.status_table.proofs.Numbers.{jobs_before, jobs_of, number_of_job, numbered_leg-changed}
use Rattle.status_table.proofs.Turns.{run_legs}
use Rattle.status_table.proofs.Turnover.{numbered}

-- ---- two lists side by side

-- each with an item changed
zip_both : {A B : Type 0} (R : A → B → Type 0) (ps : List A) (xs : List B) (i : ℕ) (f : A → A) (g : B → B)
    → ((q : A) (x : B) → slice_get ps i ≡ Some q → slice_get xs i ≡ Some x → R q x → R (f q) (g x)) → AllZip R ps xs → AllZip R (changed ps i f) (changed xs i g)
zip_both R [] [] i f g keep h = tt
zip_both R [] (x ∷ xs) i f g keep h = absurd h
zip_both R (q ∷ ps) [] i f g keep h = absurd h
zip_both R (q ∷ ps) (x ∷ xs) zero f g keep h = (keep q x refl refl h.0, h.1)
zip_both {A} {B} R (q ∷ ps) (x ∷ xs) (suc i) f g keep h =
    subst (λ (qs : List A). AllZip R qs (changed (x ∷ xs) (suc i) g)) (sym (changed-cons q ps i f))
    (subst (λ (ys : List B). AllZip R (q ∷ changed ps i f) ys) (sym (changed-cons x xs i g)) (h.0, zip_both R ps xs i f g keep h.1))

-- the states of jobs
abbrev states : List Job → List JobState
states jobs = flat_map (λ job. job.state ∷ []) jobs

head_same : {T : Type 0} (x y : T) (xs ys : List T) → x ∷ xs ≡ y ∷ ys → x ≡ y
head_same x y xs ys e = cc

tail_same : {T : Type 0} (x y : T) (xs ys : List T) → x ∷ xs ≡ y ∷ ys → xs ≡ ys
tail_same x y xs ys e = cc

-- jobs in the same states agree with the same notes
same_states : (ns : List JobNotes) (js ks : List Job) → states ks ≡ states js → AllZip JobAgrees ns js → AllZip JobAgrees ns ks
same_states [] [] [] e h = tt
same_states [] [] (k ∷ ks) e h = cc
same_states [] (j ∷ js) ks e h = absurd h
same_states (n ∷ ns) [] ks e h = absurd h
same_states (n ∷ ns) (j ∷ js) [] e h = cc
same_states (n ∷ ns) (j ∷ js) (k ∷ ks) e h =
    (subst (JobNow n.last) (sym (head_same k.state j.state (states ks) (states js) e)) h.0, same_states ns js ks (tail_same k.state j.state (states ks) (states js) e) h.1)

-- ---- boards

same_agrees : (b c : Board) (notes : Notes) → c.runs ≡ b.runs → Agrees b notes → Agrees c notes
same_agrees b c notes same h = record {
  runs = subst (AllZip RunAgrees notes.runs) (sym same) h.runs;
  jobs = subst (λ (runs : List Run). AllZip JobAgrees notes.jobs (board_jobs (record b { runs = runs }))) (sym same) h.jobs;
  legs = subst (λ (runs : List Run). AllZip LegAgrees notes.legs (board_legs (record b { runs = runs }))) (sym same) h.legs;
}

-- a run is changed, but not its jobs
run_agrees : (b : Board) (notes : Notes) (r : ℕ) (f : Run → Run) (g : RunNotes → RunNotes) → KeepsJobs f
    → ((n : RunNotes) (run : Run) → slice_get notes.runs r ≡ Some n → slice_get b.runs r ≡ Some run → RunAgrees n run → RunAgrees (g n) (f run))
    → Agrees b notes → Agrees (with_run b r f) (record notes { runs = changed notes.runs r g })
run_agrees b notes r f g jobs keep h = record {
  runs = zip_both RunAgrees notes.runs b.runs r g f keep h.runs;
  jobs = subst (AllZip JobAgrees notes.jobs) (sym (flat_map-kept (λ (run : Run). run.jobs) b.runs r f jobs)) h.jobs;
  legs = subst (AllZip LegAgrees notes.legs) (sym (run_legs b r f jobs)) h.legs;
}

-- a leg is changed
leg_agrees : (b : Board) (notes : Notes) (l : ℕ) (f : Leg → Leg) (g : LegNotes → LegNotes)
    → ((n : LegNotes) (leg : Leg) → slice_get notes.legs l ≡ Some n → slice_get (board_legs b) l ≡ Some leg → LegAgrees n leg → LegAgrees (g n) (f leg))
    → Agrees b notes → Agrees (with_numbered_leg b l f) (record notes { legs = changed notes.legs l g })
leg_agrees b notes l f g keep h = record {
  runs = runs (leg_place b l);
  jobs = same_states notes.jobs (board_jobs b) (board_jobs (with_numbered_leg b l f)) (jobs (leg_place b l)) h.jobs;
  legs = subst (AllZip LegAgrees (changed notes.legs l g)) (sym (numbered_leg-changed b l f)) (zip_both LegAgrees notes.legs (board_legs b) l g f keep h.legs);
}
  where
    in_job : LegPlace → Job → Job
    in_job at job = record job { legs = changed job.legs at.leg f }

    in_run : LegPlace → Run → Run
    in_run at run = record run { jobs = changed run.jobs at.job (λ job. record job { legs = changed job.legs at.leg f }) }

    runs : (found : Option LegPlace) → AllZip RunAgrees notes.runs (leg_changed b.runs found f)
    runs None = h.runs
    runs (Some at) = zip-changed RunAgrees notes.runs b.runs at.run (in_run at) (λ n run _ _ a. record { state = a.state; told = a.told }) h.runs

    jobs : (found : Option LegPlace) → states (board_jobs (record b { runs = leg_changed b.runs found f })) ≡ states (board_jobs b)
    jobs None = refl
    jobs (Some at) =
        flat_map-twice (λ (run : Run). run.jobs) (λ (job : Job). job.state ∷ []) (changed b.runs at.run (in_run at))
        ∙ flat_map-kept (λ (run : Run). states run.jobs) b.runs at.run (in_run at) (λ run. flat_map-kept (λ (job : Job). job.state ∷ []) run.jobs at.job (in_job at) (λ job. refl))
        ∙ sym (flat_map-twice (λ (run : Run). run.jobs) (λ (job : Job). job.state ∷ []) b.runs)

-- a leg is changed at its place
put_agrees : (p : Plan) (b : Board) (notes : Notes) (l : ℕ) (at : LegAt) (f : Leg → Leg) (g : LegNotes → LegNotes) → LegStands p b l at
    → ((n : LegNotes) (leg : Leg) → slice_get notes.legs l ≡ Some n → slice_get (board_legs b) l ≡ Some leg → LegAgrees n leg → LegAgrees (g n) (f leg))
    → Agrees b notes → Agrees (with_leg b at.place f) (record notes { legs = changed notes.legs l g })
put_agrees p b notes l at f g stands keep h =
    same_agrees (with_numbered_leg b l f) (with_leg b at.place f) (record notes { legs = changed notes.legs l g }) (sym (numbered b l at.place f stands.place)) (leg_agrees b notes l f g keep h)

-- all jobs where one of a run is changed
jobs_changed : (runs : List Run) (i k : ℕ) (run : Run) (f : Job → Job) → slice_get runs i ≡ Some run → k < length run.jobs
    → jobs_of (changed runs i (λ run. record run { jobs = changed run.jobs k f })) ≡ changed (jobs_of runs) (jobs_before i runs + k) f
jobs_changed [] i k run f is lt = absurd (no_some run is)
jobs_changed (x ∷ runs) zero k run f is lt =
    let within : k < length x.jobs = subst (λ (run : Run). k < length run.jobs) (sym (same_some x run is)) lt in
    let none : 0 + k ≡ k = omega arith in
    sym (changed-left x.jobs (jobs_of runs) k f within) ∙ ap (λ n. changed (x.jobs ++ jobs_of runs) n f) (sym none)
jobs_changed (x ∷ runs) (suc i) k run f is lt =
    let past : length x.jobs + jobs_before i runs + k - length x.jobs ≡ jobs_before i runs + k = omega arith in
    ap jobs_of (changed-cons x runs i (λ run. record run { jobs = changed run.jobs k f }))
    ∙ ap (λ js. x.jobs ++ js) (jobs_changed runs i k run f is lt ∙ ap (λ n. changed (jobs_of runs) n f) (sym past))
    ∙ sym (changed-right x.jobs (jobs_of runs) (length x.jobs + jobs_before i runs + k) f (omega arith))

-- a job has the state of what is noted of it
pub judged_agrees : (p : Plan) (b : Board) (notes : Notes) (j : ℕ) (at : JobAt) (state : JobState) (fact : JobFact) (line : ℕ) → job_at p b j ≡ Some at → state ≡ judged_to fact
    → Agrees b notes → Agrees (with_job b at.place (λ job. record job { state = state })) (noted line notes (Change.Job j fact))
judged_agrees p b notes j at state fact line is judged h = record {
  runs = zip-changed RunAgrees notes.runs b.runs at.place.run (λ run. record run { jobs = changed run.jobs at.place.job (λ job. record job { state = state }) })
      (λ n run _ _ a. record { state = a.state; told = a.told }) h.runs;
  jobs = subst (AllZip JobAgrees (changed notes.jobs j (λ job. record job { last = Some (record { line = line; fact = fact }) }))) (sym all)
      (zip_both JobAgrees notes.jobs (board_jobs b) j (λ job. record job { last = Some (record { line = line; fact = fact }) }) (λ job. record job { state = state }) (λ n job _ _ _. judged) h.jobs);
  legs = subst (AllZip LegAgrees notes.legs) (sym (job_legs b at.place (λ job. record job { state = state }) (λ job. refl))) h.legs;
}
  where
    here : JobStands p b j at
    here = job_stands p b j at is

    all : board_jobs (with_job b at.place (λ job. record job { state = state })) ≡ changed (board_jobs b) j (λ job. record job { state = state })
    all =
        jobs_changed b.runs at.place.run at.place.job at.run (λ job. record job { state = state }) here.in_board (slice_get_within at.run.jobs at.place.job at.job here.job)
        ∙ ap (λ n. changed (board_jobs b) n (λ job. record job { state = state })) (sym (number_of_job b j at.place here.place))

-- ---- the changes of members

pub waits_agrees : (b : Board) (notes : Notes) (name : List ℕ) (m holds : Member) (line : ℕ) → Agrees b notes
    → Agrees (waits b name m) (noted line notes (Change.Member m (MemberFact.Waits holds)))
waits_agrees b notes name (Member.Run r) holds line =
    run_agrees b notes r (λ run. record run { state = RunState.Waiting; group = Some name }) (λ run. record run { last = Some (record { line = line; fact = MemberFact.Waits holds }) })
    (λ run. refl) (λ n run _ _ a. record { state = refl; told = a.told })
waits_agrees b notes name (Member.Leg l) holds line =
    leg_agrees b notes l (λ leg. record leg { state = LegState.Waiting; group = Some name }) (λ leg. record leg { last = Some (record { line = line; fact = MemberFact.Waits holds }) })
    (λ n leg _ _ a. record { state = refl; told = a.told; steps = a.steps; result = tt; failures = a.failures })

pub admitted_agrees : (b : Board) (notes : Notes) (name : Option (List ℕ)) (m : Member) (line : ℕ) → Agrees b notes
    → Agrees (admitted b name m) (noted line notes (Change.Member m MemberFact.Admitted))
admitted_agrees b notes name (Member.Run r) line =
    run_agrees b notes r (λ run. record run { state = RunState.Going; group = name }) (λ run. record run { last = Some (record { line = line; fact = MemberFact.Admitted }) })
    (λ run. refl) (λ n run _ _ a. record { state = refl; told = a.told })
admitted_agrees b notes name (Member.Leg l) line =
    leg_agrees b notes l (λ leg. record leg { state = LegState.Admitted; group = name }) (λ leg. record leg { last = Some (record { line = line; fact = MemberFact.Admitted }) })
    (λ n leg _ _ a. record { state = refl; told = a.told; steps = a.steps; result = tt; failures = a.failures })

pub passed_agrees : (b : Board) (notes : Notes) (m before : Member) (line : ℕ) → Agrees b notes
    → Agrees (passed_on b (Some m)) (noted line notes (Change.Member m (MemberFact.Follows before)))
passed_agrees b notes (Member.Run r) before line =
    run_agrees b notes r (λ run. record run { state = RunState.Going }) (λ run. record run { last = Some (record { line = line; fact = MemberFact.Follows before }) })
    (λ run. refl) (λ n run _ _ a. record { state = refl; told = a.told })
passed_agrees b notes (Member.Leg l) before line =
    leg_agrees b notes l (λ leg. record leg { state = LegState.Admitted }) (λ leg. record leg { last = Some (record { line = line; fact = MemberFact.Follows before }) })
    (λ n leg _ _ a. record { state = refl; told = a.told; steps = a.steps; result = tt; failures = a.failures })

pub closed_agrees : (b : Board) (notes : Notes) (r : ℕ) (result : Outcome) (fact : MemberFact) (line : ℕ) → RunIs fact (RunState.Closed result) → Agrees b notes
    → Agrees (closed b r result) (noted line notes (Change.Member (Member.Run r) fact))
closed_agrees b notes r result fact line is =
    run_agrees b notes r (λ run. record run { state = RunState.Closed result }) (λ run. record run { last = Some (record { line = line; fact = fact }) })
    (λ run. refl) (λ n run _ _ a. record { state = is; told = a.told })

pub dropped_agrees : (b : Board) (notes : Notes) (l : ℕ) (result : Outcome) (fact : MemberFact) (line : ℕ) → LegStill fact (LegState.Ended result false)
    → ((steps : List DoneStep) → ResultIs fact steps) → Agrees b notes → Agrees (dropped b l result) (noted line notes (Change.Member (Member.Leg l) fact))
dropped_agrees b notes l result fact line is unfinished h =
    same_agrees (with_numbered_leg b l (λ leg. record leg { state = LegState.Ended result false })) (dropped b l result) (noted line notes (Change.Member (Member.Leg l) fact)) refl
    (leg_agrees b notes l (λ leg. record leg { state = LegState.Ended result false }) (λ leg. record leg { last = Some (record { line = line; fact = fact }) })
    (λ n leg _ _ a. record { state = is; told = a.told; steps = a.steps; result = unfinished leg.steps; failures = a.failures }) h)

pub displaced_agrees : (b : Board) (notes : Notes) (m by : Member) (line : ℕ) → Agrees b notes → Agrees (cancelled b m) (noted line notes (Change.Member m (MemberFact.Displaced by)))
displaced_agrees b notes (Member.Run r) by line = closed_agrees b notes r Outcome.Cancelled (MemberFact.Displaced by) line refl
displaced_agrees b notes (Member.Leg l) by line = dropped_agrees b notes l Outcome.Cancelled (MemberFact.Displaced by) line refl (λ steps. tt)

-- the first teller is noted
pub first_told : (first : Option StopNote) (note : StopNote) → is_some (spec.first_of first note) ≡ true
first_told None note = refl
first_told (Some first) note = refl

pub told_agrees : (b : Board) (notes : Notes) (m : Member) (tells : Teller) (line : ℕ) → Agrees b notes → Agrees (stopped b true m) (noted line notes (Change.Stop m tells))
told_agrees b notes (Member.Run r) tells line =
    run_agrees b notes r (λ run. record run { stop = true }) (λ run. record run { stop = spec.first_of run.stop (record { line = line; teller = tells }) })
    (λ run. refl) (λ n run _ _ a. record { state = a.state; told = first_told n.stop (record { line = line; teller = tells }) })
told_agrees b notes (Member.Leg l) tells line =
    leg_agrees b notes l (λ leg. record leg { stop = true }) (λ leg. record leg { stop = spec.first_of leg.stop (record { line = line; teller = tells }) })
    (λ n leg _ _ a. record { state = a.state; told = first_told n.stop (record { line = line; teller = tells }); steps = a.steps; result = a.result; failures = a.failures })

-- ---- legs at work

same_steps : (legs : List Leg) (l : ℕ) (one other : Leg) → slice_get legs l ≡ Some one → slice_get legs l ≡ Some other → other.steps ≡ one.steps
same_steps legs l one other here there = ap (λ (leg : Leg). leg.steps) (same_some other one (sym there ∙ here))

-- a leg ends, or is taken
pub member_agrees : (p : Plan) (b : Board) (notes : Notes) (l : ℕ) (at : LegAt) (f : Leg → Leg) (fact : MemberFact) (line : ℕ) → LegStands p b l at
    → ((leg : Leg) → LegStill fact (f leg).state) → ((leg : Leg) → (f leg).stop ≡ leg.stop) → ((leg : Leg) → (f leg).steps ≡ leg.steps) → ResultIs fact at.leg.steps
    → Agrees b notes → Agrees (with_leg b at.place f) (noted line notes (Change.Member (Member.Leg l) fact))
member_agrees p b notes l at f fact line stands state stop steps result =
    put_agrees p b notes l at f (λ leg. record leg { last = Some (record { line = line; fact = fact }) }) stands (λ n leg _ there a. record {
      state = state leg;
      told = a.told ∙ sym (stop leg);
      steps = a.steps ∙ ap (map (λ (done : DoneStep). done.outcome)) (sym (steps leg));
      result = subst (ResultIs fact) (sym (same_steps (board_legs b) l at.leg leg (leg_item p b l at stands) there) ∙ sym (steps leg)) result;
      failures = subst (λ (xs : List DoneStep). Each (λ (note : StepNote). FailureIs xs note.fact) n.steps) (sym (steps leg)) a.failures;
    })

pub ends_agree : (b : Board) (notes : Notes) (ends : List ℕ) → Agrees b notes → Agrees (record b { ends = ends }) notes
ends_agree b notes ends h = same_agrees b (record b { ends = ends }) notes refl h

-- a leg at work is at work, whether in a call or not
still_taken : (fact : MemberFact) (w v : ℕ) (c d : Bool) → LegStill fact (LegState.Running w c) → LegStill fact (LegState.Running v d)
still_taken MemberFact.Admitted w v c d h = cc
still_taken (MemberFact.Waits holder) w v c d h = cc
still_taken (MemberFact.Follows before) w v c d h = cc
still_taken (MemberFact.Displaced by) w v c d h = cc
still_taken MemberFact.OwnRun w v c d h = cc
still_taken (MemberFact.NoGroup f) w v c d h = cc
still_taken (MemberFact.Closed result) w v c d h = absurd h
still_taken MemberFact.Taken w v c d h = (v, (d, refl))
still_taken (MemberFact.Finished result) w v c d h = absurd (no h.0 h.1)
  where
    no : (t : Bool) → LegState.Running w c ≡ LegState.Ended result t → ⊥
    no t e = cc
still_taken (MemberFact.Stopped cause) w v c d h = cc

-- of a leg at work no end is told
no_end : (fact : MemberFact) (w : ℕ) (c : Bool) (steps : List DoneStep) → LegStill fact (LegState.Running w c) → ResultIs fact steps
no_end MemberFact.Admitted w c steps h = tt
no_end (MemberFact.Waits holder) w c steps h = tt
no_end (MemberFact.Follows before) w c steps h = tt
no_end (MemberFact.Displaced by) w c steps h = tt
no_end MemberFact.OwnRun w c steps h = tt
no_end (MemberFact.NoGroup f) w c steps h = tt
no_end (MemberFact.Closed result) w c steps h = tt
no_end MemberFact.Taken w c steps h = tt
no_end (MemberFact.Finished result) w c steps h = absurd (no h.0 h.1)
  where
    no : (t : Bool) → LegState.Running w c ≡ LegState.Ended result t → ⊥
    no t e = cc
no_end (MemberFact.Stopped cause) w c steps h = tt

no_end_now : (last : Option MemberNote) (w : ℕ) (c : Bool) (steps : List DoneStep) → LegNow last (LegState.Running w c) → ResultNow last steps
no_end_now None w c steps h = tt
no_end_now (Some note) w c steps h = no_end note.fact w c steps h

-- what was the first to pass a test is so with an item more
first_more : {T : Type 0} (k : ℕ) (test : T → Bool) (xs : List T) (x : T) (first : ℕ) → first_place k test xs ≡ Some first → first_place k test (xs ++ x ∷ []) ≡ Some first
first_more k test [] x first h = absurd (no_some first h)
first_more {T} k test (y ∷ ys) x first h = by (test y) h (first_more (suc k) test ys x first)
  where
    by : (c : Bool) → (if c then Some k else first_place (suc k) test ys) ≡ Some first
        → (first_place (suc k) test ys ≡ Some first → first_place (suc k) test (ys ++ x ∷ []) ≡ Some first)
        → (if c then Some k else first_place (suc k) test (ys ++ x ∷ [])) ≡ Some first
    by true is later = is
    by false is later = later is

failure_more : (steps : List DoneStep) (done : DoneStep) (fact : StepFact) → FailureIs steps fact → FailureIs (steps ++ done ∷ []) fact
failure_more steps done (StepFact.AfterFailure first) h = first_more 0 (λ (step : DoneStep). is_failure step.conclusion) steps done first h
failure_more steps done (StepFact.Exited code) h = tt
failure_more steps done StepFact.NotStarted h = tt
failure_more steps done StepFact.BadOutput h = tt
failure_more steps done (StepFact.Stopping cause) h = tt
failure_more steps done StepFact.Untrue h = tt
failure_more steps done (StepFact.Faulted text f) h = tt

each_more : {T : Type 0} (P : T → Type 0) (xs : List T) (x : T) → Each P xs → P x → Each P (xs ++ x ∷ [])
each_more P [] x all one zero y is = subst P (same_some x y is) one
each_more P [] x all one (suc i) y is = absurd (no_some y is)
each_more P (z ∷ zs) x all one zero y is = all 0 y is
each_more {T} P (z ∷ zs) x all one (suc i) y is = each_more P zs x (λ k w at. all (suc k) w at) one i y is

still : (last : Option MemberNote) (w v : ℕ) (c d : Bool) → LegNow last (LegState.Running w c) → LegNow last (LegState.Running v d)
still None w v c d h = cc
still (Some note) w v c d h = still_taken note.fact w v c d h

pub called_agrees : (p : Plan) (b : Board) (notes : Notes) (l : ℕ) (at : LegAt) (owner worker line : ℕ) → LegStands p b l at → slice_get (board_legs b) l ≡ Some at.leg
    → at.leg.state ≡ LegState.Running owner false → Agrees b notes
    → Agrees (with_leg b at.place (λ leg. record leg { state = LegState.Running worker true })) (noted line notes (Change.Called l))
called_agrees p b notes l at owner worker line stands item idle =
    put_agrees p b notes l at (λ leg. record leg { state = LegState.Running worker true }) (λ leg. record leg { call = Some line }) stands (λ n leg _ is a. record {
      state = still n.last owner worker false true (subst (LegNow n.last) (ap (λ (x : Leg). x.state) (same_some leg at.leg (sym is ∙ item)) ∙ idle) a.state);
      told = a.told;
      steps = a.steps;
      result = no_end_now n.last owner false leg.steps (subst (LegNow n.last) (ap (λ (x : Leg). x.state) (same_some leg at.leg (sym is ∙ item)) ∙ idle) a.state);
      failures = a.failures;
    })

pub step_agrees : (p : Plan) (b : Board) (notes : Notes) (l : ℕ) (at : LegAt) (owner worker : ℕ) (in_call : Bool) (done : DoneStep) (fact : StepFact) (line : ℕ) → LegStands p b l at
    → slice_get (board_legs b) l ≡ Some at.leg → at.leg.state ≡ LegState.Running owner in_call → done.outcome ≡ outcome_told fact → FailureIs at.leg.steps fact → Agrees b notes
    → Agrees (step_done b at.place worker done) (noted line notes (Change.Step l fact))
step_agrees p b notes l at owner worker in_call done fact line stands item busy is failure =
    put_agrees p b notes l at (λ leg. record leg { state = LegState.Running worker false; steps = leg.steps ++ done ∷ [] })
    (λ leg. record leg { steps = leg.steps ++ (record { line = line; fact = fact }) ∷ [] }) stands (λ n leg _ there a. record {
      state = still n.last owner worker in_call false (subst (LegNow n.last) (ap (λ (x : Leg). x.state) (same_some leg at.leg (sym there ∙ item)) ∙ busy) a.state);
      told = a.told;
      steps =
          map-append (λ (note : StepNote). outcome_told note.fact) n.steps ((record { line = line; fact = fact }) ∷ [])
          ∙ ap (λ xs. xs ++ outcome_told fact ∷ []) a.steps
          ∙ ap (λ x. map (λ (done : DoneStep). done.outcome) leg.steps ++ x ∷ []) (sym is)
          ∙ sym (map-append (λ (done : DoneStep). done.outcome) leg.steps (done ∷ []));
      result = no_end_now n.last owner in_call (leg.steps ++ done ∷ []) (subst (LegNow n.last) (ap (λ (x : Leg). x.state) (same_some leg at.leg (sym there ∙ item)) ∙ busy) a.state);
      failures =
          each_more (λ (note : StepNote). FailureIs (leg.steps ++ done ∷ []) note.fact) n.steps (record { line = line; fact = fact })
          (λ i x at. failure_more leg.steps done x.fact (a.failures i x at))
          (failure_more leg.steps done fact (subst (λ (xs : List DoneStep). FailureIs xs fact) (sym (same_steps (board_legs b) l at.leg leg item there)) failure));
    })
