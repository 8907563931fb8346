-- A run that its Close ended without success names its jobs with that result, and no others.
use Rattle.std.proofs.Common.{◌≡◌, ◌≢◌, ◌⊎◌, inl, inr, ◌∙◌, ap, sym, refl, subst, ℕ, ◌+◌, arith, Bool, true, false, ◌&&◌, ◌||◌, Contains, IfSome, List, [], ◌∷◌, ◌++◌, Option, Some, None, Ok, Err, slice_get, if◌then◌else◌, true≢false}
use Rattle.std.proofs.lemmas.List.Elements.{Contains-append_right}
use Rattle.status_table.specs.Words.{Board, Entry, IsPlan, Job, JobFits, JobPlan, JobState, Member, NeedsPointBack, Outcome, Plan, Reply, Run, RunAt, RunFits, RunState, RunStays, SoundPlan, after, close_found, close_run, close_waiting, event_row, is_any_job_cancelled, is_any_job_failed, is_cancelled, is_failure, is_going, job_has_ended, job_result, jobs_have_ended, new_board, run_at, run_closes, run_result}
use Rattle.board_decisions.proofs.Lists.{and-left, and-right, no_some}
use Rattle.why_causes.proofs.Changing.{made_by}
use Rattle.why_causes.proofs.MetFirst.{contains_here, contains_none, contains_at}
use Rattle.why_causes.proofs.Noting.{accepted_event, notes_are_made}
use Rattle.why_causes.proofs.Staying.{some_passes, stays_unsuccessful}
use Rattle.why_causes.specs.Causes.{causes, counts, first_job, is_judged, job_sought, jobs_asked, run_asked, run_fact_asked, run_last, run_noted_asked, stop_asked}
use Rattle.why_causes.specs.Endings.{HasResult, NamesJobsOfResult, ClosedFor}
use Rattle.why_causes.specs.Made.{MadeAt}
use Rattle.why_causes.specs.declared.question.Question.{Question}
use Rattle.why_causes.specs.declared.sought.Sought.{Sought}
use Rattle.why_facts.specs.declared.fact.Change.{Change}
use Rattle.why_facts.specs.declared.notes.MemberNote.{MemberNote}
use Rattle.why_facts.specs.declared.notes.RunNotes.{RunNotes}
use Rattle.why_notes.specs.Account.{Account, account_of}
use Rattle.why_notes.specs.Changes.{closing}
use Rattle.status_table.specs.declared.fault.EventFault.{EventFault}
use Rattle.status_table.proofs.Counts.{zip-left}
use Rattle.status_table.proofs.Found.{RunStands, run_stands}
use Rattle.status_table.proofs.Lists.{all-get, zip-get}
use Rattle.why_causes.proofs.Past.{Past, beside, past, same_plan}
use Rattle.why_causes.proofs.Obstacles.{asked_item, item_asked}
use Rattle.why_causes.specs.Agrees.{RunAgrees, RunNow}
use Rattle.why_causes.specs.Stands.{RunIs}
use Rattle.why_facts.specs.declared.fact.MemberFact.{MemberFact}

-- ---- lists of questions

pub some_there : {T : Type 0} (xs : List T) (x : T) → Contains xs x → xs ≢ []
some_there xs x there e = contains_none x (subst (λ ys. Contains ys x) e there)

-- ---- a run that is closed

-- A run is closed that was told to stop before it was Going; or one that was Going, since its jobs have ended.
abbrev ClosedSo : Run → Outcome → Type 0
ClosedSo run result = ((run.stop ≡ true) × (result ≡ Outcome.Cancelled)) ⊎ ((is_going run.state ≡ true) × (jobs_have_ended run ≡ true) × (result ≡ run_result run))

closes : (old : Board) (r : ℕ) (run : Run) (x : Board × Reply) (result : Outcome) → close_run old r run run.state ≡ Ok x → result ≡ closing run.state run → ClosedSo run result
closes old r run x result accepted is = by run.state refl accepted is
  where
    stopped : (stop : Bool) → run.stop ≡ stop → close_waiting old r run stop ≡ Ok x → result ≡ Outcome.Cancelled → ClosedSo run result
    stopped true told k e = inl (told, e)
    stopped false told k e = cc

    going : (ended : Bool) → is_going run.state ≡ true → jobs_have_ended run ≡ ended → (if ended then run_closes old r run (run_result run) else Err EventFault.NeedsOpen) ≡ Ok x
        → result ≡ run_result run → ClosedSo run result
    going true goes h k e = inr (goes, h, e)
    going false goes h k e = cc

    by : (s : RunState) → run.state ≡ s → close_run old r run s ≡ Ok x → result ≡ closing s run → ClosedSo run result
    by RunState.New same k e = stopped run.stop refl k e
    by RunState.Waiting same k e = stopped run.stop refl k e
    by RunState.Going same k e = going (jobs_have_ended run) (ap is_going same) refl k e
    by (RunState.Closed y) same k e = cc

-- the numbers of a run's jobs follow the first
follows_first : (jobs : List JobPlan) (n k : ℕ) (job : JobPlan) → ((i : ℕ) (x : JobPlan) → slice_get jobs i ≡ Some x → x.number ≡ n + i) → slice_get jobs k ≡ Some job
    → job.number ≡ first_job jobs + k
follows_first [] n k job all is = absurd (no_some job is)
follows_first (x ∷ xs) n k job all is = let first = all 0 x refl in let here = all k job is in omega (arith, first, here)

is_judged_of : (s : JobState) → s ≢ JobState.Unjudged → is_judged s ≡ true
is_judged_of JobState.Unjudged apart = absurd (apart refl)
is_judged_of JobState.Open apart = refl
is_judged_of (JobState.Shut result) apart = refl

judged_of : (s : JobState) → is_judged s ≡ true → s ≢ JobState.Unjudged
judged_of s h e = true≢false (sym h ∙ ap is_judged e)

counts_of : (result x : Outcome) → result ≢ Outcome.Success → result ≢ Outcome.Skipped → x ≡ result → counts result x ≡ true
counts_of Outcome.Success x apart other e = absurd (apart refl)
counts_of Outcome.Failure x apart other e = ap is_failure e
counts_of Outcome.Cancelled x apart other e = ap is_cancelled e
counts_of Outcome.Skipped x apart other e = absurd (other refl)

a_failure : (x : Outcome) → is_failure x ≡ true → x ≡ Outcome.Failure
a_failure Outcome.Success h = absurd (true≢false (sym h))
a_failure Outcome.Failure h = refl
a_failure Outcome.Cancelled h = absurd (true≢false (sym h))
a_failure Outcome.Skipped h = absurd (true≢false (sym h))

a_cancellation : (x : Outcome) → is_cancelled x ≡ true → x ≡ Outcome.Cancelled
a_cancellation Outcome.Success h = absurd (true≢false (sym h))
a_cancellation Outcome.Failure h = absurd (true≢false (sym h))
a_cancellation Outcome.Cancelled h = refl
a_cancellation Outcome.Skipped h = absurd (true≢false (sym h))

of_counts : (result x : Outcome) → counts result x ≡ true → x ≡ result
of_counts Outcome.Success x h = absurd (true≢false (sym h))
of_counts Outcome.Failure x h = a_failure x h
of_counts Outcome.Cancelled x h = a_cancellation x h
of_counts Outcome.Skipped x h = absurd (true≢false (sym h))

-- the result of a run, by what its jobs and its stop flag come to
abbrev result_of : Bool → Bool → Bool → Outcome
result_of failed stop cancelled = if failed then Outcome.Failure else (if stop || cancelled then Outcome.Cancelled else Outcome.Success)

never_skipped : (failed stop cancelled : Bool) → result_of failed stop cancelled ≢ Outcome.Skipped
never_skipped true stop cancelled e = cc
never_skipped false true cancelled e = cc
never_skipped false false true e = cc
never_skipped false false false e = cc

module _ (p : Plan) (es : List Entry) (a : Account) (r : ℕ) (at : RunAt) (note : MemberNote) (result : Outcome) (rules : IsPlan p) (sound : SoundPlan p) (numbers : NeedsPointBack)
    (account : account_of p es ≡ Some a) (is : run_at a.plan a.board r ≡ Some at) (noted : run_last (slice_get a.notes.runs r) ≡ Some note)
    (fact : note.fact ≡ MemberFact.Closed result) (apart : result ≢ Outcome.Success) where
  abbrev jobs : List Question
  jobs = jobs_asked at (Sought.Counting result)

  below : causes a (Question.Run r) ≡ stop_asked (Member.Run r) (at.run.stop && is_cancelled result) ++ jobs
  below = ap (run_asked a r) is ∙ ap (run_noted_asked r at) noted ∙ ap (run_fact_asked r at) fact

  stands : RunStands p a.board r at
  stands = run_stands p a.board r at (subst (λ (q : Plan). run_at q a.board r ≡ Some at) (same_plan 2 p (new_board p) _ es a account) is)

  made : MadeAt p es note.line (Change.Member (Member.Run r) (MemberFact.Closed result))
  made = by (slice_get a.notes.runs r) refl noted
    where
      by : (o : Option RunNotes) → slice_get a.notes.runs r ≡ o → run_last o ≡ Some note → MadeAt p es note.line (Change.Member (Member.Run r) (MemberFact.Closed result))
      by None there h = absurd (no_some note h)
      by (Some n) there h =
          subst (λ f. MadeAt p es note.line (Change.Member (Member.Run r) f)) fact
          (subst (λ (o : Option MemberNote). IfSome o (λ note. MadeAt p es note.line (Change.Member (Member.Run r) note.fact))) h ((notes_are_made p es a account).notes.runs r n there).last)

  -- the board before the Close, the run there, and how it is closed
  record WasRun : Type 0 where
    run : Run
    there : slice_get made.old.runs r ≡ Some run
    closed_so : ClosedSo run result
    past : Past p made.old a.board
    stays : RunStays run at.run
    old : RunFits at.plan run
    new : RunFits at.plan at.run

  was_run : WasRun
  was_run =
      let by = made_by p made.old made.entry.event (Change.Member (Member.Run r) (MemberFact.Closed result)) made.among in
      let stood = run_stands p made.old r by.0 by.1 in
      let accepted = accepted_event p made.old made.entry (made.new, made.reply) made.accepted in
      let closed_by : close_run made.old r by.0.run by.0.run.state ≡ Ok (made.new, made.reply) =
      sym (ap (close_found made.old r) by.1) ∙ subst (λ e. event_row p made.old made.entry.worker e ≡ Ok (made.new, made.reply)) by.2 accepted in
      let boards = past p es a note.line (Change.Member (Member.Run r) (MemberFact.Closed result)) rules sound account made in
      record {
        run = by.0.run;
        there = stood.run;
        closed_so = closes made.old r by.0.run (made.new, made.reply) result closed_by by.3;
        past = boards;
        stays = zip-get RunStays made.old.runs a.board.runs r by.0.run at.run stood.run stands.run boards.since;
        old = zip-get RunFits p.runs made.old.runs r at.plan by.0.run stands.plan stood.run boards.before.laws.fits;
        new = zip-get RunFits p.runs a.board.runs r at.plan at.run stands.plan stands.run boards.now.laws.fits;
      }

  unskipped : result ≢ Outcome.Skipped
  unskipped = by was_run.closed_so
    where
      by : ClosedSo was_run.run result → result ≢ Outcome.Skipped
      by (inl told) = λ e. never_skipped false true false (sym told.1 ∙ e)
      by (inr ended) = λ e. never_skipped (is_any_job_failed was_run.run) was_run.run.stop (is_any_job_cancelled was_run.run) (sym ended.2 ∙ e)

  all : (j : ℕ) → HasResult at result j → Contains jobs (Question.Job j)
  all j h =
      let number = follows_first at.plan.jobs _ h.place h.plan (λ i x there. (numbers p rules r i at.plan x stands.plan there).0) h.planned in
      let there = item_asked Question.Job (first_job at.plan.jobs) (job_sought (Sought.Counting result) at.run) at.run.jobs h.place h.job h.there
      (rw (is_judged_of h.job.state h.judged) (counts_of result (job_result at.run h.job) apart unskipped h.came_to)) in
      subst (λ n. Contains jobs (Question.Job n)) (sym number ∙ h.numbered) (contains_at jobs there.0 (Question.Job (first_job at.plan.jobs + h.place)) there.1)

  alone : (q : Question) → Contains jobs q → (j : ℕ) × HasResult at result j × (q ≡ Question.Job j)
  alone q there =
      let x = asked_item Question.Job (first_job at.plan.jobs) (job_sought (Sought.Counting result) at.run) at.run.jobs q there in
      let plan = zip-left (JobFits at.run.state at.run.group) at.plan.jobs at.run.jobs x.place x.item x.there was_run.new in
      let number = follows_first at.plan.jobs _ x.place plan.0 (λ i y there. (numbers p rules r i at.plan y stands.plan there).0) plan.1 in (
        plan.0.number,
        record {
          place = x.place;
          plan = plan.0;
          job = x.item;
          planned = plan.1;
          numbered = refl;
          there = x.there;
          judged = judged_of x.item.state (and-left (is_judged x.item.state) (counts result (job_result at.run x.item)) x.passes);
          came_to = of_counts result (job_result at.run x.item) (and-right (is_judged x.item.state) (counts result (job_result at.run x.item)) x.passes);
        },
        x.is ∙ ap Question.Job (sym number),
      )

  -- a job that had the result has it
  has_result : (k : ℕ) (x : Job) → slice_get was_run.run.jobs k ≡ Some x → is_going was_run.run.state ≡ true → jobs_have_ended was_run.run ≡ true
      → job_result was_run.run x ≡ result → (j : ℕ) × HasResult at result j
  has_result k x there going ended same =
      let both = beside at.plan was_run.run at.run k x there was_run.stays was_run.old was_run.new in
      let stayed = stays_unsuccessful was_run.run at.run x both.job both.planned both.planned going both.old both.new both.stays (λ e. apart (sym same ∙ e)) in (
        both.planned.number,
        record {
          place = k;
          plan = both.planned;
          job = both.job;
          planned = both.is_planned;
          numbered = refl;
          there = both.there;
          judged = stayed.judged;
          came_to = both.stays.result (all-get (job_has_ended was_run.run) was_run.run.jobs k x there ended) ∙ same;
        },
      )

  some : causes a (Question.Run r) ≢ []
  some = by was_run.closed_so
    where
      stop : List Question
      stop = stop_asked (Member.Run r) (at.run.stop && is_cancelled result)

      stopped : was_run.run.stop ≡ true → result ≡ Outcome.Cancelled → causes a (Question.Run r) ≢ []
      stopped told cancelled =
          let asks : stop_asked (Member.Run r) (at.run.stop && is_cancelled result) ≡ Question.Stop (Member.Run r) ∷ [] =
          ap (λ s. stop_asked (Member.Run r) (s && is_cancelled result)) (was_run.past.told r was_run.run at.run was_run.there stands.run told)
          ∙ ap (λ x. stop_asked (Member.Run r) (true && is_cancelled x)) cancelled in
          subst (λ qs. qs ≢ []) (sym (below ∙ ap (λ qs. qs ++ jobs) asks)) (some_there (Question.Stop (Member.Run r) ∷ jobs) (Question.Stop (Member.Run r)) (contains_here (Question.Stop (Member.Run r)) jobs))

      named : (j : ℕ) × HasResult at result j → causes a (Question.Run r) ≢ []
      named x =
          subst (λ qs. qs ≢ []) (sym below)
          (some_there (stop_asked (Member.Run r) (at.run.stop && is_cancelled result) ++ jobs) (Question.Job x.0)
          (Contains-append_right (stop_asked (Member.Run r) (at.run.stop && is_cancelled result)) jobs (Question.Job x.0) (all x.0 x.1)))

      by_jobs : is_going was_run.run.state ≡ true → jobs_have_ended was_run.run ≡ true → (failed told cancelled : Bool) → is_any_job_failed was_run.run ≡ failed
          → was_run.run.stop ≡ told → is_any_job_cancelled was_run.run ≡ cancelled → result ≡ result_of failed told cancelled → causes a (Question.Run r) ≢ []
      by_jobs going ended true told cancelled f t c e =
          let x = some_passes (λ job. is_failure (job_result was_run.run job)) was_run.run.jobs f in
          named (has_result x.place x.item x.is going ended (a_failure (job_result was_run.run x.item) x.passes ∙ sym e))
      by_jobs going ended false true cancelled f t c e = stopped t e
      by_jobs going ended false false true f t c e =
          let x = some_passes (λ job. is_cancelled (job_result was_run.run job)) was_run.run.jobs c in
          named (has_result x.place x.item x.is going ended (a_cancellation (job_result was_run.run x.item) x.passes ∙ sym e))
      by_jobs going ended false false false f t c e = absurd (apart e)

      by : ClosedSo was_run.run result → causes a (Question.Run r) ≢ []
      by (inl told) = stopped told.0 told.1
      by (inr ended) =
          by_jobs ended.0 ended.1 (is_any_job_failed was_run.run) was_run.run.stop (is_any_job_cancelled was_run.run) refl refl refl ended.2

  names_jobs : NamesJobsOfResult a r at result
  names_jobs = record { jobs = jobs; below = below; all = all; alone = alone; some = some }

-- ---- all runs that are closed

same_closed : (x y : Outcome) → RunState.Closed x ≡ RunState.Closed y → x ≡ y
same_closed x y e = cc

module _ (p : Plan) (es : List Entry) (a : Account) (r : ℕ) (at : RunAt) (result : Outcome) (rules : IsPlan p) (sound : SoundPlan p) (numbers : NeedsPointBack)
    (account : account_of p es ≡ Some a) (is : run_at a.plan a.board r ≡ Some at) (ended : at.run.state ≡ RunState.Closed result) (apart : result ≢ Outcome.Success) where
  for_fact : (note : MemberNote) (fact : MemberFact) → run_last (slice_get a.notes.runs r) ≡ Some note → note.fact ≡ fact → RunIs fact at.run.state
      → ClosedFor fact result (NamesJobsOfResult a r at result)
  for_fact note MemberFact.Admitted noted same so = cc
  for_fact note (MemberFact.Waits holder) noted same so = cc
  for_fact note (MemberFact.Follows before) noted same so = cc
  for_fact note (MemberFact.Displaced by) noted same so = same_closed result Outcome.Cancelled (sym ended ∙ so)
  for_fact note MemberFact.OwnRun noted same so = absurd so
  for_fact note (MemberFact.NoGroup f) noted same so = same_closed result Outcome.Failure (sym ended ∙ so)
  for_fact note (MemberFact.Closed how) noted same so =
      let is_how = same_closed how result (sym so ∙ ended) in
      (is_how, names_jobs p es a r at note result rules sound numbers account is noted (same ∙ ap MemberFact.Closed is_how) apart)
  for_fact note MemberFact.Taken noted same so = absurd so
  for_fact note (MemberFact.Finished how) noted same so = absurd so
  for_fact note (MemberFact.Stopped cause) noted same so = absurd so

  pub closed_for : (note : MemberNote) × (run_last (slice_get a.notes.runs r) ≡ Some note) × ClosedFor note.fact result (NamesJobsOfResult a r at result)
  closed_for =
      let there = (run_stands a.plan a.board r at is).run in
      let x = zip-left RunAgrees a.notes.runs a.board.runs r at.run there (notes_are_made p es a account).agrees.runs in
      by x.0.last (ap run_last x.1) x.2.state
    where
      by : (last : Option MemberNote) → run_last (slice_get a.notes.runs r) ≡ last → RunNow last at.run.state
          → (note : MemberNote) × (run_last (slice_get a.notes.runs r) ≡ Some note) × ClosedFor note.fact result (NamesJobsOfResult a r at result)
      by None noted so = cc
      by (Some note) noted so = (note, noted, for_fact note note.fact noted refl so)
