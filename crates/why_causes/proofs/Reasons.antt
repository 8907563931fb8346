-- Runs that wait, legs and steps name what made them so, and nothing else.
use Rattle.std.proofs.Common.{◌≡◌, ◌∙◌, ap, sym, refl, subst, ℕ, zero, suc, ◌+◌, ◌≤◌, ◌<◌, arith, Bool, true, false, not, ◌&&◌, ◌||◌, IfSome, List, [], ◌∷◌, ◌++◌, length, Option, Some, None, slice_get, if◌then◌else◌, true≢false}
use Rattle.std.specs.List.{list_any}
use Rattle.std.proofs.lemmas.List.{length-map}
use Rattle.std.proofs.lemmas.Option.{slice_get_within}
use Rattle.status_table.specs.Words.{DoneStep, Entry, IsPlan, LegAt, LegState, Member, Outcome, Plan, RunAt, RunState, SoundPlan, board_legs, first_place, is_failure, is_going, is_open, leg_at, run_at}
use Rattle.status_table.proofs.Counts.{zip-left}
use Rattle.status_table.proofs.Found.{leg_item, leg_stands, run_stands}
use Rattle.board_decisions.proofs.Lists.{no_some, same_some}
use Rattle.why_notes.proofs.Members.{changes_name_the_right_members}
use Rattle.why_notes.specs.Account.{Account, account_of}
use Rattle.why_notes.specs.Changes.{changes}
use Rattle.why_notes.specs.Laws.{Accepts, ChangeNames}
use Rattle.why_facts.specs.declared.fact.Change.{Change}
use Rattle.why_facts.specs.declared.fact.MemberFact.{MemberFact}
use Rattle.why_facts.specs.declared.fact.StepFact.{StepFact}
use Rattle.why_facts.specs.declared.notes.LegNotes.{LegNotes}
use Rattle.why_facts.specs.declared.notes.MemberNote.{MemberNote}
use Rattle.why_facts.specs.declared.notes.RunNotes.{RunNotes}
use Rattle.why_facts.specs.declared.notes.StepNote.{StepNote}
use Rattle.why_causes.proofs.Changing.{among}
use Rattle.why_causes.proofs.MetFirst.{get_within}
use Rattle.why_causes.proofs.Noting.{accepted_event, notes_are_made}
use Rattle.why_causes.proofs.Past.{past}
use Rattle.why_causes.specs.Agrees.{FailureIs, LegAgrees, LegNow, LegStill, ResultIs, ResultNow, RunAgrees, RunNow, steps_result}
use Rattle.why_causes.specs.Causes.{causes, finished_asked, is_called, is_in_call, leg_asked, leg_fact_asked, leg_last, leg_noted_asked, run_asked, run_fact_asked, run_last, run_noted_asked, slots_asked, step_asked, step_fact_asked, step_found_asked, step_last, step_noted_asked, stopping_asked}
use Rattle.why_causes.specs.Made.{MadeAt}
use Rattle.why_causes.specs.Reasons.{FinishedNames, IsFirstFailure, LegNames, LegNamesFor, NamesHolder, ReasonsAreNamed, StepNamesFor, StepsName, called_now, leg_told}
use Rattle.why_causes.specs.Stands.{RunIs}
use Rattle.why_causes.specs.declared.question.Question.{Question}

-- ---- the first item that passes a test

record FirstIs {T : Type 0} (k : ℕ) (test : T → Bool) (xs : List T) (first : ℕ) : Type 0 where
  place : ℕ
  item : T
  is : first ≡ k + place
  there : slice_get xs place ≡ Some item
  passes : test item ≡ true
  none : (i : ℕ) (x : T) → i < place → slice_get xs i ≡ Some x → test x ≡ false

first_is : {T : Type 0} (k : ℕ) (test : T → Bool) (xs : List T) (first : ℕ) → first_place k test xs ≡ Some first → FirstIs k test xs first
first_is k test [] first h = absurd (no_some first h)
first_is {T} k test (x ∷ xs) first h = by (test x) refl h (λ e. first_is (suc k) test xs first e)
  where
    later : test x ≡ false → FirstIs (suc k) test xs first → FirstIs k test (x ∷ xs) first
    later fails f = record {
      place = suc f.place;
      item = f.item;
      is = let it = f.is in omega (arith, it);
      there = f.there;
      passes = f.passes;
      none = before;
    }
      where
        before : (i : ℕ) (y : T) → i < suc f.place → slice_get (x ∷ xs) i ≡ Some y → test y ≡ false
        before zero y less at = subst (λ (z : T). test z ≡ false) (same_some x y at) fails
        before (suc i) y less at = f.none i y (omega (arith, less)) at

    by : (c : Bool) → test x ≡ c → (if c then Some k else first_place (suc k) test xs) ≡ Some first
        → (first_place (suc k) test xs ≡ Some first → FirstIs (suc k) test xs first) → FirstIs k test (x ∷ xs) first
    by true passes e others =
        let same = same_some k first e in
        record { place = 0; item = x; is = omega (arith, same); there = refl; passes = passes; none = λ i y less at. absurd (omega (arith, less)) }
    by false fails e others = later fails (others e)

some_first : {T : Type 0} (k : ℕ) (test : T → Bool) (xs : List T) → list_any test xs ≡ true → (first : ℕ) × (first_place k test xs ≡ Some first)
some_first k test [] h = absurd (true≢false (sym h))
some_first {T} k test (x ∷ xs) h = by (test x) h (some_first (suc k) test xs)
  where
    by : (c : Bool) → (c || list_any test xs) ≡ true → (list_any test xs ≡ true → (first : ℕ) × (first_place (suc k) test xs ≡ Some first))
        → (first : ℕ) × ((if c then Some k else first_place (suc k) test xs) ≡ Some first)
    by true e others = (k, refl)
    by false e others = others e

abbrev fails : DoneStep → Bool
fails step = is_failure step.conclusion

first_failure : (steps : List DoneStep) (place : ℕ) → first_place 0 fails steps ≡ Some place → IsFirstFailure steps place
first_failure steps place h =
    let f = first_is 0 fails steps place h in
    let it = f.is in
    let is : f.place ≡ place = omega (arith, it) in
    subst (IsFirstFailure steps) is (record { step = f.item; there = f.there; failed = f.passes; none = f.none })

-- ---- what a record told at a line

module _ (p : Plan) (es : List Entry) (a : Account) (account : account_of p es ≡ Some a) where
  -- what is told was so on the board before
  abbrev Names : {line : ℕ} {c : Change} → MadeAt p es line c → Type 0
  Names {line} {c} m = ChangeNames p m.old m.entry.event c

  names : {line : ℕ} {c : Change} → (m : MadeAt p es line c) → Names m
  names {line} {c} m =
      among (ChangeNames p m.old m.entry.event) (changes p m.old m.entry.event) c (changes_name_the_right_members p m.old m.entry.event) m.among

  accepts : {line : ℕ} {c : Change} → IsPlan p → SoundPlan p → (m : MadeAt p es line c) → Accepts p m.old m.entry.event
  accepts {line} {c} rules sound m = record {
    ends = (past p es a line c rules sound account m).before.ends;
    worker = m.entry.worker;
    new = m.new;
    reply = m.reply;
    row = accepted_event p m.old m.entry (m.new, m.reply) m.accepted;
  }

  -- ---- a run that waits

  module _ (r : ℕ) (at : RunAt) (is : run_at a.plan a.board r ≡ Some at) (waits : at.run.state ≡ RunState.Waiting) where
    run_named : (n : RunNotes) (note : MemberNote) (fact : MemberFact) → slice_get a.notes.runs r ≡ Some n → n.last ≡ Some note → note.fact ≡ fact → RunIs fact at.run.state
        → (holds : Member) × (line : ℕ) × NamesHolder p es a (Member.Run r) holds at.run.stop line
    run_named n note MemberFact.Admitted there last same so = cc
    run_named n note (MemberFact.Waits holds) there last same so =
        let made : MadeAt p es note.line (Change.Member (Member.Run r) (MemberFact.Waits holds)) =
        subst (λ (f : MemberFact). MadeAt p es note.line (Change.Member (Member.Run r) f)) same
        (subst (λ (o : Option MemberNote). IfSome o (λ note. MadeAt p es note.line (Change.Member (Member.Run r) note.fact))) last ((notes_are_made p es a account).notes.runs r n there).last) in
        let entered = names made in (
          holds,
          note.line,
          record {
            made = made;
            group = entered.0;
            entered = entered.1;
            held = entered.2;
            named = ap (run_asked a r) is ∙ ap (λ o. run_noted_asked r at (run_last o)) there ∙ ap (run_noted_asked r at) last ∙ ap (run_fact_asked r at) same;
          },
        )
    run_named n note (MemberFact.Follows before) there last same so = cc
    run_named n note (MemberFact.Displaced by) there last same so = cc
    run_named n note MemberFact.OwnRun there last same so = absurd so
    run_named n note (MemberFact.NoGroup f) there last same so = cc
    run_named n note (MemberFact.Closed how) there last same so = cc
    run_named n note MemberFact.Taken there last same so = absurd so
    run_named n note (MemberFact.Finished how) there last same so = absurd so
    run_named n note (MemberFact.Stopped cause) there last same so = absurd so

    run_noted : (n : RunNotes) (last : Option MemberNote) → slice_get a.notes.runs r ≡ Some n → n.last ≡ last → RunNow last at.run.state
        → (holds : Member) × (line : ℕ) × NamesHolder p es a (Member.Run r) holds at.run.stop line
    run_noted n None there is_last so = cc
    run_noted n (Some note) there is_last so = run_named n note note.fact there is_last refl so

    waiting_run : (holds : Member) × (line : ℕ) × NamesHolder p es a (Member.Run r) holds at.run.stop line
    waiting_run =
        let x = zip-left RunAgrees a.notes.runs a.board.runs r at.run (run_stands a.plan a.board r at is).run (notes_are_made p es a account).agrees.runs in
        run_noted x.0 x.0.last x.1 refl x.2.state

  -- ---- a leg and its steps

  module _ (l : ℕ) (at : LegAt) (rules : IsPlan p) (sound : SoundPlan p) (is : leg_at a.plan a.board l ≡ Some at) where
    noted : (n : LegNotes) × (slice_get a.notes.legs l ≡ Some n) × LegAgrees n at.leg
    noted = zip-left LegAgrees a.notes.legs (board_legs a.board) l at.leg (leg_item a.plan a.board l at (leg_stands a.plan a.board l at is)) (notes_are_made p es a account).agrees.legs

    -- a leg that came to its end
    any_failed : (c : Bool) → Outcome.Failure ≡ (if c then Outcome.Failure else Outcome.Success) → c ≡ true
    any_failed true e = refl
    any_failed false e = cc

    never : (c : Bool) → Outcome.Cancelled ≡ (if c then Outcome.Failure else Outcome.Success) → ⊥
    never true e = cc
    never false e = cc

    never_skipped : (c : Bool) → Outcome.Skipped ≡ (if c then Outcome.Failure else Outcome.Success) → ⊥
    never_skipped true e = cc
    never_skipped false e = cc

    finished_names : (result : Outcome) → result ≡ steps_result at.leg.steps → causes a (Question.Leg l) ≡ finished_asked l at result → FinishedNames a l at result
    finished_names Outcome.Success e named = named
    finished_names Outcome.Failure e named =
        let found = some_first 0 fails at.leg.steps (any_failed (list_any fails at.leg.steps) e) in
        (found.0, first_failure at.leg.steps found.0 found.1, named ∙ ap (step_asked l) found.1)
    finished_names Outcome.Cancelled e named = absurd (never (list_any fails at.leg.steps) e)
    finished_names Outcome.Skipped e named = absurd (never_skipped (list_any fails at.leg.steps) e)

    module _ (note : MemberNote) (last : noted.0.last ≡ Some note) where
      below : (fact : MemberFact) → note.fact ≡ fact → causes a (Question.Leg l) ≡ leg_fact_asked l at fact
      below fact same =
          ap (leg_asked a l) is ∙ ap (λ o. leg_noted_asked l at (leg_last o)) noted.1 ∙ ap (leg_noted_asked l at) last ∙ ap (leg_fact_asked l at) same

      made : (fact : MemberFact) → note.fact ≡ fact → MadeAt p es note.line (Change.Member (Member.Leg l) fact)
      made fact same =
          subst (λ (f : MemberFact). MadeAt p es note.line (Change.Member (Member.Leg l) f)) same
          (subst (λ (o : Option MemberNote). IfSome o (λ note. MadeAt p es note.line (Change.Member (Member.Leg l) note.fact))) last
          ((notes_are_made p es a account).notes.legs l noted.0 noted.1).last)

      for_fact : (fact : MemberFact) → note.fact ≡ fact → LegStill fact at.leg.state → ResultIs fact at.leg.steps → LegNamesFor p es a l at note.line fact
      for_fact MemberFact.Admitted same so result = (so, below MemberFact.Admitted same)
      for_fact (MemberFact.Waits holds) same so result =
          let m = made (MemberFact.Waits holds) same in
          let entered = names m in
          (so, record { made = m; group = entered.0; entered = entered.1; held = entered.2; named = below (MemberFact.Waits holds) same })
      for_fact (MemberFact.Follows before) same so result = (so, below (MemberFact.Follows before) same)
      for_fact (MemberFact.Displaced by) same so result = (so, below (MemberFact.Displaced by) same)
      for_fact MemberFact.OwnRun same so result = (so, below MemberFact.OwnRun same)
      for_fact (MemberFact.NoGroup f) same so result = (so, below (MemberFact.NoGroup f) same)
      for_fact (MemberFact.Closed how) same so result = so
      for_fact MemberFact.Taken same so result = (so.0, so.1.0, (so.1.1, below MemberFact.Taken same ∙ ap (λ qs. qs ++ leg_told l at) (called so.0 so.1.0 so.1.1)))
        where
          by : (in_call : Bool) → (if in_call then Question.Step l (length at.leg.steps) ∷ [] else []) ≡ called_now l at in_call
          by true = refl
          by false = refl

          called : (worker : ℕ) (in_call : Bool) → at.leg.state ≡ LegState.Running worker in_call
              → (if is_in_call at.leg.state then Question.Step l (length at.leg.steps) ∷ [] else []) ≡ called_now l at in_call
          called worker in_call e = ap (λ s. if is_in_call s then Question.Step l (length at.leg.steps) ∷ [] else []) e ∙ by in_call
      for_fact (MemberFact.Finished how) same so result = (so.0, so.1, finished_names how result (below (MemberFact.Finished how) same))
      for_fact (MemberFact.Stopped cause) same so result =
          let m = made (MemberFact.Stopped cause) same in
          (so, record { made = m; held = names m (accepts rules sound m); named = below (MemberFact.Stopped cause) same })

    -- of a leg of which nothing became yet
    either : (c : Bool) (asks other : List Question) → (if not c then other else asks) ≡ (if c then asks else other)
    either true asks other = refl
    either false asks other = refl

    leg_names : LegNames p es a l at (leg_last (slice_get a.notes.legs l))
    leg_names = by noted.0.last refl noted.2.state noted.2.result
      where
        last_is : (last : Option MemberNote) → noted.0.last ≡ last → leg_last (slice_get a.notes.legs l) ≡ last
        last_is last is_last = ap leg_last noted.1 ∙ is_last

        by : (last : Option MemberNote) → noted.0.last ≡ last → LegNow last at.leg.state → ResultNow last at.leg.steps → LegNames p es a l at (leg_last (slice_get a.notes.legs l))
        by None is_last so result =
            subst (LegNames p es a l at) (sym (last_is None is_last)) (
              so,
              ap (leg_asked a l) is ∙ ap (leg_noted_asked l at) (last_is None is_last)
                  ∙ either (is_going at.run.state && is_open at.job.state) (stopping_asked l at ++ slots_asked l at) (Question.Job at.job_plan.number ∷ []),
            )
        by (Some note) is_last so result = subst (LegNames p es a l at) (sym (last_is (Some note) is_last)) (for_fact note is_last note.fact refl so result)

    -- ---- steps

    same_length : length noted.0.steps ≡ length at.leg.steps
    same_length = sym (length-map noted.0.steps _) ∙ ap length noted.2.steps ∙ length-map at.leg.steps _

    module _ (s : ℕ) where
      step_noted : step_last (slice_get a.notes.legs l) s ≡ slice_get noted.0.steps s
      step_noted = ap (λ o. step_last o s) noted.1

      asked_below : causes a (Question.Step l s) ≡ step_noted_asked l s at (slice_get noted.0.steps s)
      asked_below = ap (step_found_asked a l s) is ∙ ap (step_noted_asked l s at) step_noted

      module _ (note : StepNote) (there : slice_get noted.0.steps s ≡ Some note) where
        step_below : (fact : StepFact) → note.fact ≡ fact → causes a (Question.Step l s) ≡ step_fact_asked at.place.run l fact
        step_below fact same = asked_below ∙ ap (step_noted_asked l s at) there ∙ ap (step_fact_asked at.place.run l) same

        step_made : (fact : StepFact) → note.fact ≡ fact → MadeAt p es note.line (Change.Step l fact)
        step_made fact same =
            subst (λ (f : StepFact). MadeAt p es note.line (Change.Step l f)) same (((notes_are_made p es a account).notes.legs l noted.0 noted.1).steps s note there)

        step_names : (fact : StepFact) → note.fact ≡ fact → StepNamesFor p es a l s at note.line fact
        step_names (StepFact.AfterFailure first) same =
            (first_failure at.leg.steps first (subst (FailureIs at.leg.steps) same (noted.2.failures s note there)), step_below (StepFact.AfterFailure first) same)
        step_names (StepFact.Stopping cause) same =
            let m = step_made (StepFact.Stopping cause) same in
            let x = names m in
            let ends = (accepts rules sound m).ends in
            record { made = m; held = (x.0, x.1, (x.2.0, x.2.1, (x.2.2.1, x.2.2.2 ends))); named = step_below (StepFact.Stopping cause) same }
        step_names (StepFact.Exited code) same = step_below (StepFact.Exited code) same
        step_names StepFact.NotStarted same = step_below StepFact.NotStarted same
        step_names StepFact.BadOutput same = step_below StepFact.BadOutput same
        step_names StepFact.Untrue same = step_below StepFact.Untrue same
        step_names (StepFact.Faulted text f) same = step_below (StepFact.Faulted text f) same

      past_steps : length at.leg.steps ≤ s → (found : Option StepNote) → slice_get noted.0.steps s ≡ found → causes a (Question.Step l s) ≡ (if is_called s at.leg then [] else Question.Leg l ∷ [])
      past_steps many None found = asked_below ∙ ap (step_noted_asked l s at) found
      past_steps many (Some note) found =
          let less = slice_get_within noted.0.steps s note found in
          let size = same_length in
          absurd (omega (arith, less, size, many))

    steps_name : StepsName p es a l at
    steps_name = record {
      done = λ s less.
          let size = same_length in
          let found = get_within noted.0.steps s (omega (arith, less, size)) in
          (found.0, step_noted s ∙ found.1, step_names s found.0 found.1 found.0.fact refl);
      undone = λ s many. past_steps s many (slice_get noted.0.steps s) refl;
    }

pub reasons_are_named : ((p : Plan) → IsPlan p → SoundPlan p) → ReasonsAreNamed
reasons_are_named sound = record {
  runs = λ p es a r at account is waits. waiting_run p es a account r at is waits;
  legs = λ p es a l at rules account is. leg_names p es a account l at rules (sound p rules) is;
  steps = λ p es a l at rules account is. steps_name p es a account l at rules (sound p rules) is;
}
