-- What an accepted entry makes so by which a run or a leg enters its group or leaves it.
use Rattle.std.proofs.Common.{◌≡◌, ◌≢◌, ◌&&◌, ℕ, Bool, true, false, not, List, [], ◌∷◌, ◌++◌, Option, Some, None, Result, Ok, Err, slice_get, if◌then◌else◌, ap, subst, sym, refl, ◌∙◌}
use Rattle.std.proofs.lemmas.Bool.{true≢false}
use Rattle.std.specs.Option.{option_map}
use Rattle.status_table.specs.Words.{Board, Entrance, LegAt, LegState, Member, Outcome, Plan, Reply, RunAt, RunState, Standing, ValueFault, apart, board_legs, cancelled, closed, displaced, dropped, holder, holding, is_fresh, is_full, is_going, is_open, is_own, is_stopping, is_untaken, leaves, leg_at, leg_entrance, leg_standing, moved, next_after, passed_on, run_at, run_entrance, stopped, waiter, waiting, waits}
use Rattle.why_facts.specs.Notes.{noted}
use Rattle.why_facts.specs.Queues as queueing
use Rattle.why_facts.specs.Stops.{cause_of_stop}
use Rattle.why_facts.specs.declared.fact.Change.{Change}
use Rattle.why_facts.specs.declared.fact.MemberFact.{MemberFact}
use Rattle.why_facts.specs.declared.fact.Teller.{Teller}
use Rattle.why_facts.specs.declared.notes.Notes.{Notes}
use Rattle.why_notes.specs.Changes as causes
use Rattle.why_causes.specs.Agrees.{Agrees}
use Rattle.why_causes.specs.Becomes.{Becomes}
use Rattle.why_causes.specs.Stands.{Has, LegIs, MemberStands, RunIs}
use Rattle.status_table.specs.declared.fault.EventFault.{EventFault}
use Rattle.status_table.specs.Groups as groups
use Rattle.status_table.specs.Row as table
use Rattle.board_decisions.proofs.Lists.{and-right, no_some, same_some}
use Rattle.why_causes.proofs.Agreeing.{admitted_agrees, closed_agrees, displaced_agrees, dropped_agrees, passed_agrees, told_agrees, waits_agrees}
use Rattle.why_causes.proofs.Members.{OfLeg, Exists, Quiet, admitted_quiet, admitted_there, any_leg, any_run, cancelled_exists, cancelled_quiet, cancelled_there, clash, closed_quiet, closed_there, displaced_exists, displaced_others, displaced_quiet, dropped_quiet, dropped_there, exists, holder_exists, kept, leg_clash, leg_in, passed_others, passed_quiet, passed_there, run_clash, run_in, stopped_keeps, stopped_others, stopped_there, untold_leg, untold_run, waiter_waits, waits_exists, waits_quiet, waits_there}
use Rattle.status_table.proofs.Found.{leg_item, leg_stands, run_stands}
use Rattle.status_table.proofs.Steps.{standing}
use Rattle.status_table.proofs.Turnover.{a_waiter}
use Rattle.why_causes.proofs.Going.{Goes, Noting, board_of, led, more, only, quietly}

-- ---- entering a group

-- a run that is New, or a leg that is Fresh
abbrev Outside : Board → Member → Type 0
Outside b m = Has b m (run_in RunState.New) (leg_in LegState.Fresh)

not_admitted : (b : Board) (m : Member) → Outside b m → MemberStands b m MemberFact.Admitted → ⊥
not_admitted b m = clash (run_in RunState.New) (run_in RunState.Going) (leg_in LegState.Fresh) (leg_in LegState.Admitted) b m (λ s told x y. cc) (λ s told x y. cc)

not_waiting : (b : Board) (m holds : Member) → Outside b m → MemberStands b m (MemberFact.Waits holds) → ⊥
not_waiting b m holds = clash (run_in RunState.New) (run_in RunState.Waiting) (leg_in LegState.Fresh) (leg_in LegState.Waiting) b m (λ s told x y. cc) (λ s told x y. cc)

-- one that waits
abbrev Waits : Board → Member → Type 0
Waits b w = Has b w (run_in RunState.Waiting) (leg_in LegState.Waiting)

outside_apart : (b : Board) (m w : Member) → Outside b m → Waits b w → m ≢ w
outside_apart b m w out waited e =
    clash (run_in RunState.New) (run_in RunState.Waiting) (leg_in LegState.Fresh) (leg_in LegState.Waiting) b m (λ s told x y. cc) (λ s told x y. cc) out
    (subst (λ x. Waits b x) (sym e) waited)

-- it enters a group that nobody holds, or none
admitted_so : (b : Board) (m : Member) (name : Option (List ℕ)) → Outside b m → Goes b (groups.admitted b name m) (Change.Member m MemberFact.Admitted ∷ [])
admitted_so b m name out =
    quietly b (groups.admitted b name m) (Change.Member m MemberFact.Admitted ∷ [])
    (only (Becomes b (groups.admitted b name m)) (Change.Member m MemberFact.Admitted)
    (not_admitted b m out, admitted_there b name m (exists (run_in RunState.New) (leg_in LegState.Fresh) b m out)))
    (admitted_quiet b name m) (λ line notes h. admitted_agrees b notes name m line h)

-- it waits, in the place of one that waited, and the holder is told to stop
module _ (b : Board) (m : Member) (name : List ℕ) (holds : Member) (out : Outside b m) (held : Exists b holds) where
  abbrev first : Board
  first = waits b name m

  abbrev second : Option Member → Board
  second waited = displaced first waited

  abbrev third : Option Member → Bool → Board
  third waited cancel = stopped (second waited) cancel holds

  there : Exists b m
  there = exists (run_in RunState.New) (leg_in LegState.Fresh) b m out

  itself : (waited : Option Member) (cancel : Bool) → ((w : Member) → waited ≡ Some w → Waits b w) → Becomes b (third waited cancel) (Change.Member m (MemberFact.Waits holds))
  itself waited cancel who = (
    not_waiting b m holds out,
    stopped_keeps (RunIs (MemberFact.Waits holds)) (LegIs (MemberFact.Waits holds)) (second waited) cancel holds m
        (displaced_others (run_in RunState.Waiting) (leg_in LegState.Waiting) first waited m (λ w is. outside_apart b m w out (who w is)) (waits_there b name m there)),
  )

  lost : (w : Member) (cancel : Bool) → Waits b w → Becomes b (third (Some w) cancel) (Change.Member w (MemberFact.Displaced m))
  lost w cancel waited = (
    clash (run_in RunState.Waiting) (run_in (RunState.Closed Outcome.Cancelled)) (leg_in LegState.Waiting) (leg_in (LegState.Ended Outcome.Cancelled false)) b w
        (λ s told x y. cc) (λ s told x y. cc) waited,
    stopped_keeps (RunIs (MemberFact.Displaced m)) (LegIs (MemberFact.Displaced m)) (second (Some w)) cancel holds w
        (cancelled_there first w (waits_exists b name m w (exists (run_in RunState.Waiting) (leg_in LegState.Waiting) b w waited))),
  )

  told : (waited : Option Member) → Becomes b (third waited true) (Change.Stop holds (Teller.Newer m))
  told waited = stopped_there (second waited) holds (displaced_exists first waited holds (waits_exists b name m holds held))

  -- nobody was told by then
  calm : (waited : Option Member) → Quiet b (second waited)
  calm waited w x = displaced_quiet first waited w (waits_quiet b name m w x)

  -- nobody is told then but the holder
  telling : (waited : Option Member) (w : Member) → Has b w untold_run untold_leg → (w ≡ holds → ⊥) → Has (third waited true) w untold_run untold_leg
  telling waited w x differs = stopped_others (second waited) holds w differs (calm waited w x)

  -- the holder is the one who is named
  named : (w : Member) → w ≡ holds → Some (Change.Stop holds (Teller.Newer m)) ≡ Some (Change.Stop w (Teller.Newer m))
  named w e = ap (λ x. Some (Change.Stop x (Teller.Newer m))) (sym e)

  -- the notes of it, and of who lost its place
  waits_noted : (line : ℕ) (notes : Notes) → Agrees b notes → Agrees first (noted line notes (Change.Member m (MemberFact.Waits holds)))
  waits_noted line notes h = waits_agrees b notes name m holds line h

  lost_noted : (w : Member) (line : ℕ) (notes : Notes) → Agrees b notes
      → Agrees (second (Some w)) (noted line (noted line notes (Change.Member m (MemberFact.Waits holds))) (Change.Member w (MemberFact.Displaced m)))
  lost_noted w line notes h = displaced_agrees first (noted line notes (Change.Member m (MemberFact.Waits holds))) w m line (waits_noted line notes h)

  queued_so : (waited : Option Member) (cancel : Bool) → ((w : Member) → waited ≡ Some w → Waits b w)
      → Goes b (third waited cancel) (Change.Member m (MemberFact.Waits holds) ∷ (queueing.displaces m waited ++ queueing.tells m cancel holds))
  queued_so None false who =
      quietly b (third None false) (Change.Member m (MemberFact.Waits holds) ∷ []) (only (Becomes b (third None false)) (Change.Member m (MemberFact.Waits holds)) (itself None false who))
      (calm None) waits_noted
  queued_so None true who = record {
    so = more (Becomes b (third None true)) (Change.Member m (MemberFact.Waits holds)) (Change.Stop holds (Teller.Newer m) ∷ []) (itself None true who)
        (only (Becomes b (third None true)) (Change.Stop holds (Teller.Newer m)) (told None));
    tells = λ w x others. telling None w x (λ e. others 1 (Teller.Newer m) (named w e));
    noting = λ line notes h. told_agrees (second None) (noted line notes (Change.Member m (MemberFact.Waits holds))) holds (Teller.Newer m) line (waits_noted line notes h);
  }
  queued_so (Some w) false who =
      quietly b (third (Some w) false) (Change.Member m (MemberFact.Waits holds) ∷ (Change.Member w (MemberFact.Displaced m) ∷ []))
      (more (Becomes b (third (Some w) false)) (Change.Member m (MemberFact.Waits holds)) (Change.Member w (MemberFact.Displaced m) ∷ []) (itself (Some w) false who)
      (only (Becomes b (third (Some w) false)) (Change.Member w (MemberFact.Displaced m)) (lost w false (who w refl))))
      (calm (Some w)) (lost_noted w)
  queued_so (Some w) true who = record {
    so = more (Becomes b (third (Some w) true)) (Change.Member m (MemberFact.Waits holds)) (Change.Member w (MemberFact.Displaced m) ∷ (Change.Stop holds (Teller.Newer m) ∷ []))
        (itself (Some w) true who)
        (more (Becomes b (third (Some w) true)) (Change.Member w (MemberFact.Displaced m)) (Change.Stop holds (Teller.Newer m) ∷ []) (lost w true (who w refl))
        (only (Becomes b (third (Some w) true)) (Change.Stop holds (Teller.Newer m)) (told (Some w))));
    tells = λ v x others. telling (Some w) v x (λ e. others 2 (Teller.Newer m) (named v e));
    noting = λ line notes h.
        told_agrees (second (Some w)) (noted line (noted line notes (Change.Member m (MemberFact.Waits holds))) (Change.Member w (MemberFact.Displaced m))) holds (Teller.Newer m) line
        (lost_noted w line notes h);
  }

-- a run is no leg of a run
abbrev Asks : Member → Option ℕ → Type 0
Asks (Member.Run r) own = own ≡ None
Asks (Member.Leg l) own = Unit {0}

own_so : (b : Board) (m : Member) (own : Option ℕ) (holds : Member) → Asks m own → is_own own holds ≡ true → Outside b m
    → Goes b (cancelled b m) (Change.Member m MemberFact.OwnRun ∷ [])
own_so b (Member.Run r) own holds asks is out = absurd (true≢false (sym is ∙ ap (λ o. is_own o holds) asks))
own_so b (Member.Leg l) own holds asks is out =
    quietly b (cancelled b (Member.Leg l)) (Change.Member (Member.Leg l) MemberFact.OwnRun ∷ [])
    (only (Becomes b (cancelled b (Member.Leg l))) (Change.Member (Member.Leg l) MemberFact.OwnRun) (
      leg_clash (leg_in LegState.Fresh) (leg_in (LegState.Ended Outcome.Cancelled false)) b l (λ s told x y. cc) out,
      cancelled_there b (Member.Leg l) (exists (run_in RunState.New) (leg_in LegState.Fresh) b (Member.Leg l) out),
    ))
    (cancelled_quiet b (Member.Leg l)) (λ line notes h. dropped_agrees b notes l Outcome.Cancelled MemberFact.OwnRun line refl (λ steps. tt) h)

held_so : (b : Board) (m : Member) (own : Option ℕ) (group : Entrance) (holds waited : Option Member) → holder b group.name ≡ holds → waiter b group.name ≡ waited
    → Asks m own → Outside b m → Goes b (groups.enters_held b m own group holds waited).0 (causes.enters_held m own group holds waited)
held_so b m own group None waited is-holder is-waiter asks out = admitted_so b m (Some group.name) out
held_so b m own group (Some h) waited is-holder is-waiter asks out = step (is_own own h) refl
  where
    step : (c : Bool) → is_own own h ≡ c
        → Goes b (if c then (cancelled b m, moved) else groups.queued b m group h waited).0 (if c then Change.Member m MemberFact.OwnRun ∷ [] else queueing.queues m group h waited)
    step true is = own_so b m own h asks is out
    step false is =
        queued_so b m group.name h out (holder_exists b group.name h is-holder) waited group.cancel (λ w found. waiter_waits b group.name w (is-waiter ∙ found))

entered_so : (b : Board) (m : Member) (own : Option ℕ) (group : Option Entrance) → Asks m own → Outside b m
    → Goes b (groups.enters b m own group).0 (causes.enters b m own group)
entered_so b m own None asks out = admitted_so b m None out
entered_so b m own (Some group) asks out = held_so b m own group (holder b group.name) (waiter b group.name) refl refl asks out

-- ---- Open

pub closed_exists : (b : Board) (r : ℕ) (result : Outcome) (w : Member) → Exists b w → Exists (closed b r result) w
closed_exists b r result w x = kept any_run any_leg b (Member.Run r) w (λ run. record run { state = RunState.Closed result }) (λ leg. leg) (λ run. refl) (λ run _. tt) (λ leg _. tt) x

run_entered : (b new : Board) (r : ℕ) (group : Result (Option Entrance) ValueFault) (reply : Reply) → Outside b (Member.Run r) → table.run_enters b r group ≡ Ok (new, reply)
    → Goes b new (causes.enters_by b (Member.Run r) None group)
unfolding board_of
run_entered b new r (Ok group) reply out h = led b _ _ new reply h (entered_so b (Member.Run r) None group refl out)
run_entered b new r (Err f) reply out h =
    led b _ _ new reply h
    (quietly b (closed b r Outcome.Failure) (Change.Member (Member.Run r) (MemberFact.NoGroup f) ∷ [])
    (only (Becomes b (closed b r Outcome.Failure)) (Change.Member (Member.Run r) (MemberFact.NoGroup f)) (
      run_clash (run_in RunState.New) (run_in (RunState.Closed Outcome.Failure)) b r (λ s told x y. cc) out,
      closed_there any_leg any_leg b r Outcome.Failure (exists (run_in RunState.New) (leg_in LegState.Fresh) b (Member.Run r) out),
    ))
    (closed_quiet b r Outcome.Failure) (λ line notes a. closed_agrees b notes r Outcome.Failure (MemberFact.NoGroup f) line refl a))

pub opened : (p : Plan) (b new : Board) (r : ℕ) (found : Option RunAt) (reply : Reply) → run_at p b r ≡ found → table.open_found b r found ≡ Ok (new, reply)
    → Goes b new (causes.opens b r found)
opened p b new r None reply is h = cc
opened p b new r (Some at) reply is h = by_state at.run.state at.run.stop refl h
  where
    by_state : (state : RunState) (stop : Bool) → at.run.state ≡ state → table.open_run b r at state stop ≡ Ok (new, reply) → Goes b new (causes.opens b r (Some at))
    by_state RunState.New false new-is k = run_entered b new r (run_entrance at) reply (at.run, (run_stands p b r at is).run, new-is) k
    by_state RunState.New true new-is k = cc
    by_state RunState.Waiting stop new-is k = cc
    by_state RunState.Going stop new-is k = cc
    by_state (RunState.Closed result) stop new-is k = cc

-- ---- Ask

fresh_is : (s : LegState) → is_fresh s ≡ true → s ≡ LegState.Fresh
fresh_is LegState.Fresh h = refl
fresh_is LegState.Waiting h = absurd (true≢false (sym h))
fresh_is LegState.Admitted h = absurd (true≢false (sym h))
fresh_is (LegState.Running worker in_call) h = absurd (true≢false (sym h))
fresh_is (LegState.Ended result tolerated) h = absurd (true≢false (sym h))

leg_entered : (b new : Board) (l : ℕ) (at : LegAt) (group : Result (Option Entrance) ValueFault) (reply : Reply) → Outside b (Member.Leg l)
    → table.leg_enters b l at group ≡ Ok (new, reply) → Goes b new (causes.enters_by b (Member.Leg l) (Some at.place.run) group)
unfolding board_of
leg_entered b new l at (Ok group) reply out h = led b _ _ new reply h (entered_so b (Member.Leg l) (Some at.place.run) group tt out)
leg_entered b new l at (Err f) reply out h =
    led b _ _ new reply h
    (quietly b (dropped b l Outcome.Failure) (Change.Member (Member.Leg l) (MemberFact.NoGroup f) ∷ [])
    (only (Becomes b (dropped b l Outcome.Failure)) (Change.Member (Member.Leg l) (MemberFact.NoGroup f)) (
      leg_clash (leg_in LegState.Fresh) (leg_in (LegState.Ended Outcome.Failure false)) b l (λ s told x y. cc) out,
      dropped_there any_run any_run b l Outcome.Failure (exists (run_in RunState.New) (leg_in LegState.Fresh) b (Member.Leg l) out),
    ))
    (dropped_quiet b l Outcome.Failure) (λ line notes a. dropped_agrees b notes l Outcome.Failure (MemberFact.NoGroup f) line refl (λ steps. tt) a))

pub asked : (p : Plan) (b new : Board) (l : ℕ) (found : Option LegAt) (reply : Reply) → leg_at p b l ≡ found → table.ask_found b l found ≡ Ok (new, reply)
    → Goes b new (causes.asks b l found)
asked p b new l None reply is h = cc
asked p b new l (Some at) reply is h = guarded (table.may_ask at) (is_full at.job_plan at.job) (is_stopping at) refl h
  where
    guarded : (may full stopping : Bool) → table.may_ask at ≡ may
        → (if not may then Err EventFault.WrongState else (if full then Err EventFault.SlotsFull else (if stopping then Err EventFault.Stopping else table.leg_enters b l at (leg_entrance at)))) ≡ Ok (new, reply)
        → Goes b new (causes.asks b l (Some at))
    guarded false full stopping ready k = cc
    guarded true true stopping ready k = cc
    guarded true false true ready k = cc
    guarded true false false ready k =
        leg_entered b new l at (leg_entrance at) reply
        (at.leg, leg_item p b l at (leg_stands p b l at is), fresh_is at.leg.state (and-right (is_going at.run.state && is_open at.job.state) (is_fresh at.leg.state) ready)) k

-- ---- leaving a group

-- who is next waits
next_waits : (b : Board) (s : Standing) (w : Member) → next_after b s ≡ Some w → Waits b w
next_waits b apart w h = absurd (no_some w h)
next_waits b (waiting name) w h = absurd (no_some w h)
next_waits b (holding None) w h = absurd (no_some w h)
next_waits b (holding (Some name)) w h = waiter_waits b name w h

-- and is another
next_apart : (b : Board) (m : Member) (s : Standing) (w : Member) → standing b m ≡ Some s → next_after b s ≡ Some w → m ≢ w
next_apart b m apart w is h e = absurd (no_some w h)
next_apart b m (waiting name) w is h e = absurd (no_some w h)
next_apart b m (holding None) w is h e = absurd (no_some w h)
next_apart b m (holding (Some name)) w is h e = no (sym is ∙ ap (standing b) e ∙ (a_waiter b name w h).0)
  where
    no : Some (holding (Some name)) ≡ Some (waiting (Some name)) → ⊥
    no k = cc

-- it has ended, and who waited goes on
pub left_so : (b after : Board) (m : Member) (s : Standing) (fact : MemberFact) → standing b m ≡ Some s → (MemberStands b m fact → ⊥) → MemberStands after m fact
    → ((w : Member) → Exists b w → Exists after w) → Quiet b after → Noting b after (Change.Member m fact ∷ []) → Goes b (passed_on after (next_after b s)) (Change.Member m fact ∷ causes.passes m (next_after b s))
left_so b after m s fact is before now stay quiet noting = by_next (next_after b s) refl
  where
    by_next : (next : Option Member) → next_after b s ≡ next → Goes b (passed_on after next) (Change.Member m fact ∷ causes.passes m next)
    by_next None found = quietly b after (Change.Member m fact ∷ []) (only (Becomes b after) (Change.Member m fact) (before, now)) quiet noting
    by_next (Some w) found =
        let waited = next_waits b s w found in
        quietly b (passed_on after (Some w)) (Change.Member m fact ∷ (Change.Member w (MemberFact.Follows m) ∷ []))
        (more (Becomes b (passed_on after (Some w))) (Change.Member m fact) (Change.Member w (MemberFact.Follows m) ∷ [])
        (before, passed_others (λ s told. RunIs fact s) (λ s told. LegIs fact s) after (Some w) m (λ v e. subst (λ x. m ≢ x) (same_some w v e) (next_apart b m s w is found)) now)
        (only (Becomes b (passed_on after (Some w))) (Change.Member w (MemberFact.Follows m)) (
          clash (run_in RunState.Waiting) (run_in RunState.Going) (leg_in LegState.Waiting) (leg_in LegState.Admitted) b w (λ s told x y. cc) (λ s told x y. cc) waited,
          passed_there after w (stay w (exists (run_in RunState.Waiting) (leg_in LegState.Waiting) b w waited)),
        )))
        (λ v x. passed_quiet after (Some w) v (quiet v x)) (λ line notes h. passed_agrees after (noted line notes (Change.Member m fact)) w m line (noting line notes h))

-- ---- Drop

untaken : OfLeg
untaken s told = is_untaken s ≡ true

pub dropped_so : (p : Plan) (b new : Board) (l : ℕ) (found : Option LegAt) (reply : Reply) → leg_at p b l ≡ found → table.drop_found b l found ≡ Ok (new, reply)
    → Goes b new (causes.drops b l found)
unfolding board_of untaken
dropped_so p b new l None reply is h = cc
dropped_so p b new l (Some at) reply is h = guarded (table.may_drop at) (is_stopping at) refl h
  where
    item : slice_get (board_legs b) l ≡ Some at.leg
    item = leg_item p b l at (leg_stands p b l at is)

    guarded : (may stopping : Bool) → table.may_drop at ≡ may
        → (if not may then Err EventFault.WrongState else (if stopping then Ok (leaves b (leg_standing at.leg) (dropped b l Outcome.Cancelled)) else Err EventFault.NotStopping)) ≡ Ok (new, reply)
        → Goes b new (causes.drops b l (Some at))
    guarded false stopping ready k = cc
    guarded true false ready k = cc
    guarded true true ready k =
        led b _ _ new reply k
        (left_so b (dropped b l Outcome.Cancelled) (Member.Leg l) (leg_standing at.leg) (MemberFact.Stopped (cause_of_stop l at)) (ap (option_map leg_standing) item)
        (leg_clash untaken (leg_in (LegState.Ended Outcome.Cancelled false)) b l (λ s told x y. true≢false (sym x ∙ ap is_untaken y))
        (at.leg, item, and-right (is_going at.run.state && is_open at.job.state) (is_untaken at.leg.state) ready))
        (dropped_there any_run any_run b l Outcome.Cancelled (at.leg, item, tt))
        (λ w x. cancelled_exists b (Member.Leg l) w x) (dropped_quiet b l Outcome.Cancelled)
        (λ line notes a. dropped_agrees b notes l Outcome.Cancelled (MemberFact.Stopped (cause_of_stop l at)) line refl (λ steps. tt) a))
