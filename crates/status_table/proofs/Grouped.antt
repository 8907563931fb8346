-- The groups as they are kept by names go with the board through each event.
use Rattle.std.proofs.Common.{◌≡◌, ◌≢◌, ℕ, suc, ◌&&◌, Bool, true, false, not, List, [], ◌∷◌, map, Option, Some, None, Result, Ok, Err, option_map, option_and_then, nat_le, if◌then◌else◌, ap, subst, sym, refl, ◌∙◌, arith}
use Rattle.std.specs.List.{flat_map}
use Rattle.std.specs.List.Sorted.{IsStrictlySortedBy}
use Rattle.std.proofs.lemmas.Bool.{true≢false}
use Rattle.status_table.specs.Words.{Ascends, Board, Content, EachOnce, EntersFromOutside, Entrance, Event, FirstHolds, KeptAsShown, Lawful, LegAt, LegState, Member, NextDisplaces, NowhereIsNoGroup, OnceStays, OrderStays, OwnRunChangesNothing, Plan, ReleasesPassOn, Reply, Row, RunAt, RunState, Standing, ValueFault, WithdrawsLeaveHolders, after_enter, after_event, apart, ask_found, asked, board_legs, close_found, drop_found, finish_found, first_place, holder_of, holding, is_accepted, is_fresh, is_full, is_going, is_in_group, is_open, is_stopping, left, leg_asked, leg_at, leg_enters, leg_entrance, leg_left, leg_standing, leg_stands, may_ask, new_board, new_job, new_leg, new_run, open_found, open_run, opened, plan_jobs, plan_legs, row, run_at, run_enters, run_entrance, run_left, run_opened, run_standing, run_stands, value_at, waiter_of, waiting, waits_name}
use Rattle.group_admission.specs.Content.{is_own}
use Rattle.status_table.specs.declared.fault.EventFault.{EventFault}
use Rattle.status_table.specs.Admissions.{ShowsThen}
use Rattle.status_table.specs.Groups.{holds_name, run_or_leg, first_member}
use Rattle.board_decisions.proofs.Lists.{and-right, same_some, no_some}
use Rattle.status_table.proofs.Decided.{by_test}
use Rattle.status_table.proofs.Found.{run_stands as run_found, leg_stands as leg_found, leg_item}
use Rattle.status_table.proofs.Lists.{flat_map-map}
use Rattle.status_table.proofs.Shown.{opens_as_entered, asks_as_entered, closes_as_left, drops_as_left, finishes_as_left}
use Rattle.status_table.proofs.Steps.{standing}
use Rattle.status_table.proofs.Still.{judge_shows, take_shows, begin_shows, end_shows, cancel_shows}
use Rattle.status_table.proofs.Turnover.{a_holder, a_waiter}

-- ---- the board on which all is new

none-place : {A B : Type 0} (k : ℕ) (t : B → Bool) (f : A → B) (xs : List A) → ((x : A) → t (f x) ≡ false) → first_place k t (map f xs) ≡ None
none-place k t f [] h = refl
none-place k t f (x ∷ xs) h = ap (λ c. if c then Some k else first_place (suc k) t (map f xs)) (h x) ∙ none-place (suc k) t f xs h

new_legs : (p : Plan) → board_legs (new_board p) ≡ map new_leg (plan_legs p)
new_legs p =
    ap (flat_map (λ job. job.legs)) (flat_map-map new_run (λ run. run.jobs) new_job (λ run. run.jobs) p.runs (λ run. refl))
    ∙ flat_map-map new_job (λ job. job.legs) new_leg (λ job. job.legs) (plan_jobs p) (λ job. refl)

nobody_new : (p : Plan) (t : Standing → Bool) → t apart ≡ false → first_member t (new_board p) ≡ None
nobody_new p t none =
    ap (λ o. run_or_leg o (first_place 0 (λ leg. t (leg_standing leg)) (board_legs (new_board p)))) (none-place 0 (λ run. t (run_standing run)) new_run p.runs (λ x. none))
    ∙ ap (λ ls. run_or_leg None (first_place 0 (λ leg. t (leg_standing leg)) ls)) (new_legs p)
    ∙ ap (λ o. run_or_leg None o) (none-place 0 (λ leg. t (leg_standing leg)) new_leg (plan_legs p) (λ x. none))

pub new_kept : (p : Plan) → KeptAsShown [] (new_board p)
unfolding IsStrictlySortedBy
new_kept p = record {
  shown = record {
    holder = λ name some. sym (nobody_new p (holds_name name) refl);
    waiter = λ name some. sym (nobody_new p (waits_name name) refl);
  };
  ordered = tt;
  named = refl;
  once = λ m. omega arith;
}

-- ---- who may enter stands apart

-- if a row is accepted, a member stands apart before it
abbrev ApartThen : Board → Member → Row → Type 0
ApartThen b m (Ok x) = standing b m ≡ Some apart
ApartThen b m (Err refusal) = Unit {0}

apart_now : (b : Board) (m : Member) (r : Row) → ApartThen b m r → is_accepted r ≡ true → standing b m ≡ Some apart
apart_now b m (Ok x) is h = is
apart_now b m (Err f) is h = absurd (true≢false (sym h))

opener_apart : (p : Plan) (b : Board) (worker r : ℕ) → ApartThen b (Member.Run r) (row p b worker (Event.Open r))
opener_apart p b worker r = by_test (ApartThen b (Member.Run r)) (nat_le worker 15) (open_found b r (run_at p b r)) (Err EventFault.NoSuch) (found (run_at p b r) refl) tt
  where
    entered : (x : Result (Option Entrance) ValueFault) → standing b (Member.Run r) ≡ Some apart → ApartThen b (Member.Run r) (run_enters b r x)
    entered (Ok group) is = is
    entered (Err f) is = is

    by : (at : RunAt) → run_at p b r ≡ Some at → (s : RunState) (stop : Bool) → at.run.state ≡ s → ApartThen b (Member.Run r) (open_run b r at s stop)
    by at is RunState.New false state =
        entered (run_entrance at) (ap (option_map run_standing) (run_found p b r at is).run ∙ ap (λ s. Some (run_stands s at.run.group)) state)
    by at is RunState.New true state = tt
    by at is RunState.Waiting stop state = tt
    by at is RunState.Going stop state = tt
    by at is (RunState.Closed result) stop state = tt

    found : (o : Option RunAt) → run_at p b r ≡ o → ApartThen b (Member.Run r) (open_found b r o)
    found None is = tt
    found (Some at) is = by at is at.run.state at.run.stop refl

fresh_apart : (s : LegState) (group : Option (List ℕ)) → is_fresh s ≡ true → leg_stands s group ≡ apart
fresh_apart LegState.Fresh group h = refl
fresh_apart s group h = absurd (true≢false (sym h))

asker_apart : (p : Plan) (b : Board) (worker l : ℕ) → ApartThen b (Member.Leg l) (row p b worker (Event.Ask l))
asker_apart p b worker l = by_test (ApartThen b (Member.Leg l)) (nat_le worker 15) (ask_found b l (leg_at p b l)) (Err EventFault.NoSuch) (found (leg_at p b l) refl) tt
  where
    entered : (at : LegAt) (x : Result (Option Entrance) ValueFault) → standing b (Member.Leg l) ≡ Some apart → ApartThen b (Member.Leg l) (leg_enters b l at x)
    entered at (Ok group) is = is
    entered at (Err f) is = is

    fresh : (at : LegAt) → leg_at p b l ≡ Some at → may_ask at ≡ true → standing b (Member.Leg l) ≡ Some apart
    fresh at is may =
        ap (option_map leg_standing) (leg_item p b l at (leg_found p b l at is))
        ∙ ap (λ s. Some s) (fresh_apart at.leg.state at.leg.group (and-right (is_going at.run.state && is_open at.job.state) (is_fresh at.leg.state) may))

    by : (at : LegAt) → leg_at p b l ≡ Some at → (may full stop : Bool) → may_ask at ≡ may
        → ApartThen b (Member.Leg l) (if not may then Err EventFault.WrongState else (if full then Err EventFault.SlotsFull else (if stop then Err EventFault.Stopping else leg_enters b l at (leg_entrance at))))
    by at is false full stop may = tt
    by at is true true stop may = tt
    by at is true false true may = tt
    by at is true false false may = entered at (leg_entrance at) (fresh at is may)

    found : (o : Option LegAt) → leg_at p b l ≡ o → ApartThen b (Member.Leg l) (ask_found b l o)
    found None is = tt
    found (Some at) is = by at is (may_ask at) (is_full at.job_plan at.job) (is_stopping at) refl

-- ---- what holds of the groups alone

-- the laws of the groups by names
pub record GroupLaws : Type 0 where
  pub first : FirstHolds
  pub next : NextDisplaces
  pub same : OwnRunChangesNothing
  pub release : ReleasesPassOn
  pub withdraw : WithdrawsLeaveHolders
  pub order : OrderStays
  pub once : OnceStays
  pub nowhere : NowhereIsNoGroup

-- the names are in order, and none is empty; no member stands in two places
record Sound (groups : Content) : Type 0 where
  ordered : Ascends groups
  named : value_at [] groups ≡ None
  once : EachOnce groups

filled : (c : ℕ) (cs : List ℕ) → c ∷ cs ≢ []
filled c cs e = cc

no_holder : (groups : Content) (m : Member) → value_at [] groups ≡ None → holder_of [] groups ≢ Some m
no_holder groups m none e = no_some m (sym (ap (λ o. option_map (λ held. held.holder) o) none) ∙ e)

no_waiter : (groups : Content) (m : Member) → value_at [] groups ≡ None → waiter_of [] groups ≢ Some m
no_waiter groups m none e = no_some m (sym (ap (λ o. option_and_then (λ held. held.waiter) o) none) ∙ e)

entered_named : GroupLaws → (groups : Content) (m : Member) (name : List ℕ) (own : Option ℕ) → value_at [] groups ≡ None → value_at [] (after_enter name m own groups) ≡ None
entered_named laws groups m [] own none = none
entered_named laws groups m (c ∷ cs) own none = by (holder_of (c ∷ cs) groups) refl
  where
    mine : (h : Member) → holder_of (c ∷ cs) groups ≡ Some h → (own_holds : Bool) → is_own own h ≡ own_holds → value_at [] (after_enter (c ∷ cs) m own groups) ≡ None
    mine h is true own_is = ap (value_at []) (laws.same (c ∷ cs) m h own false groups (filled c cs) is own_is).1 ∙ none
    mine h is false own_is = (laws.next (c ∷ cs) m h own false groups (filled c cs) is own_is).1.others [] (λ e. filled c cs (sym e)) ∙ none

    by : (h : Option Member) → holder_of (c ∷ cs) groups ≡ h → value_at [] (after_enter (c ∷ cs) m own groups) ≡ None
    by None is = (laws.first (c ∷ cs) m own false groups (filled c cs) is).1.others [] (λ e. filled c cs (sym e)) ∙ none
    by (Some h) is = mine h is (is_own own h) refl

entered_sound : GroupLaws → (groups : Content) (m : Member) (name : List ℕ) (own : Option ℕ) → Sound groups → is_in_group m groups ≡ false → Sound (after_enter name m own groups)
entered_sound laws groups m name own sound outside = record {
  ordered = (laws.order groups m sound.ordered).entered name own;
  named = entered_named laws groups m name own sound.named;
  once = (laws.once groups m sound.ordered sound.once).entered name own outside;
}

opened_sound : GroupLaws → (groups : Content) (r : ℕ) → Sound groups → is_in_group (Member.Run r) groups ≡ false → (x : Result (Option Entrance) ValueFault) → Sound (opened groups r x)
opened_sound laws groups r sound outside (Ok (Some group)) = entered_sound laws groups (Member.Run r) group.name None sound outside
opened_sound laws groups r sound outside x = sound

asked_sound : GroupLaws → (groups : Content) (l own : ℕ) → Sound groups → is_in_group (Member.Leg l) groups ≡ false → (x : Result (Option Entrance) ValueFault) → Sound (asked groups l own x)
asked_sound laws groups l own sound outside (Ok (Some group)) = entered_sound laws groups (Member.Leg l) group.name (Some own) sound outside
asked_sound laws groups l own sound outside x = sound

left_sound : GroupLaws → (groups : Content) (m : Member) → Sound groups → (s : Standing) → Sound (left groups m s)
left_sound laws groups m sound apart = sound
left_sound laws groups m sound (holding name) = record {
  ordered = (laws.order groups m sound.ordered).released;
  named = (laws.release groups m [] sound.ordered).others (no_holder groups m sound.named) ∙ sound.named;
  once = (laws.once groups m sound.ordered sound.once).released;
}
left_sound laws groups m sound (waiting name) = record {
  ordered = (laws.order groups m sound.ordered).withdrawn;
  named = (laws.withdraw groups m [] sound.ordered).others (no_waiter groups m sound.named) ∙ sound.named;
  once = (laws.once groups m sound.ordered sound.once).withdrawn;
}

-- ---- who stands apart on the board is in no group

outside : GroupLaws → (groups : Content) (b : Board) (m : Member) → KeptAsShown groups b → standing b m ≡ Some apart → is_in_group m groups ≡ false
outside laws groups b m kept is = laws.nowhere groups m kept.ordered holds waits
  where
    not_holding : (name : List ℕ) → apart ≡ holding (Some name) → ⊥
    not_holding name e = cc

    not_waiting : (name : List ℕ) → apart ≡ waiting (Some name) → ⊥
    not_waiting name e = cc

    holds : (name : List ℕ) → holder_of name groups ≢ Some m
    holds [] e = no_holder groups m kept.named e
    holds (c ∷ cs) e =
        not_holding (c ∷ cs) (same_some apart (holding (Some (c ∷ cs))) (sym is ∙ (a_holder b (c ∷ cs) m (sym (kept.shown.holder (c ∷ cs) (filled c cs)) ∙ e)).0))

    waits : (name : List ℕ) → waiter_of name groups ≢ Some m
    waits [] e = no_waiter groups m kept.named e
    waits (c ∷ cs) e =
        not_waiting (c ∷ cs) (same_some apart (waiting (Some (c ∷ cs))) (sym is ∙ (a_waiter b (c ∷ cs) m (sym (kept.shown.waiter (c ∷ cs) (filled c cs)) ∙ e)).0))

pub enters_from_outside : GroupLaws → (p : Plan) (b : Board) (groups : Content) → KeptAsShown groups b → EntersFromOutside p b groups
enters_from_outside laws p b groups kept = record {
  opener = λ worker r may. outside laws groups b (Member.Run r) kept (apart_now b (Member.Run r) (row p b worker (Event.Open r)) (opener_apart p b worker r) may);
  asker = λ worker l may. outside laws groups b (Member.Leg l) kept (apart_now b (Member.Leg l) (row p b worker (Event.Ask l)) (asker_apart p b worker l) may);
}

-- ---- one event

unfound : {A : Type 0} (C : Row → Type 0) (worker : ℕ) (o : Option A) (f : Option A → Row) → o ≡ None → C (f None) → C (Err EventFault.NoSuch) → C (if nat_le worker 15 then f o else Err EventFault.NoSuch)
unfound C worker o f is none refused = by_test C (nat_le worker 15) (f o) (Err EventFault.NoSuch) (subst (λ x. C (f x)) (sym is) none) refused

module _ (laws : GroupLaws) (p : Plan) (b : Board) (worker : ℕ) (groups : Content) (lawful : Lawful p b) (kept : KeptAsShown groups b) where
  shows_open : (r : ℕ) (o : Option RunAt) → run_at p b r ≡ o → ShowsThen (run_opened groups r o) (row p b worker (Event.Open r))
  shows_open r None is = unfound (ShowsThen groups) worker (run_at p b r) (λ o. open_found b r o) is tt tt
  shows_open r (Some at) is = opens_as_entered laws.first laws.next laws.same p b worker r at groups lawful is kept.shown

  shows_ask : (l : ℕ) (o : Option LegAt) → leg_at p b l ≡ o → ShowsThen (leg_asked groups l o) (row p b worker (Event.Ask l))
  shows_ask l None is = unfound (ShowsThen groups) worker (leg_at p b l) (λ o. ask_found b l o) is tt tt
  shows_ask l (Some at) is = asks_as_entered laws.first laws.next laws.same p b worker l at groups lawful is kept.shown

  shows_drop : (l : ℕ) (o : Option LegAt) → leg_at p b l ≡ o → ShowsThen (leg_left groups l o) (row p b worker (Event.Drop l))
  shows_drop l None is = unfound (ShowsThen groups) worker (leg_at p b l) (λ o. drop_found b l o) is tt tt
  shows_drop l (Some at) is = drops_as_left laws.release laws.withdraw p b worker l at groups kept.ordered lawful is kept.shown

  shows_finish : (l : ℕ) (o : Option LegAt) → leg_at p b l ≡ o → ShowsThen (leg_left groups l o) (row p b worker (Event.Finish l))
  shows_finish l None is = unfound (ShowsThen groups) worker (leg_at p b l) (λ o. finish_found b worker l o) is tt tt
  shows_finish l (Some at) is = finishes_as_left laws.release laws.withdraw p b worker l at groups kept.ordered lawful is kept.shown

  shows_close : (r : ℕ) (o : Option RunAt) → run_at p b r ≡ o → ShowsThen (run_left groups r o) (row p b worker (Event.Close r))
  shows_close r None is = unfound (ShowsThen groups) worker (run_at p b r) (λ o. close_found b r o) is tt tt
  shows_close r (Some at) is = closes_as_left laws.release laws.withdraw p b worker r at groups kept.ordered lawful is kept.shown

  event_shows : (e : Event) → ShowsThen (after_event p b groups e) (row p b worker e)
  event_shows (Event.Open r) = shows_open r (run_at p b r) refl
  event_shows (Event.Judge j) = judge_shows j p b worker groups kept.shown
  event_shows (Event.Ask l) = shows_ask l (leg_at p b l) refl
  event_shows (Event.Drop l) = shows_drop l (leg_at p b l) refl
  event_shows (Event.Take l) = take_shows l p b worker groups kept.shown
  event_shows (Event.Begin l) = begin_shows l p b worker groups kept.shown
  event_shows (Event.End l a) = end_shows l a p b worker groups kept.shown
  event_shows (Event.Finish l) = shows_finish l (leg_at p b l) refl
  event_shows (Event.Close r) = shows_close r (run_at p b r) refl
  event_shows (Event.Cancel r) = cancel_shows r p b worker groups kept.shown

  sound_now : Sound groups
  sound_now = record { ordered = kept.ordered; named = kept.named; once = kept.once }

  open_sound : (r : ℕ) (o : Option RunAt) → is_accepted (row p b worker (Event.Open r)) ≡ true → Sound (run_opened groups r o)
  open_sound r None may = sound_now
  open_sound r (Some at) may = opened_sound laws groups r sound_now ((enters_from_outside laws p b groups kept).opener worker r may) (run_entrance at)

  ask_sound : (l : ℕ) (o : Option LegAt) → is_accepted (row p b worker (Event.Ask l)) ≡ true → Sound (leg_asked groups l o)
  ask_sound l None may = sound_now
  ask_sound l (Some at) may = asked_sound laws groups l at.place.run sound_now ((enters_from_outside laws p b groups kept).asker worker l may) (leg_entrance at)

  run_left_sound : (r : ℕ) (o : Option RunAt) → Sound (run_left groups r o)
  run_left_sound r None = sound_now
  run_left_sound r (Some at) = left_sound laws groups (Member.Run r) sound_now (run_standing at.run)

  leg_left_sound : (l : ℕ) (o : Option LegAt) → Sound (leg_left groups l o)
  leg_left_sound l None = sound_now
  leg_left_sound l (Some at) = left_sound laws groups (Member.Leg l) sound_now (leg_standing at.leg)

  event_sound : (e : Event) → is_accepted (row p b worker e) ≡ true → Sound (after_event p b groups e)
  event_sound (Event.Open r) may = open_sound r (run_at p b r) may
  event_sound (Event.Ask l) may = ask_sound l (leg_at p b l) may
  event_sound (Event.Drop l) may = leg_left_sound l (leg_at p b l)
  event_sound (Event.Finish l) may = leg_left_sound l (leg_at p b l)
  event_sound (Event.Close r) may = run_left_sound r (run_at p b r)
  event_sound e may = sound_now

  pub event_kept : (e : Event) (x : Board × Reply) → row p b worker e ≡ Ok x → KeptAsShown (after_event p b groups e) x.0
  event_kept e x is =
      let sound = event_sound e (ap is_accepted is) in
      record {
        shown = subst (ShowsThen (after_event p b groups e)) is (event_shows e);
        ordered = sound.ordered;
        named = sound.named;
        once = sound.once;
      }
