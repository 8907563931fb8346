-- Who is found on a board after changes of members, and what the groups keep then.
use Rattle.std.proofs.Common.{◌≡◌, ◌≢◌, ℕ, zero, suc, ◌+◌, ◌≤◌, Bool, true, false, not, ◌&&◌, List, [], ◌∷◌, Option, Some, None, Result, Ok, Err, slice_get, length, ◌-◌, ◌==◌, count_by, option_map, option_and_then, nat_le, nat_lt, if◌then◌else◌, ap, subst, sym, refl, ◌∙◌, arith}
use Rattle.std.specs.List.{AllZip}
use Rattle.std.specs.Str.{bytes_eq}
use Rattle.std.proofs.lemmas.Bool.{true≢false}
use Rattle.std.proofs.lemmas.Slice.Eq.{bytes_eq-Decides}
use Rattle.status_table.specs.Words.{Ascends, Becomes, Board, Content, Done, Entrance, FirstHolds, JobFits, Lawful, Leg, LegAt, LegPlace, LegState, Member, NextDisplaces, Outcome, OwnRunChangesNothing, Plan, ReleasesPassOn, Row, Run, RunAt, RunFits, RunPlan, RunState, Standing, ValueFault, WithdrawsLeaveHolders, admitted, after_enter, after_release, after_withdraw, apart, ask_found, asked, board_legs, cancelled, changed, close_found, close_run, close_waiting, closed, displaced, drop_found, dropped, ended_state, enters_held, finish_found, finish_leg, finishing_by, first_place, holder, holder_of, holding, idle_owner, is_closed, is_fresh, is_full, is_going, is_named, is_open, is_own, is_stopping, is_untaken, jobs_have_ended, leaves, left, leg_at, leg_changed, leg_ended, leg_enters, leg_entrance, leg_outputs, leg_place, leg_result, leg_standing, leg_stands, may_ask, may_drop, moved, open_found, open_run, opened, passed_on, run_at, run_closes, run_enters, run_entrance, run_result, run_standing, stop_told, stopped, told, value_at, waiter, waiter_of, waiters, waiting, waits, waits_name, with_numbered_leg, with_run}
use Rattle.group_admission.specs.Content.{is_own as own_run}
use Rattle.status_table.specs.declared.fault.EventFault.{EventFault}
use Rattle.status_table.specs.Admissions.{Shows, ShowsThen, OpensAsEntered, ClosesAsLeft, DropsAsLeft, AsksAsEntered, FinishesAsLeft}
use Rattle.status_table.specs.Groups.{holds_name, run_or_leg, first_member}
use Rattle.status_table.specs.Members.{count_members, holders}
use Rattle.status_table.proofs.Rank.{run_rank}
use Rattle.board_decisions.proofs.Lists.{and-left, and-right, same_some}
use Rattle.status_table.proofs.Counts.{one, counted, first-some, only_first, map-some}
use Rattle.status_table.proofs.Decided.{by_test}
use Rattle.status_table.proofs.Entering.{Asker}
use Rattle.status_table.proofs.Found.{RunStands, run_stands as run_found, LegStands, leg_stands as leg_found, leg_item}
use Rattle.status_table.proofs.Lists.{changed-cons, changed-there}
use Rattle.status_table.proofs.LegRows.{leg_drops, ask_asker, idle-holds, idle-rank, holding-live}
use Rattle.status_table.proofs.Numbers.{numbered_leg-changed}
use Rattle.status_table.proofs.RunRows.{run_asker, new_changes}
use Rattle.status_table.proofs.Steps.{standing, Step, run_step, Live, leg_step, as_much}
use Rattle.status_table.proofs.Turnover.{FoundBy, found-by, run-waits, leg-waits, passed_step, idle-run, ended-run, right-there, no_holder, no_waiter, a_holder, a_waiter, displaced_step}
use Rattle.status_table.proofs.Turns.{run_legs}

-- ---- the first that stands as a test says

none-first : {A : Type 0} (t : A → Bool) (xs : List A) → count_by t xs ≡ 0 → first_place 0 t xs ≡ None
none-first t xs zero' = by (first_place 0 t xs) refl
  where
    by : (o : Option ℕ) → first_place 0 t xs ≡ o → first_place 0 t xs ≡ None
    by None is = is
    by (Some i) is = let x = first-some t xs i is in let c = counted t xs i x.0 x.1 x.2 in absurd (omega (arith, c, zero'))

found_is : (t : Standing → Bool) (b : Board) (m : Member) (s : Standing) → count_members t b ≤ 1 → standing b m ≡ Some s → t s ≡ true → first_member t b ≡ Some m
found_is t b (Member.Run r) s few at passing =
    let run = map-some run_standing (slice_get b.runs r) s at in
    let passes : t (run_standing run.0) ≡ true = ap t run.2 ∙ passing in
    let first = only_first 0 (λ (x : Run). t (run_standing x)) b.runs r run.0 (omega (arith, few)) run.1 passes in
    let plus : 0 + r ≡ r = omega arith in
    ap (λ o. run_or_leg o (first_place 0 (λ leg. t (leg_standing leg)) (board_legs b))) (first ∙ ap (λ k. Some k) plus)
found_is t b (Member.Leg l) s few at passing =
    let leg = map-some leg_standing (slice_get (board_legs b) l) s at in
    let passes : t (leg_standing leg.0) ≡ true = ap t leg.2 ∙ passing in
    let some = counted (λ (x : Leg). t (leg_standing x)) (board_legs b) l leg.0 leg.1 passes in
    let first = only_first 0 (λ (x : Leg). t (leg_standing x)) (board_legs b) l leg.0 (omega (arith, few)) leg.1 passes in
    let none = none-first (λ (x : Run). t (run_standing x)) b.runs (omega (arith, few, some)) in
    let plus : 0 + l ≡ l = omega arith in
    ap (λ o. run_or_leg o (first_place 0 (λ leg. t (leg_standing leg)) (board_legs b))) none ∙ ap (λ o. run_or_leg None o) (first ∙ ap (λ k. Some k) plus)

found : (t : Standing → Bool) (b : Board) (m : Member) → first_member t b ≡ Some m → (s : Standing) × (standing b m ≡ Some s) × (t s ≡ true) × (1 ≤ count_members t b)
unfolding FoundBy
found t b m h = subst (FoundBy t b) h (found-by t b)

none_found : (t : Standing → Bool) (b : Board) → first_member t b ≡ None → count_members t b ≡ 0
unfolding FoundBy
none_found t b h = subst (FoundBy t b) h (found-by t b)

nobody : (t : Standing → Bool) (b : Board) → count_members t b ≡ 0 → first_member t b ≡ None
nobody t b zero' = by (first_member t b) refl
  where
    by : (o : Option Member) → first_member t b ≡ o → first_member t b ≡ None
    by None is = is
    by (Some m) is = let f = (found t b m is).3 in absurd (omega (arith, f, zero'))

-- one that does not stand so is changed
kept : (t : Standing → Bool) (b new : Board) (m : Member) (s : Standing) → standing b m ≡ Some s → t s ≡ false → ((o : Member) → o ≢ m → standing new o ≡ standing b o)
    → count_members t new ≡ count_members t b → count_members t b ≤ 1 → first_member t new ≡ first_member t b
kept t b new m s was failing others same few = by (first_member t b) refl
  where
    by : (o : Option Member) → first_member t b ≡ o → first_member t new ≡ first_member t b
    by None is = nobody t new (same ∙ none_found t b is) ∙ sym is
    by (Some h) is =
        let f = found t b h is in
        found_is t new h f.0 (omega (arith, few, same)) (others h (λ e. true≢false (sym f.2 ∙ ap t (same_some f.0 s (sym f.1 ∙ ap (standing b) e ∙ was)) ∙ failing)) ∙ f.1) f.2 ∙ sym is

step_holder : (p : Plan) (b new : Board) (m : Member) (s t : Standing) (d : ℕ) → Step p b m s t d new → (k : List ℕ) → holds_name k s ≡ false → holds_name k t ≡ false → holders b k ≤ 1
    → holder new k ≡ holder b k
step_holder p b new m s t d step k not_s not_t few =
    let h = step.holds k in let x = ap one not_s in let y = ap one not_t in
    kept (holds_name k) b new m s step.was not_s step.others (omega (arith, h, x, y)) few

step_waiter : (p : Plan) (b new : Board) (m : Member) (s t : Standing) (d : ℕ) → Step p b m s t d new → (k : List ℕ) → waits_name k s ≡ false → waits_name k t ≡ false → waiters b k ≤ 1
    → waiter new k ≡ waiter b k
step_waiter p b new m s t d step k not_s not_t few =
    let h = step.waits k in let x = ap one not_s in let y = ap one not_t in
    kept (waits_name k) b new m s step.was not_s step.others (omega (arith, h, x, y)) few

-- one is told to stop
pub first-kept : {A : Type 0} (k : ℕ) (t : A → Bool) (xs : List A) (i : ℕ) (f : A → A) → ((x : A) → t (f x) ≡ t x) → first_place k t (changed xs i f) ≡ first_place k t xs
first-kept k t [] i f h = refl
first-kept k t (x ∷ xs) zero f h = ap (λ c. if c then Some k else first_place (suc k) t xs) (h x)
first-kept k t (x ∷ xs) (suc i) f h =
    ap (first_place k t) (changed-cons x xs i f) ∙ ap (λ o. if t x then Some k else o) (first-kept (suc k) t xs i f h)

runs_kept : (t : Standing → Bool) (runs : List Run) (o : Option LegPlace) (f : Leg → Leg) → first_place 0 (λ run. t (run_standing run)) (leg_changed runs o f) ≡ first_place 0 (λ run. t (run_standing run)) runs
runs_kept t runs None f = refl
runs_kept t runs (Some at) f =
    first-kept 0 (λ run. t (run_standing run)) runs at.run (λ run. record run { jobs = changed run.jobs at.job (λ job. record job { legs = changed job.legs at.leg f }) }) (λ x. refl)

pub stop_keeps : (t : Standing → Bool) (b : Board) (c : Bool) (h : Member) → first_member t (stopped b c h) ≡ first_member t b
stop_keeps t b false h = refl
stop_keeps t b true (Member.Run r) =
    let f : Run → Run = λ run. record run { stop = true } in
    ap (λ o. run_or_leg o (first_place 0 (λ leg. t (leg_standing leg)) (board_legs (with_run b r f)))) (first-kept 0 (λ run. t (run_standing run)) b.runs r f (λ x. refl))
    ∙ ap (λ ls. run_or_leg (first_place 0 (λ run. t (run_standing run)) b.runs) (first_place 0 (λ leg. t (leg_standing leg)) ls)) (run_legs b r f (λ run. refl))
stop_keeps t b true (Member.Leg l) =
    let f : Leg → Leg = λ leg. record leg { stop = true } in
    ap (λ o. run_or_leg o (first_place 0 (λ leg. t (leg_standing leg)) (board_legs (with_numbered_leg b l f)))) (runs_kept t b.runs (leg_place b l) f)
    ∙ ap (λ o. run_or_leg (first_place 0 (λ run. t (run_standing run)) b.runs) o)
    (ap (first_place 0 (λ leg. t (leg_standing leg))) (numbered_leg-changed b l f) ∙ first-kept 0 (λ leg. t (leg_standing leg)) (board_legs b) l f (λ x. refl))

-- ---- what entering makes of who is found

record Turned (n : List ℕ) (b new : Board) (h w : Option Member) : Type 0 where
  held : holder new n ≡ h
  waited : waiter new n ≡ w
  holders_stay : (k : List ℕ) → bytes_eq k n ≡ false → holder new k ≡ holder b k
  waiters_stay : (k : List ℕ) → bytes_eq k n ≡ false → waiter new k ≡ waiter b k

self : (n : List ℕ) → bytes_eq n n ≡ true
self n = (bytes_eq-Decides n n).1 refl

one_waiter : (p : Plan) (b : Board) → Lawful p b → (k : List ℕ) → waiters b k ≤ 1
one_waiter p b lawful k = let h = lawful.one.holder k in let w = lawful.one.waiter k in omega (arith, h, w)

-- nobody held the name
turned_first : (p : Plan) (b new : Board) (m : Member) (n : List ℕ) → Lawful p b → Step p b m apart (holding (Some n)) 1 new → standing new m ≡ Some (holding (Some n)) → holder b n ≡ None
    → Turned n b new (Some m) None
turned_first p b new m n lawful step now none =
    let free = no_holder b n none in
    let h = step.holds n in let w = step.waits n in let c = ap one (self n) in let waits' = lawful.one.waiter n in
    record {
      held = found_is (holds_name n) new m (holding (Some n)) (omega (arith, h, c, free)) now (self n);
      waited = nobody (waits_name n) new (omega (arith, w, free, waits'));
      holders_stay = λ k other. step_holder p b new m apart (holding (Some n)) 1 step k refl other (lawful.one.holder k);
      waiters_stay = λ k other. step_waiter p b new m apart (holding (Some n)) 1 step k refl refl (one_waiter p b lawful k);
    }

-- somebody did, and nobody waited
turned_next : (p : Plan) (b b1 : Board) (m h : Member) (n : List ℕ) (cancel : Bool) → Lawful p b → Step p b m apart (waiting (Some n)) 1 b1 → standing b1 m ≡ Some (waiting (Some n))
    → holder b n ≡ Some h → waiter b n ≡ None → Turned n b (stopped b1 cancel h) (Some h) (Some m)
turned_next p b b1 m h n cancel lawful step now held none =
    let free = no_waiter b n none in
    let w = step.waits n in let c = ap one (self n) in
    record {
      held = stop_keeps (holds_name n) b1 cancel h ∙ step_holder p b b1 m apart (waiting (Some n)) 1 step n refl refl (lawful.one.holder n) ∙ held;
      waited = stop_keeps (waits_name n) b1 cancel h ∙ found_is (waits_name n) b1 m (waiting (Some n)) (omega (arith, w, c, free)) now (self n);
      holders_stay = λ k other. stop_keeps (holds_name k) b1 cancel h ∙ step_holder p b b1 m apart (waiting (Some n)) 1 step k refl refl (lawful.one.holder k);
      waiters_stay = λ k other. stop_keeps (waits_name k) b1 cancel h ∙ step_waiter p b b1 m apart (waiting (Some n)) 1 step k refl other (one_waiter p b lawful k);
    }

-- who waited is displaced
turned_over : (p : Plan) (b b1 : Board) (m h w : Member) (n : List ℕ) (cancel : Bool) → Lawful p b → Step p b m apart (waiting (Some n)) 1 b1 → standing b1 m ≡ Some (waiting (Some n))
    → holder b n ≡ Some h → waiter b n ≡ Some w → Turned n b (stopped (displaced b1 (Some w)) cancel h) (Some h) (Some m)
turned_over p b b1 m h w n cancel lawful step now held waited =
    let b2 = displaced b1 (Some w) in
    let w0 = (a_waiter b n w waited).0 in
    let w_m : w ≢ m = λ e. apart_waiting (same_some apart (waiting (Some n)) (sym step.was ∙ ap (standing b) (sym e) ∙ w0)) in
    let out = displaced_step p b1 w (Some n) step.fits (step.others w w_m ∙ w0) in
    let s1 = step.waits n in let s2 = out.waits n in let c = ap one (self n) in let few = one_waiter p b lawful n in
    let holders1 : (k : List ℕ) → holders b1 k ≤ 1 = λ k. let x = step.holds k in let y = lawful.one.holder k in omega (arith, x, y) in
    record {
      held = stop_keeps (holds_name n) b2 cancel h ∙ step_holder p b1 b2 w (waiting (Some n)) apart 0 out n refl refl (holders1 n)
          ∙ step_holder p b b1 m apart (waiting (Some n)) 1 step n refl refl (lawful.one.holder n) ∙ held;
      waited = stop_keeps (waits_name n) b2 cancel h
          ∙ found_is (waits_name n) b2 m (waiting (Some n)) (omega (arith, s1, s2, c, few)) (out.others m (λ e. w_m (sym e)) ∙ now) (self n);
      holders_stay = λ k other. stop_keeps (holds_name k) b2 cancel h ∙ step_holder p b1 b2 w (waiting (Some n)) apart 0 out k refl refl (holders1 k)
          ∙ step_holder p b b1 m apart (waiting (Some n)) 1 step k refl refl (lawful.one.holder k);
      waiters_stay = λ k other. stop_keeps (waits_name k) b2 cancel h
          ∙ step_waiter p b1 b2 w (waiting (Some n)) apart 0 out k other refl (let x = step.waits k in let y = ap one other in let z = one_waiter p b lawful k in omega (arith, x, y, z))
          ∙ step_waiter p b b1 m apart (waiting (Some n)) 1 step k refl other (one_waiter p b lawful k);
    }
  where
    apart_waiting : apart ≡ waiting (Some n) → ⊥
    apart_waiting e = cc

-- ---- the groups as they are kept

shown : (groups : Content) (b new : Board) (n : List ℕ) (m : Member) (own : Option ℕ) (h w : Option Member) → Shows groups b → Turned n b new h w
    → (n ≢ [] → Becomes n groups (after_enter n m own groups) h w) → Shows (after_enter n m own groups) new
shown groups b new n m own h w shows turned becomes = record {
  holder = λ k some. by_holder k some (bytes_eq k n) refl;
  waiter = λ k some. by_waiter k some (bytes_eq k n) refl;
}
  where
    elsewhere : (k x : List ℕ) → (x ≢ [] → Becomes x groups (after_enter x m own groups) h w) → k ≢ x → value_at k (after_enter x m own groups) ≡ value_at k groups
    elsewhere k [] law differs = refl
    elsewhere k (c ∷ cs) law differs = (law (λ e. no e)).others k differs
      where
        no : c ∷ cs ≡ [] → ⊥
        no e = cc

    apart_from : (k : List ℕ) → bytes_eq k n ≡ false → k ≢ n
    apart_from k is e = true≢false (sym ((bytes_eq-Decides k n).1 e) ∙ is)

    by_holder : (k : List ℕ) → k ≢ [] → (c : Bool) → bytes_eq k n ≡ c → holder_of k (after_enter n m own groups) ≡ holder new k
    by_holder k some true is =
        let e : k ≡ n = (bytes_eq-Decides k n).0 is in
        ap (λ x. holder_of x (after_enter n m own groups)) e ∙ (becomes (λ z. some (e ∙ z))).holder ∙ sym turned.held ∙ ap (holder new) (sym e)
    by_holder k some false is =
        ap (λ o. option_map (λ held. held.holder) o) (elsewhere k n becomes (apart_from k is)) ∙ shows.holder k some ∙ sym (turned.holders_stay k is)

    by_waiter : (k : List ℕ) → k ≢ [] → (c : Bool) → bytes_eq k n ≡ c → waiter_of k (after_enter n m own groups) ≡ waiter new k
    by_waiter k some true is =
        let e : k ≡ n = (bytes_eq-Decides k n).0 is in
        ap (λ x. waiter_of x (after_enter n m own groups)) e ∙ (becomes (λ z. some (e ∙ z))).waiter ∙ sym turned.waited ∙ ap (waiter new) (sym e)
    by_waiter k some false is =
        ap (λ o. option_and_then (λ held. held.waiter) o) (elsewhere k n becomes (apart_from k is)) ∙ shows.waiter k some ∙ sym (turned.waiters_stay k is)

-- a change that takes part in no group
shown_still : (p : Plan) (groups : Content) (b new : Board) (m : Member) (t : Standing) → Lawful p b → Step p b m apart t 1 new
    → ((k : List ℕ) → holds_name k t ≡ false) → ((k : List ℕ) → waits_name k t ≡ false) → Shows groups b → Shows groups new
shown_still p groups b new m t lawful step no_hold no_wait shows = record {
  holder = λ k some. shows.holder k some ∙ sym (step_holder p b new m apart t 1 step k refl (no_hold k) (lawful.one.holder k));
  waiter = λ k some. shows.waiter k some ∙ sym (step_waiter p b new m apart t 1 step k refl (no_wait k) (one_waiter p b lawful k));
}

-- ---- entering

own_same : (own : Option ℕ) (h : Member) → own_run own h ≡ is_own own h
own_same None h = refl
own_same (Some r) (Member.Run s) = refl
own_same (Some r) (Member.Leg l) = refl

either_shows : (groups : Content) (c : Bool) (x y : Done) → (c ≡ true → Shows groups x.0) → (c ≡ false → Shows groups y.0) → Shows groups (if c then x else y).0
either_shows groups true x y f g = f refl
either_shows groups false x y f g = g refl

module _ (first : FirstHolds) (next : NextDisplaces) (same : OwnRunChangesNothing) (p : Plan) (b : Board) (m : Member) (own : Option ℕ) (groups : Content)
    (lawful : Lawful p b) (shows : Shows groups b) (asker : Asker p b m own) (refused : Step p b m apart apart 1 (cancelled b m))
    (now_admitted : (name : Option (List ℕ)) → standing (admitted b name m) m ≡ Some (holding name))
    (now_waits : (n : List ℕ) → standing (waits b n m) m ≡ Some (waiting (Some n))) where
  -- its own run holds the name
  own_shows : (group : Entrance) (h : Member) → holder b group.name ≡ Some h → is_own own h ≡ true → Shows (after_enter group.name m own groups) (cancelled b m)
  own_shows group h is_h mine =
      let still = shown_still p groups b (cancelled b m) m apart lawful refused (λ k. refl) (λ k. refl) shows in
      subst (λ g. Shows g (cancelled b m)) (sym (unchanged group.name (λ some. (same group.name m h own group.cancel groups some (shows.holder group.name some ∙ is_h) (own_same own h ∙ mine)).1))) still
    where
      unchanged : (n : List ℕ) → (n ≢ [] → after_enter n m own groups ≡ groups) → after_enter n m own groups ≡ groups
      unchanged [] law = refl
      unchanged (c ∷ cs) law = law (λ e. filled e)
        where
          filled : c ∷ cs ≡ [] → ⊥
          filled e = cc

  held_shows : (group : Entrance) (h w : Option Member) → holder b group.name ≡ h → waiter b group.name ≡ w
      → Shows (after_enter group.name m own groups) (enters_held b m own group h w).0
  held_shows group None w is_h is_w =
      let n = group.name in
      shown groups b (admitted b (Some n) m) n m own (Some m) None shows
      (turned_first p b (admitted b (Some n) m) m n lawful (asker.admit (Some n)) (now_admitted (Some n)) is_h)
      (λ some. (first n m own group.cancel groups some (shows.holder n some ∙ is_h)).1)
  held_shows group (Some h) None is_h is_w =
      let n = group.name in
      either_shows (after_enter n m own groups) (is_own own h) (cancelled b m, moved) (stopped (waits b n m) group.cancel h, told None None (stop_told group.cancel h))
      (λ mine. own_shows group h is_h mine)
      (λ not_own. shown groups b (stopped (waits b n m) group.cancel h) n m own (Some h) (Some m) shows
      (turned_next p b (waits b n m) m h n group.cancel lawful (asker.wait n h is_h not_own) (now_waits n) is_h is_w)
      (λ some. (next n m h own group.cancel groups some (shows.holder n some ∙ is_h) (own_same own h ∙ not_own)).1))
  held_shows group (Some h) (Some w) is_h is_w =
      let n = group.name in
      either_shows (after_enter n m own groups) (is_own own h) (cancelled b m, moved)
      (stopped (displaced (waits b n m) (Some w)) group.cancel h, told None (Some w) (stop_told group.cancel h))
      (λ mine. own_shows group h is_h mine)
      (λ not_own. shown groups b (stopped (displaced (waits b n m) (Some w)) group.cancel h) n m own (Some h) (Some m) shows
      (turned_over p b (waits b n m) m h w n group.cancel lawful (asker.wait n h is_h not_own) (now_waits n) is_h is_w)
      (λ some. (next n m h own group.cancel groups some (shows.holder n some ∙ is_h) (own_same own h ∙ not_own)).1))

  none_shows : Shows groups (admitted b None m)
  none_shows = shown_still p groups b (admitted b None m) m (holding None) lawful (asker.admit None) (λ k. refl) (λ k. refl) shows

-- ---- Open

module _ (first : FirstHolds) (next : NextDisplaces) (same : OwnRunChangesNothing) (p : Plan) (b : Board) (r : ℕ) (at : RunAt) (stands : RunStands p b r at) (groups : Content)
    (lawful : Lawful p b) (shows : Shows groups b) (is : at.run.state ≡ RunState.New) (stop : at.run.stop ≡ false) where
  new_closed : (result : Outcome) → Step p b (Member.Run r) apart apart 1 (closed b r result)
  new_closed result = new_changes p b r at stands is (λ x. record x { state = RunState.Closed result }) (λ x. refl) (closed b r result) refl apart refl
      (let e = ap (λ s. run_rank s at.run.stop) is in omega (arith, e)) lawful

  run_admitted : (name : Option (List ℕ)) → standing (admitted b name (Member.Run r)) (Member.Run r) ≡ Some (holding name)
  run_admitted name = ap (option_map run_standing) (changed-there b.runs r (λ run. record run { state = RunState.Going; group = name }) at.run stands.run)

  run_waits : (n : List ℕ) → standing (waits b n (Member.Run r)) (Member.Run r) ≡ Some (waiting (Some n))
  run_waits n = ap (option_map run_standing) (changed-there b.runs r (λ run. record run { state = RunState.Waiting; group = Some n }) at.run stands.run)

  enters_shows : (x : Result (Option Entrance) ValueFault) → ShowsThen (opened groups r x) (run_enters b r x)
  enters_shows (Ok None) =
      none_shows first next same p b (Member.Run r) None groups lawful shows (run_asker p b r at stands lawful is stop) (new_closed Outcome.Cancelled) run_admitted run_waits
  enters_shows (Ok (Some group)) =
      held_shows first next same p b (Member.Run r) None groups lawful shows (run_asker p b r at stands lawful is stop) (new_closed Outcome.Cancelled) run_admitted run_waits
      group (holder b group.name) (waiter b group.name) refl refl
  enters_shows (Err f) =
      shown_still p groups b (closed b r Outcome.Failure) (Member.Run r) apart lawful (new_closed Outcome.Failure) (λ k. refl) (λ k. refl) shows

pub opens_as_entered : FirstHolds → NextDisplaces → OwnRunChangesNothing → OpensAsEntered
opens_as_entered first next same p b worker r at groups lawful is shows =
    by_test (ShowsThen after) (nat_le worker 15) (open_found b r (run_at p b r)) (Err EventFault.NoSuch)
    (subst (λ (o : Option RunAt). ShowsThen after (open_found b r o)) (sym is) (by at.run.state at.run.stop refl refl)) tt
  where
    after : Content
    after = opened groups r (run_entrance at)

    by : (s : RunState) (stop : Bool) → at.run.state ≡ s → at.run.stop ≡ stop → ShowsThen after (open_run b r at s stop)
    by RunState.New false new stop = enters_shows first next same p b r at (run_found p b r at is) groups lawful shows new stop (run_entrance at)
    by RunState.New true new stop = tt
    by RunState.Waiting c new stop = tt
    by RunState.Going c new stop = tt
    by (RunState.Closed result) c new stop = tt

-- ---- leaving

-- who waited goes on
now_passed : (b : Board) (w : Member) (name : Option (List ℕ)) → standing b w ≡ Some (waiting name) → standing (passed_on b (Some w)) w ≡ Some (holding name)
now_passed b (Member.Run r) name h =
    let run = map-some run_standing (slice_get b.runs r) (waiting name) h in
    let is = run-waits run.0.state run.0.group name run.2 in
    ap (option_map run_standing) (changed-there b.runs r (λ x. record x { state = RunState.Going }) run.0 run.1) ∙ ap (λ g. Some (holding g)) is.1
now_passed b (Member.Leg l) name h =
    let leg = map-some leg_standing (slice_get (board_legs b) l) (waiting name) h in
    let is = leg-waits leg.0.state leg.0.group name leg.2 in
    let f : Leg → Leg = λ x. record x { state = LegState.Admitted } in
    ap (λ ls. option_map leg_standing (slice_get ls l)) (numbered_leg-changed b l f)
    ∙ ap (option_map leg_standing) (changed-there (board_legs b) l f leg.0 leg.1) ∙ ap (λ g. Some (holding g)) is.1

record Freed (n : List ℕ) (b new : Board) : Type 0 where
  held : holder new n ≡ waiter b n
  waited : waiter new n ≡ None
  holders_stay : (k : List ℕ) → bytes_eq k n ≡ false → holder new k ≡ holder b k
  waiters_stay : (k : List ℕ) → bytes_eq k n ≡ false → waiter new k ≡ waiter b k

freed : (p : Plan) (b after : Board) (m : Member) (n : List ℕ) → Lawful p b → Step p b m (holding (Some n)) apart 1 after → (w : Option Member) → waiter b n ≡ w → Freed n b (passed_on after w)
freed p b after m n lawful step None is =
    let h = step.holds n in let c = ap one (self n) in let few = lawful.one.holder n in
    record {
      held = nobody (holds_name n) after (omega (arith, h, c, few)) ∙ sym is;
      waited = step_waiter p b after m (holding (Some n)) apart 1 step n refl refl (one_waiter p b lawful n) ∙ is;
      holders_stay = λ k other. step_holder p b after m (holding (Some n)) apart 1 step k other refl (lawful.one.holder k);
      waiters_stay = λ k other. step_waiter p b after m (holding (Some n)) apart 1 step k refl refl (one_waiter p b lawful k);
    }
freed p b after m n lawful step (Some w) is =
    let new = passed_on after (Some w) in
    let w0 = (a_waiter b n w is).0 in
    let w_m : w ≢ m = λ e. held_waiting (same_some (holding (Some n)) (waiting (Some n)) (sym step.was ∙ ap (standing b) (sym e) ∙ w0)) in
    let w1 = step.others w w_m ∙ w0 in
    let next = passed_step p after w (Some n) step.fits w1 in
    let h = step.holds n in let c = ap one (self n) in let few = lawful.one.holder n in let h' = next.holds n in
    let v = step.waits n in let v' = next.waits n in let few' = one_waiter p b lawful n in
    record {
      held = found_is (holds_name n) new w (holding (Some n)) (omega (arith, h, c, few, h')) (now_passed after w (Some n) w1) (self n) ∙ sym is;
      waited = nobody (waits_name n) new (omega (arith, v, v', c, few'));
      holders_stay = λ k other.
          step_holder p after new w (waiting (Some n)) (holding (Some n)) 0 next k refl other (let x = step.holds k in let y = lawful.one.holder k in let z = ap one other in omega (arith, x, y, z))
          ∙ step_holder p b after m (holding (Some n)) apart 1 step k other refl (lawful.one.holder k);
      waiters_stay = λ k other.
          step_waiter p after new w (waiting (Some n)) (holding (Some n)) 0 next k other refl (let x = step.waits k in let y = one_waiter p b lawful k in omega (arith, x, y))
          ∙ step_waiter p b after m (holding (Some n)) apart 1 step k refl refl (one_waiter p b lawful k);
    }
  where
    held_waiting : holding (Some n) ≡ waiting (Some n) → ⊥
    held_waiting e = cc

module _ (release : ReleasesPassOn) (withdraw : WithdrawsLeaveHolders) (p : Plan) (b after : Board) (m : Member) (groups : Content)
    (ordered : Ascends groups) (lawful : Lawful p b) (shows : Shows groups b) where
  not_holder : (s : Standing) → standing b m ≡ Some s → (k : List ℕ) → k ≢ [] → holds_name k s ≡ false → holder_of k groups ≢ Some m
  not_holder s was k some no_hold e =
      let h = a_holder b k m (sym (shows.holder k some) ∙ e) in
      true≢false (sym (self k) ∙ ap (holds_name k) (same_some (holding (Some k)) s (sym h.0 ∙ was)) ∙ no_hold)

  not_waiter : (s : Standing) → standing b m ≡ Some s → (k : List ℕ) → k ≢ [] → waits_name k s ≡ false → waiter_of k groups ≢ Some m
  not_waiter s was k some no_wait e =
      let h = a_waiter b k m (sym (shows.waiter k some) ∙ e) in
      true≢false (sym (self k) ∙ ap (waits_name k) (same_some (waiting (Some k)) s (sym h.0 ∙ was)) ∙ no_wait)

  withdrawn_shows : (name : Option (List ℕ)) → Step p b m (waiting name) apart 1 after → Shows (after_withdraw m groups) after
  withdrawn_shows name step = record {
    holder = λ k some. (withdraw groups m k ordered).holder ∙ shows.holder k some ∙ sym (step_holder p b after m (waiting name) apart 1 step k refl refl (lawful.one.holder k));
    waiter = λ k some. by k some (is_named k name) refl;
  }
    where
      by : (k : List ℕ) → k ≢ [] → (c : Bool) → is_named k name ≡ c → waiter_of k (after_withdraw m groups) ≡ waiter after k
      by k some true is =
          let w = step.waits k in let c = ap one is in let few = one_waiter p b lawful k in
          (withdraw groups m k ordered).waiter (shows.waiter k some ∙ found_is (waits_name k) b m (waiting name) few step.was is)
          ∙ sym (nobody (waits_name k) after (omega (arith, w, c, few)))
      by k some false is =
          ap (λ o. option_and_then (λ held. held.waiter) o) ((withdraw groups m k ordered).others (not_waiter (waiting name) step.was k some is))
          ∙ shows.waiter k some ∙ sym (step_waiter p b after m (waiting name) apart 1 step k is refl (one_waiter p b lawful k))

  released_none : Step p b m (holding None) apart 1 after → Shows (after_release m groups) after
  released_none step = record {
    holder = λ k some. ap (λ o. option_map (λ held. held.holder) o) ((release groups m k ordered).others (not_holder (holding None) step.was k some refl))
        ∙ shows.holder k some ∙ sym (step_holder p b after m (holding None) apart 1 step k refl refl (lawful.one.holder k));
    waiter = λ k some. ap (λ o. option_and_then (λ held. held.waiter) o) ((release groups m k ordered).others (not_holder (holding None) step.was k some refl))
        ∙ shows.waiter k some ∙ sym (step_waiter p b after m (holding None) apart 1 step k refl refl (one_waiter p b lawful k));
  }

  released_shows : (n : List ℕ) → Step p b m (holding (Some n)) apart 1 after → Shows (after_release m groups) (passed_on after (waiter b n))
  released_shows n step = record {
    holder = λ k some. by_holder k some (bytes_eq k n) refl;
    waiter = λ k some. by_waiter k some (bytes_eq k n) refl;
  }
    where
      new : Board
      new = passed_on after (waiter b n)

      free : Freed n b new
      free = freed p b after m n lawful step (waiter b n) refl

      mine : (k : List ℕ) → k ≢ [] → k ≡ n → holder_of k groups ≡ Some m
      mine k some e = shows.holder k some ∙ ap (holder b) e ∙ found_is (holds_name n) b m (holding (Some n)) (lawful.one.holder n) step.was (self n)

      by_holder : (k : List ℕ) → k ≢ [] → (c : Bool) → bytes_eq k n ≡ c → holder_of k (after_release m groups) ≡ holder new k
      by_holder k some true is =
          let e : k ≡ n = (bytes_eq-Decides k n).0 is in
          (release groups m k ordered).holder (mine k some e) ∙ shows.waiter k some ∙ ap (waiter b) e ∙ sym free.held ∙ ap (holder new) (sym e)
      by_holder k some false is =
          ap (λ o. option_map (λ held. held.holder) o) ((release groups m k ordered).others (not_holder (holding (Some n)) step.was k some is))
          ∙ shows.holder k some ∙ sym (free.holders_stay k is)

      by_waiter : (k : List ℕ) → k ≢ [] → (c : Bool) → bytes_eq k n ≡ c → waiter_of k (after_release m groups) ≡ waiter new k
      by_waiter k some true is =
          let e : k ≡ n = (bytes_eq-Decides k n).0 is in
          (release groups m k ordered).waiter (mine k some e) ∙ sym free.waited ∙ ap (waiter new) (sym e)
      by_waiter k some false is =
          ap (λ o. option_and_then (λ held. held.waiter) o) ((release groups m k ordered).others (not_holder (holding (Some n)) step.was k some is))
          ∙ shows.waiter k some ∙ sym (free.waiters_stay k is)

  leaves_shows : (s : Standing) → Step p b m s apart 1 after → Shows (left groups m s) (leaves b s after).0
  leaves_shows apart step = shown_still p groups b after m apart lawful step (λ k. refl) (λ k. refl) shows
  leaves_shows (waiting name) step = withdrawn_shows name step
  leaves_shows (holding None) step = released_none step
  leaves_shows (holding (Some n)) step = released_shows n step

shows-if : (groups : Content) (c : Bool) (r s : Row) → (c ≡ true → ShowsThen groups r) → (c ≡ false → ShowsThen groups s) → ShowsThen groups (if c then r else s)
shows-if groups true r s f g = f refl
shows-if groups false r s f g = g refl

-- ---- Close

pub closes_as_left : ReleasesPassOn → WithdrawsLeaveHolders → ClosesAsLeft
closes_as_left release withdraw p b worker r at groups ordered lawful is shows =
    by_test (ShowsThen after) (nat_le worker 15) (close_found b r (run_at p b r)) (Err EventFault.NoSuch)
    (subst (λ (o : Option RunAt). ShowsThen after (close_found b r o)) (sym is) (by at.run.state refl)) tt
  where
    after : Content
    after = left groups (Member.Run r) (run_standing at.run)

    stands : RunStands p b r at
    stands = run_found p b r at is

    some-left : (s : RunState) (stop : Bool) → is_closed s ≡ false → 1 ≤ run_rank s stop
    some-left (RunState.Closed result) stop h = absurd (true≢false h)
    some-left s stop h = omega arith

    ends : (result : Outcome) → is_closed at.run.state ≡ false
        → ((plan : RunPlan) → RunFits plan at.run → AllZip (JobFits (RunState.Closed result) at.run.group) plan.jobs at.run.jobs) → ShowsThen after (run_closes b r at.run result)
    ends result unclosed fit =
        let some = some-left at.run.state at.run.stop unclosed in
        leaves_shows release withdraw p b (closed b r result) (Member.Run r) groups ordered lawful shows (run_standing at.run)
        (run_step p b r (λ x. record x { state = RunState.Closed result }) at.run stands.run (λ x. refl) (closed b r result) refl (run_standing at.run) apart 1 lawful.fits
        unclosed fit refl refl (omega (arith, some)))

    idle : (stop : Bool) → is_closed at.run.state ≡ false → is_going at.run.state ≡ false → ShowsThen after (close_waiting b r at.run stop)
    idle true unclosed quiet = ends Outcome.Cancelled unclosed (λ plan all. idle-run at.run.state (RunState.Closed Outcome.Cancelled) at.run.group at.run.group plan.jobs at.run.jobs quiet all)
    idle false unclosed quiet = tt

    by : (s : RunState) → at.run.state ≡ s → ShowsThen after (close_run b r at.run s)
    by RunState.Going state = shows-if after (jobs_have_ended at.run) (run_closes b r at.run (run_result at.run)) (Err EventFault.NeedsOpen)
        (λ ended. ends (run_result at.run) (ap is_closed state) (λ plan all. ended-run at.run (RunState.Closed (run_result at.run)) plan.jobs at.run.jobs (ap is_closed state) ended all))
        (λ _. tt)
    by (RunState.Closed result) state = tt
    by s state = idle at.run.stop (ap is_closed state) (ap is_going state)

-- ---- Drop

pub drops_as_left : ReleasesPassOn → WithdrawsLeaveHolders → DropsAsLeft
drops_as_left release withdraw p b worker l at groups ordered lawful is shows =
    by_test (ShowsThen after) (nat_le worker 15) (drop_found b l (leg_at p b l)) (Err EventFault.NoSuch)
    (subst (λ (o : Option LegAt). ShowsThen after (drop_found b l o)) (sym is)
    (shows-if after (not (may_drop at)) (Err EventFault.WrongState) stopping (λ _. tt)
    (λ ready. shows-if after (is_stopping at) gone (Err EventFault.NotStopping) (λ _. ends (not-not (may_drop at) ready)) (λ _. tt)))) tt
  where
    after : Content
    after = left groups (Member.Leg l) (leg_standing at.leg)

    gone : Row
    gone = Ok (leaves b (leg_standing at.leg) (dropped b l Outcome.Cancelled))

    stopping : Row
    stopping = if is_stopping at then gone else Err EventFault.NotStopping

    not-not : (c : Bool) → not c ≡ false → c ≡ true
    not-not true h = refl
    not-not false h = sym h

    ends : may_drop at ≡ true → ShowsThen after gone
    ends all =
        let stands = leg_found p b l at is in
        let two = and-left (is_going at.run.state && is_open at.job.state) (is_untaken at.leg.state) all in
        let live : Live p b l at = record { stands = stands; going = and-left (is_going at.run.state) (is_open at.job.state) two; opened = and-right (is_going at.run.state) (is_open at.job.state) two } in
        leaves_shows release withdraw p b (dropped b l Outcome.Cancelled) (Member.Leg l) groups ordered lawful shows (leg_standing at.leg)
        (leg_drops p b l at stands (leg_standing at.leg) Outcome.Cancelled lawful.fits live (and-right (is_going at.run.state && is_open at.job.state) (is_untaken at.leg.state) all) refl)

-- ---- Ask

module _ (first : FirstHolds) (next : NextDisplaces) (same : OwnRunChangesNothing) (p : Plan) (b : Board) (l : ℕ) (at : LegAt) (stands : LegStands p b l at) (groups : Content)
    (lawful : Lawful p b) (shows : Shows groups b) (live : Live p b l at) (is : at.leg.state ≡ LegState.Fresh) (free : is_full at.job_plan at.job ≡ false) where
  fresh_dropped : (result : Outcome) → Step p b (Member.Leg l) apart apart 1 (dropped b l result)
  fresh_dropped result = leg_drops p b l at stands apart result lawful.fits live (ap is_untaken is) (ap (λ s. leg_stands s at.leg.group) is)

  leg_now : (f : Leg → Leg) → option_map leg_standing (slice_get (board_legs (with_numbered_leg b l f)) l) ≡ Some (leg_standing (f at.leg))
  leg_now f =
      ap (λ ls. option_map leg_standing (slice_get ls l)) (numbered_leg-changed b l f)
      ∙ ap (option_map leg_standing) (changed-there (board_legs b) l f at.leg (leg_item p b l at stands))

  leg_asks : (x : Result (Option Entrance) ValueFault) → ShowsThen (asked groups l at.place.run x) (leg_enters b l at x)
  leg_asks (Ok None) =
      none_shows first next same p b (Member.Leg l) (Some at.place.run) groups lawful shows (ask_asker p b l at stands lawful live is free) (fresh_dropped Outcome.Cancelled)
      (λ name. leg_now (λ leg. record leg { state = LegState.Admitted; group = name })) (λ n. leg_now (λ leg. record leg { state = LegState.Waiting; group = Some n }))
  leg_asks (Ok (Some group)) =
      held_shows first next same p b (Member.Leg l) (Some at.place.run) groups lawful shows (ask_asker p b l at stands lawful live is free) (fresh_dropped Outcome.Cancelled)
      (λ name. leg_now (λ leg. record leg { state = LegState.Admitted; group = name })) (λ n. leg_now (λ leg. record leg { state = LegState.Waiting; group = Some n }))
      group (holder b group.name) (waiter b group.name) refl refl
  leg_asks (Err f) =
      shown_still p groups b (dropped b l Outcome.Failure) (Member.Leg l) apart lawful (fresh_dropped Outcome.Failure) (λ k. refl) (λ k. refl) shows

is-fresh : (s : LegState) → is_fresh s ≡ true → s ≡ LegState.Fresh
is-fresh LegState.Fresh h = refl
is-fresh s h = absurd (true≢false (sym h))

pub asks_as_entered : FirstHolds → NextDisplaces → OwnRunChangesNothing → AsksAsEntered
asks_as_entered first next same p b worker l at groups lawful is shows =
    by_test (ShowsThen after) (nat_le worker 15) (ask_found b l (leg_at p b l)) (Err EventFault.NoSuch)
    (subst (λ (o : Option LegAt). ShowsThen after (ask_found b l o)) (sym is)
    (shows-if after (not (may_ask at)) (Err EventFault.WrongState) unstarted (λ _. tt)
    (λ ready. shows-if after (is_full at.job_plan at.job) (Err EventFault.SlotsFull) unstopped (λ _. tt)
    (λ free. shows-if after (is_stopping at) (Err EventFault.Stopping) (leg_enters b l at (leg_entrance at)) (λ _. tt)
    (λ _. enters (not-not (may_ask at) ready) free))))) tt
  where
    after : Content
    after = asked groups l at.place.run (leg_entrance at)

    unstopped : Row
    unstopped = if is_stopping at then Err EventFault.Stopping else leg_enters b l at (leg_entrance at)

    unstarted : Row
    unstarted = if is_full at.job_plan at.job then Err EventFault.SlotsFull else unstopped

    not-not : (c : Bool) → not c ≡ false → c ≡ true
    not-not true h = refl
    not-not false h = sym h

    enters : may_ask at ≡ true → is_full at.job_plan at.job ≡ false → ShowsThen after (leg_enters b l at (leg_entrance at))
    enters all free =
        let stands = leg_found p b l at is in
        let two = and-left (is_going at.run.state && is_open at.job.state) (is_fresh at.leg.state) all in
        let live : Live p b l at = record { stands = stands; going = and-left (is_going at.run.state) (is_open at.job.state) two; opened = and-right (is_going at.run.state) (is_open at.job.state) two } in
        leg_asks first next same p b l at stands groups lawful shows live
        (is-fresh at.leg.state (and-right (is_going at.run.state && is_open at.job.state) (is_fresh at.leg.state) all)) free (leg_entrance at)

-- ---- Finish

pub finishes_as_left : ReleasesPassOn → WithdrawsLeaveHolders → FinishesAsLeft
finishes_as_left release withdraw p b worker l at groups ordered lawful is shows =
    by_test (ShowsThen after) (nat_le worker 15) (finish_found b worker l (leg_at p b l)) (Err EventFault.NoSuch)
    (subst (λ (o : Option LegAt). ShowsThen after (finish_found b worker l o)) (sym is) (by_owner (idle_owner at.leg.state) refl)) tt
  where
    after : Content
    after = left groups (Member.Leg l) (leg_standing at.leg)

    ended : (owner : ℕ) → idle_owner at.leg.state ≡ Some owner → ShowsThen after (finish_leg b l at (Ok (ended_state at (leg_result at))))
    ended owner was =
        let stands = leg_found p b l at is in
        let state = ended_state at (leg_result at) in
        let f : Leg → Leg = λ x. record x { state = state; outputs = leg_outputs at } in
        let new = leg_ended b at.place l state (leg_outputs at) in
        let holds = idle-holds at.leg.state owner was in
        let rank = idle-rank at.leg.state owner (256 - length at.leg.steps) was in
        let live = holding-live p b l at lawful.fits stands holds.under in
        leaves_shows release withdraw p b new (Member.Leg l) groups ordered lawful shows (leg_standing at.leg)
        (leg_step p b l at f live new refl (leg_standing at.leg) apart 1 lawful.fits holds.running
        (right-there at.run.state at.run.group at.job.state (f at.leg) live.going live.opened refl)
        (as_much p b l at f live new refl (omega arith)) refl refl (omega (arith, rank)))

    by_owner : (owner : Option ℕ) → idle_owner at.leg.state ≡ owner → ShowsThen after (finish_leg b l at (finishing_by worker at owner))
    by_owner None was = tt
    by_owner (Some owner) was = tests (not (worker == owner)) (nat_lt (length at.leg.steps) (length at.job_plan.steps))
      where
        tests : (other more : Bool)
            → ShowsThen after (finish_leg b l at (if other then Err EventFault.OtherWorker else (if more then Err EventFault.StepsLeft else Ok (ended_state at (leg_result at)))))
        tests true more = tt
        tests false true = tt
        tests false false = ended owner was
