-- Who is found as the holder of a name or as its waiter.
use Rattle.std.proofs.Common.{◌≡◌, ◌≢◌, ℕ, zero, suc, ◌+◌, Bool, true, false, List, [], ◌∷◌, Option, Some, None, slice_get, drop, cond, ap, sym, refl, ◌∙◌, arith}
use Rattle.std.proofs.lemmas.Bool.{true≢false}
use Rattle.status_table.specs.Words.{Board, Leg, LegState, Member, Standing, board_legs, first_place, holding, is_ended, leg_standing, leg_stands, next_after, numbered_leg, run_standing, waiter, waits_name}
use Rattle.status_table.specs.Groups.{run_or_leg, first_member}
use Rattle.board_decisions.proofs.Lists.{same_some, no_some}
use Rattle.status_table.proofs.Numbers.{legs_are_numbered}

-- the leg at the place of a number is that item of all legs
pub item_numbered : (b : Board) (n : ℕ) → numbered_leg b n ≡ slice_get (board_legs b) n
item_numbered b n = (legs_are_numbered b).there n

-- ---- the first that passes a test

-- the rest of a list from an item on
pub drop_at : {A : Type 0} (xs : List A) (i : ℕ) (x : A) → slice_get xs i ≡ Some x → drop i xs ≡ x ∷ drop (i + 1) xs
drop_at [] i x h = absurd (no_some x h)
drop_at (y ∷ ys) zero x h = ap (λ z. z ∷ ys) (same_some y x h)
drop_at (y ∷ ys) (suc i) x h = let e : suc i + 1 ≡ suc (i + 1) = omega arith in drop_at ys i x h ∙ ap (λ n. x ∷ drop n (y ∷ ys)) (sym e)

drop_none : {A : Type 0} (xs : List A) (i : ℕ) → slice_get xs i ≡ None → drop i xs ≡ []
drop_none [] zero h = refl
drop_none [] (suc i) h = refl
drop_none (y ∷ ys) zero h = absurd (no_some y (sym h))
drop_none (y ∷ ys) (suc i) h = drop_none ys i h

-- the search goes on past an item that does not pass
pub first_next : {A : Type 0} (test : A → Bool) (xs : List A) (i : ℕ) (x : A) (o : Option ℕ) → drop i xs ≡ x ∷ drop (i + 1) xs → test x ≡ false
    → first_place i test (drop i xs) ≡ o → first_place (i + 1) test (drop (i + 1) xs) ≡ o
first_next test xs i x o rest fails h =
    let more : i + 1 ≡ suc i = omega arith in
    ap (λ k. first_place k test (drop (i + 1) xs)) more
    ∙ sym (ap (λ c. cond c (Some i) (first_place (suc i) test (drop (i + 1) xs))) fails)
    ∙ sym (ap (first_place i test) rest)
    ∙ h

-- it ends at one that passes
pub first_here : {A : Type 0} (test : A → Bool) (xs : List A) (i : ℕ) (x : A) (o : Option ℕ) → drop i xs ≡ x ∷ drop (i + 1) xs → test x ≡ true
    → first_place i test (drop i xs) ≡ o → Some i ≡ o
first_here test xs i x o rest passes h =
    sym (ap (λ c. cond c (Some i) (first_place (suc i) test (drop (i + 1) xs))) passes) ∙ sym (ap (first_place i test) rest) ∙ h

-- and finds nothing past the end
pub first_past : {A : Type 0} (test : A → Bool) (xs : List A) (i : ℕ) (o : Option ℕ) → slice_get xs i ≡ None → first_place i test (drop i xs) ≡ o → None ≡ o
first_past test xs i o past h = sym (ap (first_place i test) (drop_none xs i past)) ∙ h

-- it stands where it was found, and passes
pub record FirstAt {A : Type 0} (k : ℕ) (test : A → Bool) (xs : List A) (i : ℕ) : Type 0 where
  pub place : ℕ
  pub item : A
  pub is : i ≡ k + place
  pub there : slice_get xs place ≡ Some item
  pub passes : test item ≡ true

pub first_at : {A : Type 0} (k : ℕ) (test : A → Bool) (xs : List A) (i : ℕ) → first_place k test xs ≡ Some i → FirstAt k test xs i
first_at k test [] i h = absurd (no_some i h)
first_at {A} k test (x ∷ xs) i h = step (test x) refl h (first_at (suc k) test xs i)
  where
    step : (c : Bool) → test x ≡ c → cond c (Some k) (first_place (suc k) test xs) ≡ Some i
        → (first_place (suc k) test xs ≡ Some i → FirstAt (suc k) test xs i) → FirstAt k test (x ∷ xs) i
    step true is found later = let same = same_some k i found in record { place = 0; item = x; is = omega (arith, same); there = refl; passes = is }
    step false is found later =
        let rest = later found in
        let shifted = rest.is in
        record { place = suc rest.place; item = rest.item; is = omega (arith, shifted); there = rest.there; passes = rest.passes }

-- ---- a leg that was found

-- a leg with a number stands as a test says
pub record LegFound (b : Board) (test : Standing → Bool) (l : ℕ) : Type 0 where
  pub leg : Leg
  pub there : slice_get (board_legs b) l ≡ Some leg
  pub passes : test (leg_standing leg) ≡ true

pub leg_found : (b : Board) (test : Standing → Bool) (l : ℕ) → first_member test b ≡ Some (Member.Leg l) → LegFound b test l
leg_found b test l h =
    by_run (first_place 0 (λ run. test (run_standing run)) b.runs) (first_place 0 (λ leg. test (leg_standing leg)) (board_legs b)) refl h
  where
    run_leg : (r k : ℕ) → Some (Member.Run r) ≡ Some (Member.Leg k) → ⊥
    run_leg r k e = cc

    leg_leg : (j k : ℕ) → Some (Member.Leg j) ≡ Some (Member.Leg k) → j ≡ k
    leg_leg j k e = cc

    by_run : (o q : Option ℕ) → first_place 0 (λ leg. test (leg_standing leg)) (board_legs b) ≡ q → run_or_leg o q ≡ Some (Member.Leg l) → LegFound b test l
    by_run (Some r) q is e = absurd (run_leg r l e)
    by_run None None is e = absurd (no_some (Member.Leg l) e)
    by_run None (Some k) is e =
        let found = first_at 0 (λ leg. test (leg_standing leg)) (board_legs b) k is in
        let shifted = found.is in
        let same = leg_leg k l e in
        let place : l ≡ found.place = omega (arith, shifted, same) in
        record { leg = found.item; there = ap (slice_get (board_legs b)) place ∙ found.there; passes = found.passes }

-- ---- who waits has not ended

-- a member is no leg that is Ended
abbrev pub Unended : Board → Member → Type 0
Unended b (Member.Run r) = Unit {0}
Unended b (Member.Leg l) = (leg : Leg) × (slice_get (board_legs b) l ≡ Some leg) × (is_ended leg.state ≡ false)

waits_unended : (s : LegState) (group : Option (List ℕ)) (name : List ℕ) → waits_name name (leg_stands s group) ≡ true → is_ended s ≡ false
waits_unended (LegState.Ended result tolerated) group name h = absurd (true≢false (sym h))
waits_unended s group name h = refl

pub waiter_unended : (b : Board) (name : List ℕ) (w : Member) → waiter b name ≡ Some w → Unended b w
waiter_unended b name (Member.Run r) h = tt
waiter_unended b name (Member.Leg l) h =
    let found = leg_found b (waits_name name) l h in
    (found.leg, found.there, waits_unended found.leg.state found.leg.group name found.passes)

-- who is next after a leg has not ended, and is not that leg
pub next_other : (b : Board) (l : ℕ) (leg : Leg) → slice_get (board_legs b) l ≡ Some leg → (k : ℕ) → next_after b (leg_standing leg) ≡ Some (Member.Leg k)
    → Unended b (Member.Leg k) × (k ≢ l)
next_other b l leg there k next = by_standing (leg_standing leg) refl next
  where
    by_standing : (s : Standing) → leg_standing leg ≡ s → next_after b s ≡ Some (Member.Leg k) → Unended b (Member.Leg k) × (k ≢ l)
    by_standing (holding (Some name)) is h =
        let found = leg_found b (waits_name name) k h in (
          waiter_unended b name (Member.Leg k) h,
          λ same.
              let one : found.leg ≡ leg = same_some found.leg leg (sym found.there ∙ ap (slice_get (board_legs b)) same ∙ there) in
              true≢false (sym found.passes ∙ ap (λ x. waits_name name (leg_standing x)) one ∙ ap (waits_name name) is),
        )
    by_standing s is h = absurd (no_some (Member.Leg k) h)

-- who is next after a run has not ended
pub next_unended : (b : Board) (s : Standing) (w : Member) → next_after b s ≡ Some w → Unended b w
next_unended b (holding (Some name)) w h = waiter_unended b name w h
next_unended b s w h = absurd (no_some w h)
