-- Entering a group and leaving it keep the shape of a board, and its ends.
use Rattle.std.proofs.Common.{◌≡◌, ℕ, ◌+◌, ◌≤◌, ◌==◌, ◌++◌, Bool, true, false, List, [], ◌∷◌, Option, Some, None, slice_get, count_by, cond, if◌then◌else◌, inl, inr, ap, subst, sym, refl, ◌∙◌, arith}
use Rattle.std.specs.List.{flat_map}
use Rattle.std.proofs.lemmas.Bool.{cases_eq}
use Rattle.std.proofs.lemmas.Bool.Decides.{nat_tests}
use Rattle.std.proofs.lemmas.List.Sums.{sum_by-append}
use Rattle.status_table.specs.Words.{Board, Done, EndOnce, Entrance, HasShape, Job, JobPlan, JobShape, Leg, LegPlace, LegState, Member, Outcome, Plan, Run, RunShape, RunState, admitted, board_legs, cancelled, changed, closed, displaced, dropped, enters, enters_held, has_room, holder, is_ended, is_own, leaves, leg_changed, leg_place, leg_standing, moved, next_after, passed_on, run_standing, stop_told, stopped, times_ended, told, waiter, waits, with_numbered_leg, with_run}
use Rattle.status_table.specs.Shape.{steps_begun}
use Rattle.status_table.proofs.Lists.{changed-there, changed-elsewhere, changed-same, length-changed, flat_map-kept, zip-changed, all-each}
use Rattle.board_decisions.proofs.Lists.{same_some}
use Rattle.status_table.proofs.Numbers.{numbered_leg-changed}
use Rattle.status_table.proofs.Standings.{Unended, waiter_unended, next_other, next_unended}

-- a board that has its plan's shape, and whose ends are the legs that are Ended
pub record Fits (p : Plan) (b : Board) : Type 0 where
  pub shape : HasShape p b
  pub ends : EndOnce b

-- ---- a run

pub run_legs : (b : Board) (r : ℕ) (f : Run → Run) → ((run : Run) → (f run).jobs ≡ run.jobs) → board_legs (with_run b r f) ≡ board_legs b
run_legs b r f jobs = ap (flat_map (λ job. job.legs)) (flat_map-kept (λ run. run.jobs) b.runs r f jobs)

-- where the legs are the same, so is how often each ended
pub same_legs : (b c : Board) → board_legs c ≡ board_legs b → c.ends ≡ b.ends → EndOnce b → EndOnce c
same_legs b c legs ends h l = ap (count_by (λ end. end == l)) ends ∙ h l ∙ ap (λ xs. times_ended (slice_get xs l)) (sym legs)

pub run_kept : (p : Plan) (b : Board) (r : ℕ) (f : Run → Run) → ((run : Run) → (f run).jobs ≡ run.jobs) → Fits p b → Fits p (with_run b r f)
run_kept p b r f jobs h = record {
  shape = zip-changed RunShape p.runs b.runs r f (λ q run _ _ fit. subst (λ js. RunShape q (record run { jobs = js })) (sym (jobs run)) fit) h.shape;
  ends = same_legs b (with_run b r f) (run_legs b r f jobs) refl h.ends;
}

-- ---- a leg by its number

abbrev in_job : ℕ → (Leg → Leg) → Job → Job
in_job k f job = record job { legs = changed job.legs k f }

abbrev in_run : LegPlace → (Leg → Leg) → Run → Run
in_run at f run = record run { jobs = changed run.jobs at.job (in_job at.leg f) }

-- the leg has begun no more steps than before
abbrev pub NoMoreSteps : (Leg → Leg) → Type 0
NoMoreSteps f = (leg : Leg) → steps_begun (f leg) ≤ steps_begun leg

room_kept : (plan : JobPlan) (leg new : Leg) → steps_begun new ≤ steps_begun leg → has_room plan leg ≡ true → has_room plan new ≡ true
room_kept plan leg new less had = grind (arith, nat_tests, less, had)

numbered_shape : (p : Plan) (b : Board) (l : ℕ) (f : Leg → Leg) → NoMoreSteps f → HasShape p b → HasShape p (with_numbered_leg b l f)
numbered_shape p b l f less shape = by_place (leg_place b l)
  where
    by_place : (found : Option LegPlace) → HasShape p (record b { runs = leg_changed b.runs found f })
    by_place None = shape
    by_place (Some at) =
        zip-changed RunShape p.runs b.runs at.run (in_run at f) (λ q run _ _ fit.
        zip-changed JobShape q.jobs run.jobs at.job (in_job at.leg f) (λ plan job _ _ here. record {
          legs = length-changed job.legs at.leg f ∙ here.legs;
          steps = all-each (has_room plan) job.legs at.leg f (λ leg. room_kept plan leg (f leg) (less leg)) here.steps;
        }) fit) shape

-- a change that keeps whether a leg is Ended
pub numbered_kept : (p : Plan) (b : Board) (l : ℕ) (f : Leg → Leg) → NoMoreSteps f
    → ((leg : Leg) → slice_get (board_legs b) l ≡ Some leg → times_ended (Some (f leg)) ≡ times_ended (Some leg))
    → Fits p b → Fits p (with_numbered_leg b l f)
numbered_kept p b l f less same h = record {
  shape = numbered_shape p b l f less h.shape;
  ends = λ k. h.ends k ∙ sym (ap (λ xs. times_ended (slice_get xs k)) (numbered_leg-changed b l f) ∙ changed-same times_ended (board_legs b) l f same k);
}

times_unended : (leg : Leg) → is_ended leg.state ≡ false → times_ended (Some leg) ≡ 0
times_unended leg h = ap (λ c. if c then 1 else 0) h

-- a leg that has not ended stays so
pub unended_kept : (p : Plan) (b : Board) (l : ℕ) (f : Leg → Leg) → NoMoreSteps f → Unended b (Member.Leg l) → ((leg : Leg) → is_ended (f leg).state ≡ false)
    → Fits p b → Fits p (with_numbered_leg b l f)
unended_kept p b l f less before now =
    numbered_kept p b l f less (λ leg there.
    times_unended (f leg) (now leg)
    ∙ sym (times_unended leg (ap (λ x. is_ended x.state) (same_some leg before.0 (sym there ∙ before.1)) ∙ before.2)))

-- ---- a leg ends, last of all

count-push : (xs : List ℕ) (l k : ℕ) → count_by (λ end. end == k) (xs ++ l ∷ []) ≡ count_by (λ end. end == k) xs + cond (l == k) 1 0
count-push xs l k = let e = sum_by-append (λ x. cond (x == k) 1 0) xs (l ∷ []) in omega (arith, e)

-- its number is pushed where it is changed so as to be Ended
pub ends_pushed : (b c : Board) (l : ℕ) (f : Leg → Leg) (leg : Leg) → c.ends ≡ b.ends ++ l ∷ [] → board_legs c ≡ changed (board_legs b) l f
    → slice_get (board_legs b) l ≡ Some leg → is_ended leg.state ≡ false → is_ended (f leg).state ≡ true → EndOnce b → EndOnce c
ends_pushed b c l f leg pushed legs item before now h k =
    let more = count-push b.ends l k in
    let all = ap (count_by (λ end. end == k)) pushed in
    let had = h k in
    let new = ap (λ xs. times_ended (slice_get xs k)) legs in
    let one = once k in
    omega (arith, more, all, had, new, one)
  where
    once : (k : ℕ) → times_ended (slice_get (changed (board_legs b) l f) k) ≡ times_ended (slice_get (board_legs b) k) + cond (l == k) 1 0
    once k = elim (cases_eq k l) as (λ _. times_ended (slice_get (changed (board_legs b) l f) k) ≡ times_ended (slice_get (board_legs b) k) + cond (l == k) 1 0) [
      | inl e ↦
          let new : times_ended (slice_get (changed (board_legs b) l f) k) ≡ 1 =
          ap (λ i. times_ended (slice_get (changed (board_legs b) l f) i)) e
          ∙ ap times_ended (changed-there (board_legs b) l f leg item)
          ∙ ap (λ c. if c then 1 else 0) now in
          let old : times_ended (slice_get (board_legs b) k) ≡ 0 =
          ap (λ i. times_ended (slice_get (board_legs b) i)) e ∙ ap times_ended item ∙ times_unended leg before in
          let one : ◌≡◌ {A = ℕ} (cond (l == k) 1 0) 1 = grind (arith, nat_tests, e) in
          omega (arith, new, old, one)
      | inr n ↦
          let same = ap times_ended (changed-elsewhere (board_legs b) l f k n) in
          let none : ◌≡◌ {A = ℕ} (cond (l == k) 1 0) 0 = grind (arith, nat_tests, n) in
          omega (arith, same, none)
    ]

pub drop_fits : (p : Plan) (b : Board) (l : ℕ) (result : Outcome) → Unended b (Member.Leg l) → Fits p b → Fits p (dropped b l result)
drop_fits p b l result before h = record {
  shape = numbered_shape p b l f (λ leg. omega arith) h.shape;
  ends = ends_pushed b (dropped b l result) l f before.0 refl (numbered_leg-changed b l f) before.1 before.2 refl h.ends;
}
  where
    f : Leg → Leg
    f leg = record leg { state = LegState.Ended result false }

-- ---- the changes of a member

pub close_fits : (p : Plan) (b : Board) (r : ℕ) (result : Outcome) → Fits p b → Fits p (closed b r result)
close_fits p b r result = run_kept p b r (λ run. record run { state = RunState.Closed result }) (λ run. refl)

admit_fits : (p : Plan) (b : Board) (name : Option (List ℕ)) (m : Member) → Unended b m → Fits p b → Fits p (admitted b name m)
admit_fits p b name (Member.Run r) before = run_kept p b r (λ run. record run { state = RunState.Going; group = name }) (λ run. refl)
admit_fits p b name (Member.Leg l) before = unended_kept p b l (λ leg. record leg { state = LegState.Admitted; group = name }) (λ leg. omega arith) before (λ leg. refl)

wait_fits : (p : Plan) (b : Board) (name : List ℕ) (m : Member) → Unended b m → Fits p b → Fits p (waits b name m)
wait_fits p b name (Member.Run r) before = run_kept p b r (λ run. record run { state = RunState.Waiting; group = Some name }) (λ run. refl)
wait_fits p b name (Member.Leg l) before = unended_kept p b l (λ leg. record leg { state = LegState.Waiting; group = Some name }) (λ leg. omega arith) before (λ leg. refl)

pub pass_fits : (p : Plan) (b : Board) (next : Option Member) → ((w : Member) → next ≡ Some w → Unended b w) → Fits p b → Fits p (passed_on b next)
pass_fits p b None before h = h
pass_fits p b (Some (Member.Run r)) before h = run_kept p b r (λ run. record run { state = RunState.Going }) (λ run. refl) h
pass_fits p b (Some (Member.Leg l)) before h =
    unended_kept p b l (λ leg. record leg { state = LegState.Admitted }) (λ leg. omega arith) (before (Member.Leg l) refl) (λ leg. refl) h

cancel_fits : (p : Plan) (b : Board) (m : Member) → Unended b m → Fits p b → Fits p (cancelled b m)
cancel_fits p b (Member.Run r) before = close_fits p b r Outcome.Cancelled
cancel_fits p b (Member.Leg l) before = drop_fits p b l Outcome.Cancelled before

displace_fits : (p : Plan) (b : Board) (waited : Option Member) → ((w : Member) → waited ≡ Some w → Unended b w) → Fits p b → Fits p (displaced b waited)
displace_fits p b None before h = h
displace_fits p b (Some w) before h = cancel_fits p b w (before w refl) h

pub stop_fits : (p : Plan) (b : Board) (wanted : Bool) (m : Member) → Fits p b → Fits p (stopped b wanted m)
stop_fits p b false m h = h
stop_fits p b true (Member.Run r) h = run_kept p b r (λ run. record run { stop = true }) (λ run. refl) h
stop_fits p b true (Member.Leg l) h = numbered_kept p b l (λ leg. record leg { stop = true }) (λ leg. omega arith) (λ leg _. refl) h

-- who has not ended has not while another begins to wait
still_unended : (b : Board) (name : List ℕ) (m w : Member) → Unended b w → Unended (waits b name m) w
still_unended b name m (Member.Run r) h = tt
still_unended b name (Member.Run r) (Member.Leg l) h =
    (h.0, ap (λ legs. slice_get legs l) (run_legs b r (λ run. record run { state = RunState.Waiting; group = Some name }) (λ run. refl)) ∙ h.1, h.2)
still_unended b name (Member.Leg k) (Member.Leg l) h =
    elim (cases_eq l k) as (λ _. Unended (waits b name (Member.Leg k)) (Member.Leg l)) [
      | inl e ↦
          let there : slice_get (board_legs b) k ≡ Some h.0 = ap (slice_get (board_legs b)) (sym e) ∙ h.1 in
          (f h.0, ap (λ legs. slice_get legs l) (numbered_leg-changed b k f) ∙ ap (slice_get (changed (board_legs b) k f)) e ∙ changed-there (board_legs b) k f h.0 there, refl)
      | inr n ↦ (h.0, ap (λ legs. slice_get legs l) (numbered_leg-changed b k f) ∙ changed-elsewhere (board_legs b) k f l n ∙ h.1, h.2)
    ]
  where
    f : Leg → Leg
    f leg = record leg { state = LegState.Waiting; group = Some name }

-- ---- entering and leaving

either_fits : (p : Plan) (c : Bool) (x y : Done) → Fits p x.0 → Fits p y.0 → Fits p (if c then x else y).0
either_fits p true x y first second = first
either_fits p false x y first second = second

held_fits : (p : Plan) (b : Board) (m : Member) (own : Option ℕ) (group : Entrance) (held waited : Option Member) → waiter b group.name ≡ waited
    → Unended b m → Fits p b → Fits p (enters_held b m own group held waited).0
held_fits p b m own group None waited is before h = admit_fits p b (Some group.name) m before h
held_fits p b m own group (Some holds) waited is before h =
    either_fits p (is_own own holds) (cancelled b m, moved)
    (stopped (displaced (waits b group.name m) waited) group.cancel holds, told None waited (stop_told group.cancel holds))
    (cancel_fits p b m before h)
    (stop_fits p (displaced (waits b group.name m) waited) group.cancel holds
    (displace_fits p (waits b group.name m) waited (λ w same. still_unended b group.name m w (waiter_unended b group.name w (is ∙ same)))
    (wait_fits p b group.name m before h)))

pub enter_fits : (p : Plan) (b : Board) (m : Member) (own : Option ℕ) (group : Option Entrance) → Unended b m → Fits p b → Fits p (enters b m own group).0
enter_fits p b m own None before h = admit_fits p b None m before h
enter_fits p b m own (Some group) before h = held_fits p b m own group (holder b group.name) (waiter b group.name) refl before h

-- a run that has ended leaves its group
pub run_leaves : (p : Plan) (b : Board) (r : ℕ) (run : Run) (result : Outcome) → Fits p b → Fits p (leaves b (run_standing run) (closed b r result)).0
run_leaves p b r run result h =
    pass_fits p (closed b r result) (next_after b (run_standing run)) (λ w is. still w (next_unended b (run_standing run) w is)) (close_fits p b r result h)
  where
    still : (w : Member) → Unended b w → Unended (closed b r result) w
    still (Member.Run s) before = tt
    still (Member.Leg l) before =
        (before.0, ap (λ legs. slice_get legs l) (run_legs b r (λ x. record x { state = RunState.Closed result }) (λ x. refl)) ∙ before.1, before.2)

-- a leg that has ended leaves its group
pub leg_leaves : (p : Plan) (b after : Board) (l : ℕ) (leg : Leg) (f : Leg → Leg) → slice_get (board_legs b) l ≡ Some leg
    → board_legs after ≡ changed (board_legs b) l f → Fits p after → Fits p (leaves b (leg_standing leg) after).0
leg_leaves p b after l leg f there legs = pass_fits p after (next_after b (leg_standing leg)) still
  where
    still : (w : Member) → next_after b (leg_standing leg) ≡ Some w → Unended after w
    still (Member.Run s) is = tt
    still (Member.Leg k) is =
        let next = next_other b l leg there k is in
        (next.0.0, ap (λ xs. slice_get xs k) legs ∙ changed-elsewhere (board_legs b) l f k next.1 ∙ next.0.1, next.0.2)
