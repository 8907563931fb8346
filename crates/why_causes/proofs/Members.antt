-- How runs and legs stand after one of them was changed.
use Rattle.std.proofs.Common.{◌≡◌, ◌≢◌, ℕ, Bool, true, false, List, Option, Some, None, slice_get, inl, inr, ap, subst, sym, refl, ◌∙◌}
use Rattle.std.specs.List.{flat_map}
use Rattle.std.proofs.lemmas.Bool.{cases_eq}
use Rattle.status_table.specs.Words.{Board, Job, JobPlace, Leg, LegPlace, LegState, Member, Outcome, Run, RunState, admitted, board_legs, cancelled, changed, closed, displaced, dropped, holder, holding, leg_changed, leg_place, leg_standing, passed_on, run_standing, stopped, waiter, waiting, waits, with_job, with_numbered_leg, with_run}
use Rattle.why_causes.specs.Stands.{Has}
use Rattle.status_table.proofs.Counts.{map-some}
use Rattle.status_table.proofs.Lists.{changed-elsewhere, changed-there, flat_map-kept, flat_map-twice}
use Rattle.board_decisions.proofs.Lists.{same_some}
use Rattle.status_table.proofs.Numbers.{numbered_leg-changed}
use Rattle.status_table.proofs.Turnover.{a_holder, a_waiter, leg-waits, run-waits}
use Rattle.status_table.proofs.Turns.{run_legs}

-- ---- any state

abbrev pub OfRun : Type 1
OfRun = RunState → Bool → Type 0

abbrev pub OfLeg : Type 1
OfLeg = LegState → Bool → Type 0

abbrev pub any_run : OfRun
any_run s told = Unit {0}

abbrev pub any_leg : OfLeg
any_leg s told = Unit {0}

-- there is such a member
abbrev pub Exists : Board → Member → Type 0
Exists b m = Has b m any_run any_leg

abbrev pub run_in : RunState → OfRun
run_in state s told = s ≡ state

abbrev pub leg_in : LegState → OfLeg
leg_in state s told = s ≡ state

-- it was told to stop
abbrev pub run_told : OfRun
run_told s told = told ≡ true

abbrev pub leg_told : OfLeg
leg_told s told = told ≡ true

-- A run cannot stand in two ways that exclude each other.
pub run_clash : (R S : OfRun) (b : Board) (r : ℕ) → ((s : RunState) (told : Bool) → R s told → S s told → ⊥) → Has b (Member.Run r) R any_leg → Has b (Member.Run r) S any_leg → ⊥
run_clash R S b r apart x y = apart x.0.state x.0.stop x.2 (subst (λ (run : Run). S run.state run.stop) (same_some y.0 x.0 (sym y.1 ∙ x.1)) y.2)

-- nor can a leg
pub leg_clash : (L M : OfLeg) (b : Board) (l : ℕ) → ((s : LegState) (told : Bool) → L s told → M s told → ⊥) → Has b (Member.Leg l) any_run L → Has b (Member.Leg l) any_run M → ⊥
leg_clash L M b l apart x y = apart x.0.state x.0.stop x.2 (subst (λ (leg : Leg). M leg.state leg.stop) (same_some y.0 x.0 (sym y.1 ∙ x.1)) y.2)

-- nor can either
pub clash : (R S : OfRun) (L M : OfLeg) (b : Board) (m : Member) → ((s : RunState) (told : Bool) → R s told → S s told → ⊥)
    → ((s : LegState) (told : Bool) → L s told → M s told → ⊥) → Has b m R L → Has b m S M → ⊥
clash R S L M b (Member.Run r) runs legs x y = run_clash R S b r runs x y
clash R S L M b (Member.Leg l) runs legs x y = leg_clash L M b l legs x y

-- what follows of how a member stands
pub weaker : (R S : OfRun) (L M : OfLeg) (b : Board) (m : Member) → ((s : RunState) (told : Bool) → R s told → S s told)
    → ((s : LegState) (told : Bool) → L s told → M s told) → Has b m R L → Has b m S M
weaker R S L M b (Member.Run r) runs legs x = (x.0, x.1, runs x.0.state x.0.stop x.2)
weaker R S L M b (Member.Leg l) runs legs x = (x.0, x.1, legs x.0.state x.0.stop x.2)

pub exists : (R : OfRun) (L : OfLeg) (b : Board) (m : Member) → Has b m R L → Exists b m
exists R L b m x = weaker R any_run L any_leg b m (λ s told _. tt) (λ s told _. tt) x

-- it is all the same what has ended
pub same_runs : (R : OfRun) (L : OfLeg) (b c : Board) (m : Member) → c.runs ≡ b.runs → Has b m R L → Has c m R L
same_runs R L b c (Member.Run r) same x = (x.0, ap (λ (runs : List Run). slice_get runs r) same ∙ x.1, x.2)
same_runs R L b c (Member.Leg l) same x = (x.0, ap (λ (runs : List Run). slice_get (board_legs (record b { runs = runs })) l) same ∙ x.1, x.2)

-- ---- one member is changed

-- the board with a run changed, or a leg
abbrev pub change_of : Board → Member → (Run → Run) → (Leg → Leg) → Board
change_of b (Member.Run r) f g = with_run b r f
change_of b (Member.Leg l) f g = with_numbered_leg b l g

abbrev pub KeepsJobs : (Run → Run) → Type 0
KeepsJobs f = (run : Run) → (f run).jobs ≡ run.jobs

-- a run stands as it was changed to
pub run_there : (R S : OfRun) (L M : OfLeg) (b : Board) (r : ℕ) (f : Run → Run) → ((run : Run) → R run.state run.stop → S (f run).state (f run).stop)
    → Has b (Member.Run r) R L → Has (with_run b r f) (Member.Run r) S M
run_there R S L M b r f runs x = (f x.0, changed-there b.runs r f x.0 x.1, runs x.0 x.2)

-- and so does a leg
pub leg_there : (R S : OfRun) (L M : OfLeg) (b : Board) (l : ℕ) (g : Leg → Leg) → ((leg : Leg) → L leg.state leg.stop → M (g leg).state (g leg).stop)
    → Has b (Member.Leg l) R L → Has (with_numbered_leg b l g) (Member.Leg l) S M
leg_there R S L M b l g legs x =
    (g x.0, ap (λ (all : List Leg). slice_get all l) (numbered_leg-changed b l g) ∙ changed-there (board_legs b) l g x.0 x.1, legs x.0 x.2)

-- a run stands so where the change of a run keeps how it stands
run_kept : (R : OfRun) (b : Board) (r k : ℕ) (f : Run → Run) → ((run : Run) → R run.state run.stop → R (f run).state (f run).stop)
    → (run : Run) → slice_get b.runs r ≡ Some run → R run.state run.stop → (other : Run) × (slice_get (with_run b k f).runs r ≡ Some other) × R other.state other.stop
run_kept R b r k f keeps run is holds = elim (cases_eq r k) as (λ _. (other : Run) × (slice_get (changed b.runs k f) r ≡ Some other) × R other.state other.stop) [
  | inl e ↦ (f run, ap (slice_get (changed b.runs k f)) e ∙ changed-there b.runs k f run (sym (ap (slice_get b.runs) e) ∙ is), keeps run holds)
  | inr n ↦ (run, changed-elsewhere b.runs k f r n ∙ is, holds)
]

-- the run in which a leg is changed keeps its state and its flag
run_of_leg : (R : OfRun) (b : Board) (r l : ℕ) (g : Leg → Leg) (run : Run) → slice_get b.runs r ≡ Some run → R run.state run.stop
    → (other : Run) × (slice_get (with_numbered_leg b l g).runs r ≡ Some other) × R other.state other.stop
run_of_leg R b r l g run is holds = by_place (leg_place b l)
  where
    by_place : (found : Option LegPlace) → (other : Run) × (slice_get (leg_changed b.runs found g) r ≡ Some other) × R other.state other.stop
    by_place None = (run, is, holds)
    by_place (Some at) =
        run_kept R b r at.run (λ run. record run { jobs = changed run.jobs at.job (λ job. record job { legs = changed job.legs at.leg g }) }) (λ run h. h) run is holds

-- the others stand as they stood
pub others : (R : OfRun) (L : OfLeg) (b : Board) (m w : Member) (f : Run → Run) (g : Leg → Leg) → KeepsJobs f → w ≢ m → Has b w R L → Has (change_of b m f g) w R L
others R L b (Member.Run r) (Member.Run k) f g jobs apart x = (x.0, changed-elsewhere b.runs r f k (λ e. apart (ap Member.Run e)) ∙ x.1, x.2)
others R L b (Member.Run r) (Member.Leg k) f g jobs apart x = (x.0, ap (λ (all : List Leg). slice_get all k) (run_legs b r f jobs) ∙ x.1, x.2)
others R L b (Member.Leg l) (Member.Run k) f g jobs apart x = run_of_leg R b k l g x.0 x.1 x.2
others R L b (Member.Leg l) (Member.Leg k) f g jobs apart x =
    (x.0, ap (λ (all : List Leg). slice_get all k) (numbered_leg-changed b l g) ∙ changed-elsewhere (board_legs b) l g k (λ e. apart (ap Member.Leg e)) ∙ x.1, x.2)

-- whoever it is: where the change keeps how one stands, it stands so
pub kept : (R : OfRun) (L : OfLeg) (b : Board) (m w : Member) (f : Run → Run) (g : Leg → Leg) → KeepsJobs f
    → ((run : Run) → R run.state run.stop → R (f run).state (f run).stop) → ((leg : Leg) → L leg.state leg.stop → L (g leg).state (g leg).stop)
    → Has b w R L → Has (change_of b m f g) w R L
kept R L b (Member.Run r) (Member.Run k) f g jobs runs legs x = run_kept R b k r f runs x.0 x.1 x.2
kept R L b (Member.Run r) (Member.Leg k) f g jobs runs legs x = (x.0, ap (λ (all : List Leg). slice_get all k) (run_legs b r f jobs) ∙ x.1, x.2)
kept R L b (Member.Leg l) (Member.Run k) f g jobs runs legs x = run_of_leg R b k l g x.0 x.1 x.2
kept R L b (Member.Leg l) (Member.Leg k) f g jobs runs legs x = elim (cases_eq k l) as (λ _. Has (with_numbered_leg b l g) (Member.Leg k) R L) [
  | inl e ↦ (
    g x.0,
    ap (λ (all : List Leg). slice_get all k) (numbered_leg-changed b l g)
        ∙ ap (slice_get (changed (board_legs b) l g)) e
        ∙ changed-there (board_legs b) l g x.0 (sym (ap (slice_get (board_legs b)) e) ∙ x.1),
    legs x.0 x.2,
  )
  | inr n ↦ (x.0, ap (λ (all : List Leg). slice_get all k) (numbered_leg-changed b l g) ∙ changed-elsewhere (board_legs b) l g k n ∙ x.1, x.2)
]

-- ---- the changes of members

-- what is made of a run or a leg that waits
waiting_run : List ℕ → Run → Run
waiting_run name run = record run { state = RunState.Waiting; group = Some name }

waiting_leg : List ℕ → Leg → Leg
waiting_leg name leg = record leg { state = LegState.Waiting; group = Some name }

-- that goes on
going_run : Run → Run
going_run run = record run { state = RunState.Going }

going_leg : Leg → Leg
going_leg leg = record leg { state = LegState.Admitted }

-- that has ended cancelled
ended_run : Run → Run
ended_run run = record run { state = RunState.Closed Outcome.Cancelled }

ended_leg : Leg → Leg
ended_leg leg = record leg { state = LegState.Ended Outcome.Cancelled false }

waits_is : (b : Board) (name : List ℕ) (m : Member) → waits b name m ≡ change_of b m (waiting_run name) (waiting_leg name)
unfolding waiting_run waiting_leg
waits_is b name (Member.Run r) = refl
waits_is b name (Member.Leg l) = refl

passed_is : (b : Board) (m : Member) → passed_on b (Some m) ≡ change_of b m going_run going_leg
unfolding going_run going_leg
passed_is b (Member.Run r) = refl
passed_is b (Member.Leg l) = refl

cancelled_is : (b : Board) (m : Member) → (cancelled b m).runs ≡ (change_of b m ended_run ended_leg).runs
unfolding ended_run ended_leg
cancelled_is b (Member.Run r) = refl
cancelled_is b (Member.Leg l) = refl

-- it waits
pub waits_there : (b : Board) (name : List ℕ) (m : Member) → Exists b m → Has (waits b name m) m (run_in RunState.Waiting) (leg_in LegState.Waiting)
waits_there b name (Member.Run r) x =
    run_there any_run (run_in RunState.Waiting) any_leg (leg_in LegState.Waiting) b r (λ run. record run { state = RunState.Waiting; group = Some name }) (λ run _. refl) x
waits_there b name (Member.Leg l) x =
    leg_there any_run (run_in RunState.Waiting) any_leg (leg_in LegState.Waiting) b l (λ leg. record leg { state = LegState.Waiting; group = Some name }) (λ leg _. refl) x

pub waits_exists : (b : Board) (name : List ℕ) (m w : Member) → Exists b w → Exists (waits b name m) w
unfolding waiting_run
waits_exists b name m w x =
    subst (λ c. Exists c w) (sym (waits_is b name m)) (kept any_run any_leg b m w (waiting_run name) (waiting_leg name) (λ run. refl) (λ run _. tt) (λ leg _. tt) x)

-- it is Going or Admitted
pub admitted_there : (b : Board) (name : Option (List ℕ)) (m : Member) → Exists b m → Has (admitted b name m) m (run_in RunState.Going) (leg_in LegState.Admitted)
admitted_there b name (Member.Run r) x =
    run_there any_run (run_in RunState.Going) any_leg (leg_in LegState.Admitted) b r (λ run. record run { state = RunState.Going; group = name }) (λ run _. refl) x
admitted_there b name (Member.Leg l) x =
    leg_there any_run (run_in RunState.Going) any_leg (leg_in LegState.Admitted) b l (λ leg. record leg { state = LegState.Admitted; group = name }) (λ leg _. refl) x

-- it goes on
pub passed_there : (b : Board) (m : Member) → Exists b m → Has (passed_on b (Some m)) m (run_in RunState.Going) (leg_in LegState.Admitted)
passed_there b (Member.Run r) x =
    run_there any_run (run_in RunState.Going) any_leg (leg_in LegState.Admitted) b r (λ run. record run { state = RunState.Going }) (λ run _. refl) x
passed_there b (Member.Leg l) x =
    leg_there any_run (run_in RunState.Going) any_leg (leg_in LegState.Admitted) b l (λ leg. record leg { state = LegState.Admitted }) (λ leg _. refl) x

pub passed_others : (R : OfRun) (L : OfLeg) (b : Board) (next : Option Member) (w : Member) → ((m : Member) → next ≡ Some m → w ≢ m) → Has b w R L → Has (passed_on b next) w R L
unfolding going_run
passed_others R L b None w apart x = x
passed_others R L b (Some m) w apart x = subst (λ c. Has c w R L) (sym (passed_is b m)) (others R L b m w going_run going_leg (λ run. refl) (apart m refl) x)

-- it has ended with a result
pub closed_there : (L M : OfLeg) (b : Board) (r : ℕ) (result : Outcome) → Has b (Member.Run r) any_run L
    → Has (closed b r result) (Member.Run r) (run_in (RunState.Closed result)) M
closed_there L M b r result x = run_there any_run (run_in (RunState.Closed result)) L M b r (λ run. record run { state = RunState.Closed result }) (λ run _. refl) x

pub dropped_there : (R S : OfRun) (b : Board) (l : ℕ) (result : Outcome) → Has b (Member.Leg l) R any_leg
    → Has (dropped b l result) (Member.Leg l) S (leg_in (LegState.Ended result false))
dropped_there R S b l result x =
    same_runs S (leg_in (LegState.Ended result false)) (with_numbered_leg b l (λ leg. record leg { state = LegState.Ended result false })) (dropped b l result) (Member.Leg l) refl
    (leg_there R S any_leg (leg_in (LegState.Ended result false)) b l (λ leg. record leg { state = LegState.Ended result false }) (λ leg _. refl) x)

-- it has ended cancelled
pub cancelled_there : (b : Board) (m : Member) → Exists b m
    → Has (cancelled b m) m (run_in (RunState.Closed Outcome.Cancelled)) (leg_in (LegState.Ended Outcome.Cancelled false))
cancelled_there b (Member.Run r) x = closed_there any_leg (leg_in (LegState.Ended Outcome.Cancelled false)) b r Outcome.Cancelled x
cancelled_there b (Member.Leg l) x = dropped_there any_run (run_in (RunState.Closed Outcome.Cancelled)) b l Outcome.Cancelled x

pub cancelled_others : (R : OfRun) (L : OfLeg) (b : Board) (m w : Member) → w ≢ m → Has b w R L → Has (cancelled b m) w R L
unfolding ended_run
cancelled_others R L b m w apart x =
    same_runs R L (change_of b m ended_run ended_leg) (cancelled b m) w (cancelled_is b m) (others R L b m w ended_run ended_leg (λ run. refl) apart x)

pub cancelled_exists : (b : Board) (m w : Member) → Exists b w → Exists (cancelled b m) w
unfolding ended_run
cancelled_exists b m w x =
    same_runs any_run any_leg (change_of b m ended_run ended_leg) (cancelled b m) w (cancelled_is b m)
    (kept any_run any_leg b m w ended_run ended_leg (λ run. refl) (λ run _. tt) (λ leg _. tt) x)

-- somebody has lost its place, if somebody did
pub displaced_others : (R : OfRun) (L : OfLeg) (b : Board) (waited : Option Member) (w : Member) → ((m : Member) → waited ≡ Some m → w ≢ m)
    → Has b w R L → Has (displaced b waited) w R L
displaced_others R L b None w apart x = x
displaced_others R L b (Some m) w apart x = cancelled_others R L b m w (apart m refl) x

pub displaced_exists : (b : Board) (waited : Option Member) (w : Member) → Exists b w → Exists (displaced b waited) w
displaced_exists b None w x = x
displaced_exists b (Some m) w x = cancelled_exists b m w x

-- ---- somebody is told to stop: nobody's state changes

told_run : Run → Run
told_run run = record run { stop = true }

told_leg : Leg → Leg
told_leg leg = record leg { stop = true }

stopped_is : (b : Board) (m : Member) → stopped b true m ≡ change_of b m told_run told_leg
unfolding told_run told_leg
stopped_is b (Member.Run r) = refl
stopped_is b (Member.Leg l) = refl

pub stopped_keeps : (R : RunState → Type 0) (L : LegState → Type 0) (b : Board) (wanted : Bool) (m w : Member)
    → Has b w (λ s told. R s) (λ s told. L s) → Has (stopped b wanted m) w (λ s told. R s) (λ s told. L s)
unfolding told_run told_leg
stopped_keeps R L b false m w x = x
stopped_keeps R L b true m w x =
    subst (λ c. Has c w (λ s told. R s) (λ s told. L s)) (sym (stopped_is b m))
    (kept (λ s told. R s) (λ s told. L s) b m w told_run told_leg (λ run. refl) (λ run h. h) (λ leg h. h) x)

pub stopped_there : (b : Board) (m : Member) → Exists b m → Has (stopped b true m) m run_told leg_told
stopped_there b (Member.Run r) x = run_there any_run run_told any_leg leg_told b r (λ run. record run { stop = true }) (λ run _. refl) x
stopped_there b (Member.Leg l) x = leg_there any_run run_told any_leg leg_told b l (λ leg. record leg { stop = true }) (λ leg _. refl) x

-- ---- who holds a name, and who waits for it

pub holder_exists : (b : Board) (name : List ℕ) (m : Member) → holder b name ≡ Some m → Exists b m
holder_exists b name (Member.Run r) h =
    let x = map-some run_standing (slice_get b.runs r) (holding (Some name)) (a_holder b name (Member.Run r) h).0 in
    (x.0, x.1, tt)
holder_exists b name (Member.Leg l) h =
    let x = map-some leg_standing (slice_get (board_legs b) l) (holding (Some name)) (a_holder b name (Member.Leg l) h).0 in
    (x.0, x.1, tt)

pub waiter_waits : (b : Board) (name : List ℕ) (m : Member) → waiter b name ≡ Some m → Has b m (run_in RunState.Waiting) (leg_in LegState.Waiting)
waiter_waits b name (Member.Run r) h =
    let x = map-some run_standing (slice_get b.runs r) (waiting (Some name)) (a_waiter b name (Member.Run r) h).0 in
    (x.0, x.1, (run-waits x.0.state x.0.group (Some name) x.2).0)
waiter_waits b name (Member.Leg l) h =
    let x = map-some leg_standing (slice_get (board_legs b) l) (waiting (Some name)) (a_waiter b name (Member.Leg l) h).0 in
    (x.0, x.1, (leg-waits x.0.state x.0.group (Some name) x.2).0)

-- ---- who was not told to stop is not told by a change

abbrev pub untold_run : OfRun
untold_run s told = told ≡ false

abbrev pub untold_leg : OfLeg
untold_leg s told = told ≡ false

-- nobody is told by what leads from a board to another
abbrev pub Quiet : Board → Board → Type 0
Quiet b new = (w : Member) → Has b w untold_run untold_leg → Has new w untold_run untold_leg

pub quiet_runs : (b c new : Board) → new.runs ≡ c.runs → Quiet b c → Quiet b new
quiet_runs b c new same quiet w x = same_runs untold_run untold_leg c new w same (quiet w x)

pub quiet_change : (b : Board) (m : Member) (f : Run → Run) (g : Leg → Leg) → KeepsJobs f → ((run : Run) → (f run).stop ≡ run.stop) → ((leg : Leg) → (g leg).stop ≡ leg.stop)
    → Quiet b (change_of b m f g)
quiet_change b m f g jobs runs legs w x = kept untold_run untold_leg b m w f g jobs (λ run h. runs run ∙ h) (λ leg h. legs leg ∙ h) x

pub waits_quiet : (b : Board) (name : List ℕ) (m : Member) → Quiet b (waits b name m)
unfolding waiting_run waiting_leg
waits_quiet b name m = subst (Quiet b) (sym (waits_is b name m)) (quiet_change b m (waiting_run name) (waiting_leg name) (λ run. refl) (λ run. refl) (λ leg. refl))

pub admitted_quiet : (b : Board) (name : Option (List ℕ)) (m : Member) → Quiet b (admitted b name m)
admitted_quiet b name (Member.Run r) =
    quiet_change b (Member.Run r) (λ run. record run { state = RunState.Going; group = name }) (λ leg. leg) (λ run. refl) (λ run. refl) (λ leg. refl)
admitted_quiet b name (Member.Leg l) =
    quiet_change b (Member.Leg l) (λ run. run) (λ leg. record leg { state = LegState.Admitted; group = name }) (λ run. refl) (λ run. refl) (λ leg. refl)

pub passed_quiet : (b : Board) (next : Option Member) → Quiet b (passed_on b next)
unfolding going_run going_leg
passed_quiet b None = λ w x. x
passed_quiet b (Some m) = subst (Quiet b) (sym (passed_is b m)) (quiet_change b m going_run going_leg (λ run. refl) (λ run. refl) (λ leg. refl))

pub closed_quiet : (b : Board) (r : ℕ) (result : Outcome) → Quiet b (closed b r result)
closed_quiet b r result = quiet_change b (Member.Run r) (λ run. record run { state = RunState.Closed result }) (λ leg. leg) (λ run. refl) (λ run. refl) (λ leg. refl)

pub dropped_quiet : (b : Board) (l : ℕ) (result : Outcome) → Quiet b (dropped b l result)
dropped_quiet b l result =
    quiet_runs b (with_numbered_leg b l (λ leg. record leg { state = LegState.Ended result false })) (dropped b l result) refl
    (quiet_change b (Member.Leg l) (λ run. run) (λ leg. record leg { state = LegState.Ended result false }) (λ run. refl) (λ run. refl) (λ leg. refl))

pub cancelled_quiet : (b : Board) (m : Member) → Quiet b (cancelled b m)
cancelled_quiet b (Member.Run r) = closed_quiet b r Outcome.Cancelled
cancelled_quiet b (Member.Leg l) = dropped_quiet b l Outcome.Cancelled

pub displaced_quiet : (b : Board) (waited : Option Member) → Quiet b (displaced b waited)
displaced_quiet b None = λ w x. x
displaced_quiet b (Some m) = cancelled_quiet b m

-- another is not told where one is
pub stopped_others : (b : Board) (m w : Member) → w ≢ m → Has b w untold_run untold_leg → Has (stopped b true m) w untold_run untold_leg
unfolding told_run
stopped_others b m w apart x =
    subst (λ c. Has c w untold_run untold_leg) (sym (stopped_is b m)) (others untold_run untold_leg b m w told_run told_leg (λ run. refl) apart x)

-- all legs, where a job is changed, but not its legs
pub job_legs : (b : Board) (place : JobPlace) (f : Job → Job) → ((job : Job) → (f job).legs ≡ job.legs) → board_legs (with_job b place f) ≡ board_legs b
job_legs b place f legs =
    flat_map-twice (λ (run : Run). run.jobs) (λ (job : Job). job.legs) (changed b.runs place.run in_run)
    ∙ flat_map-kept (λ (run : Run). flat_map (λ (job : Job). job.legs) run.jobs) b.runs place.run in_run (λ run. flat_map-kept (λ (job : Job). job.legs) run.jobs place.job f legs)
    ∙ sym (flat_map-twice (λ (run : Run). run.jobs) (λ (job : Job). job.legs) b.runs)
  where
    in_run : Run → Run
    in_run run = record run { jobs = changed run.jobs place.job f }

-- nobody is told there
pub job_quiet : (b : Board) (place : JobPlace) (f : Job → Job) → ((job : Job) → (f job).legs ≡ job.legs) → Quiet b (with_job b place f)
job_quiet b place f legs (Member.Run r) x = run_kept untold_run b r place.run (λ run. record run { jobs = changed run.jobs place.job f }) (λ run h. h) x.0 x.1 x.2
job_quiet b place f legs (Member.Leg l) x = (x.0, ap (λ (all : List Leg). slice_get all l) (job_legs b place f legs) ∙ x.1, x.2)
