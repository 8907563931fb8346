-- Changes that begin and end no step: each leg keeps the steps that it has done, and is in a call where it was in one, unless it has ended.
use Rattle.std.proofs.Common.{◌≡◌, ◌≢◌, ℕ, ◌==◌, arith, Bool, true, false, List, Option, Some, None, slice_get, if◌then◌else◌, ap, subst, sym, refl, ◌∙◌}
use Rattle.std.specs.List.{flat_map}
use Rattle.std.proofs.lemmas.Bool.{true≢false}
use Rattle.status_table.specs.Words.{Board, Done, Entrance, Job, JobPlace, JobState, Leg, LegPlace, LegState, Member, Outcome, Run, RunState, Standing, admitted, apart, board_legs, cancelled, changed, closed, displaced, dropped, enters, enters_held, holder, holding, is_ended, is_own, is_untaken, job_state_set, leaves, leg_place, leg_stands, moved, next_after, passed_on, put, queued, stopped, waiter, waiting, waits, waits_name, with_leg, with_numbered_leg, with_run}
use Rattle.status_table.proofs.Lists.{changed-there, changed-elsewhere, flat_map-kept, flat_map-twice}
use Rattle.board_decisions.proofs.Lists.{same_some, no_some}
use Rattle.status_table.proofs.Numbers.{board_legs-changed, numbered_leg-changed}
use Rattle.status_table.proofs.Standings.{leg_found}

-- whether a leg in this state is in a call
abbrev pub is_calling : LegState → Bool
is_calling LegState.Fresh = false
is_calling LegState.Waiting = false
is_calling LegState.Admitted = false
is_calling (LegState.Running worker in_call) = in_call
is_calling (LegState.Ended result tolerated) = false

-- The leg has done the steps that it had done; and if it has not ended, it had not, and is in a call where it was in one.
pub record Quiet (old new : Leg) : Type 0 where
  pub steps : new.steps ≡ old.steps
  pub goes_on : is_ended new.state ≡ false → (is_ended old.state ≡ false) × (is_calling new.state ≡ is_calling old.state)

-- the same where there may be no leg
abbrev pub QuietAt : Option Leg → Option Leg → Type 0
QuietAt None None = Unit {0}
QuietAt None (Some new) = ⊥
QuietAt (Some old) None = ⊥
QuietAt (Some old) (Some new) = Quiet old new

-- the leg with a number
abbrev pub leg_of : Board → ℕ → Option Leg
leg_of b k = slice_get (board_legs b) k

-- the same of each leg
abbrev pub Quieted : Board → Board → Type 0
Quieted b c = (k : ℕ) → QuietAt (leg_of b k) (leg_of c k)

-- ---- nothing changed, one change after the other, one leg changed

pub quiet-same : (leg : Leg) → Quiet leg leg
quiet-same leg = record { steps = refl; goes_on = λ h. (h, refl) }

quiet-both : (x y z : Leg) → Quiet x y → Quiet y z → Quiet x z
quiet-both x y z h k = record {
  steps = k.steps ∙ h.steps;
  goes_on = λ e. let later = k.goes_on e in let earlier = h.goes_on later.0 in (earlier.0, later.1 ∙ earlier.1);
}

pub calling-unended : (s : LegState) → is_calling s ≡ true → is_ended s ≡ false
calling-unended LegState.Fresh h = refl
calling-unended LegState.Waiting h = refl
calling-unended LegState.Admitted h = refl
calling-unended (LegState.Running worker in_call) h = refl
calling-unended (LegState.Ended result tolerated) h = absurd (true≢false (sym h))

-- a leg that is in a call was in one
pub quiet-called : (old new : Leg) → Quiet old new → is_calling new.state ≡ true → is_calling old.state ≡ true
quiet-called old new q h = sym (q.goes_on (calling-unended new.state h)).1 ∙ h

pub quiet_at-same : (o : Option Leg) → QuietAt o o
quiet_at-same None = tt
quiet_at-same (Some leg) = quiet-same leg

quiet_at-then : (x y z : Option Leg) → QuietAt x y → QuietAt y z → QuietAt x z
quiet_at-then None None None h k = tt
quiet_at-then None None (Some c) h k = k
quiet_at-then None (Some b) z h k = absurd h
quiet_at-then (Some a) None z h k = absurd h
quiet_at-then (Some a) (Some b) None h k = k
quiet_at-then (Some a) (Some b) (Some c) h k = quiet-both a b c h k

pub quiet-then : (a b c : Board) → Quieted a b → Quieted b c → Quieted a c
quiet-then a b c h k i = quiet_at-then (leg_of a i) (leg_of b i) (leg_of c i) (h i) (k i)

pub quiet-legs : (b c : Board) → board_legs c ≡ board_legs b → Quieted b c
quiet-legs b c h k = subst (λ legs. QuietAt (leg_of b k) (slice_get legs k)) (sym h) (quiet_at-same (leg_of b k))

pub quiet-unchanged : (b : Board) → Quieted b b
quiet-unchanged b = quiet-legs b b refl

-- a leg is put in a state of no call, which no worker had taken
pub quiet-untaken : (x y z : Leg) → Quiet x y → z.steps ≡ y.steps → is_calling z.state ≡ false → is_untaken x.state ≡ true → Quiet x z
quiet-untaken x y z q steps none untaken = record { steps = steps ∙ q.steps; goes_on = λ e. by x.state untaken }
  where
    by : (s : LegState) → is_untaken s ≡ true → (is_ended s ≡ false) × (is_calling z.state ≡ is_calling s)
    by LegState.Fresh h = (refl, none)
    by LegState.Waiting h = (refl, none)
    by LegState.Admitted h = (refl, none)
    by (LegState.Running worker in_call) h = absurd (true≢false (sym h))
    by (LegState.Ended result tolerated) h = absurd (true≢false (sym h))

-- a leg ends
pub quiet-ended : (x y z : Leg) → Quiet x y → z.steps ≡ y.steps → is_ended z.state ≡ true → Quiet x z
quiet-ended x y z q steps over = record { steps = steps ∙ q.steps; goes_on = λ e. absurd (true≢false (sym over ∙ e)) }

-- a leg stays in its state
quiet-like : (x y z : Leg) → Quiet x y → z.steps ≡ y.steps → z.state ≡ y.state → Quiet x z
quiet-like x y z q steps same =
    record { steps = steps ∙ q.steps; goes_on = λ e. let was = q.goes_on (ap is_ended (sym same) ∙ e) in (was.0, ap is_calling same ∙ was.1) }

-- an item of the second list is changed, beside the first
quiet-changed : (olds legs : List Leg) (i : ℕ) (f : Leg → Leg) → ((k : ℕ) → QuietAt (slice_get olds k) (slice_get legs k))
    → ((x y : Leg) → slice_get olds i ≡ Some x → slice_get legs i ≡ Some y → Quiet x y → Quiet x (f y))
    → (k : ℕ) → QuietAt (slice_get olds k) (slice_get (changed legs i f) k)
quiet-changed olds legs i f h q k = by (k == i) refl
  where
    here : (o n : Option Leg) → slice_get olds i ≡ o → slice_get legs i ≡ n → QuietAt o n → QuietAt o (slice_get (changed legs i f) i)
    here None None was is same = subst (QuietAt None) (sym (ap (λ (x : Option Leg). slice_get (put legs i f x) i) is ∙ is)) tt
    here None (Some y) was is same = absurd same
    here (Some x) None was is same = absurd same
    here (Some x) (Some y) was is same = subst (QuietAt (Some x)) (sym (changed-there legs i f y is)) (q x y was is same)

    by : (t : Bool) → (k == i) ≡ t → QuietAt (slice_get olds k) (slice_get (changed legs i f) k)
    by true e =
        let same : i ≡ k = grind (arith, e) in
        subst (λ n. QuietAt (slice_get olds n) (slice_get (changed legs i f) n)) same (here (slice_get olds i) (slice_get legs i) refl refl (h i))
    by false e =
        let apart : k ≢ i = grind (arith, e) in
        subst (QuietAt (slice_get olds k)) (sym (changed-elsewhere legs i f k apart)) (h k)

-- the same of a leg of a board
quiet-one : (b : Board) (l : ℕ) (f : Leg → Leg) → ((x : Leg) → leg_of b l ≡ Some x → Quiet x (f x)) → (k : ℕ)
    → QuietAt (leg_of b k) (slice_get (changed (board_legs b) l f) k)
quiet-one b l f q =
    quiet-changed (board_legs b) (board_legs b) l f (λ k. quiet_at-same (leg_of b k)) (λ x y was is same. quiet-both x y (f y) same (q y is))

pub quiet-leg : (b : Board) (l : ℕ) (at : LegPlace) (f : Leg → Leg) → leg_place b l ≡ Some at → ((x : Leg) → leg_of b l ≡ Some x → Quiet x (f x)) → Quieted b (with_leg b at f)
quiet-leg b l at f is q k =
    subst (λ legs. QuietAt (leg_of b k) (slice_get legs k)) (sym (board_legs-changed b l at f is)) (quiet-one b l f q k)

quiet-numbered : (b : Board) (l : ℕ) (f : Leg → Leg) → ((x : Leg) → leg_of b l ≡ Some x → Quiet x (f x)) → Quieted b (with_numbered_leg b l f)
quiet-numbered b l f q k =
    subst (λ legs. QuietAt (leg_of b k) (slice_get legs k)) (sym (numbered_leg-changed b l f)) (quiet-one b l f q k)

-- ---- runs and jobs are changed, but not their legs

quiet-run : (b : Board) (r : ℕ) (f : Run → Run) → ((x : Run) → (f x).jobs ≡ x.jobs) → Quieted b (with_run b r f)
quiet-run b r f keeps = quiet-legs b (with_run b r f) (ap (flat_map (λ (x : Job). x.legs)) (flat_map-kept (λ (x : Run). x.jobs) b.runs r f keeps))

pub quiet-job : (b : Board) (place : JobPlace) (state : JobState) → Quieted b (job_state_set b place state)
quiet-job b place state = quiet-legs b (job_state_set b place state) (
    flat_map-twice (λ (run : Run). run.jobs) (λ (job : Job). job.legs) (changed b.runs place.run in_run)
    ∙ flat_map-kept (λ (run : Run). flat_map (λ (job : Job). job.legs) run.jobs) b.runs place.run in_run (λ run. flat_map-kept (λ (job : Job). job.legs) run.jobs place.job in_job (λ job. refl))
    ∙ sym (flat_map-twice (λ (run : Run). run.jobs) (λ (job : Job). job.legs) b.runs))
  where
    in_job : Job → Job
    in_job job = record job { state = state }

    in_run : Run → Run
    in_run run = record run { jobs = changed run.jobs place.job in_job }

-- ---- members of groups

-- a member is no leg that a worker took, or that has ended
abbrev pub IsUntaken : Board → Member → Type 0
IsUntaken b (Member.Run r) = Unit {0}
IsUntaken b (Member.Leg l) = (leg : Leg) → leg_of b l ≡ Some leg → is_untaken leg.state ≡ true

pub quiet-closed : (b : Board) (r : ℕ) (result : Outcome) → Quieted b (closed b r result)
quiet-closed b r result = quiet-run b r (λ run. record run { state = RunState.Closed result }) (λ x. refl)

pub quiet-dropped : (b : Board) (l : ℕ) (result : Outcome) → Quieted b (dropped b l result)
quiet-dropped b l result =
    quiet-numbered b l (λ leg. record leg { state = LegState.Ended result false })
    (λ x there. quiet-ended x x (record x { state = LegState.Ended result false }) (quiet-same x) refl refl)

quiet-admitted : (b : Board) (name : Option (List ℕ)) (m : Member) → IsUntaken b m → Quieted b (admitted b name m)
quiet-admitted b name (Member.Run r) u = quiet-run b r (λ run. record run { state = RunState.Going; group = name }) (λ x. refl)
quiet-admitted b name (Member.Leg l) u =
    quiet-numbered b l (λ leg. record leg { state = LegState.Admitted; group = name })
    (λ x there. quiet-untaken x x (record x { state = LegState.Admitted; group = name }) (quiet-same x) refl refl (u x there))

quiet-waits : (b : Board) (name : List ℕ) (m : Member) → IsUntaken b m → Quieted b (waits b name m)
quiet-waits b name (Member.Run r) u = quiet-run b r (λ run. record run { state = RunState.Waiting; group = Some name }) (λ x. refl)
quiet-waits b name (Member.Leg l) u =
    quiet-numbered b l (λ leg. record leg { state = LegState.Waiting; group = Some name })
    (λ x there. quiet-untaken x x (record x { state = LegState.Waiting; group = Some name }) (quiet-same x) refl refl (u x there))

quiet-cancelled : (b : Board) (m : Member) → Quieted b (cancelled b m)
quiet-cancelled b (Member.Run r) = quiet-closed b r _
quiet-cancelled b (Member.Leg l) = quiet-dropped b l _

quiet-displaced : (b : Board) (o : Option Member) → Quieted b (displaced b o)
quiet-displaced b None = quiet-unchanged b
quiet-displaced b (Some m) = quiet-cancelled b m

pub quiet-stopped : (b : Board) (c : Bool) (m : Member) → Quieted b (stopped b c m)
quiet-stopped b false m = quiet-unchanged b
quiet-stopped b true (Member.Run r) = quiet-run b r (λ run. record run { stop = true }) (λ x. refl)
quiet-stopped b true (Member.Leg l) =
    quiet-numbered b l (λ leg. record leg { stop = true }) (λ x there. quiet-like x x (record x { stop = true }) (quiet-same x) refl refl)

quiet-queued : (b : Board) (m : Member) (group : Entrance) (h : Member) (w : Option Member) → IsUntaken b m → Quieted b (queued b m group h w).0
quiet-queued b m group h w u =
    let waiting = waits b group.name m in
    let lost = displaced waiting w in
    quiet-then b lost (stopped lost group.cancel h) (quiet-then b waiting lost (quiet-waits b group.name m u) (quiet-displaced waiting w)) (quiet-stopped lost group.cancel h)

pub quiet-enters : (b : Board) (m : Member) (own : Option ℕ) (group : Option Entrance) → IsUntaken b m → Quieted b (enters b m own group).0
quiet-enters b m own None u = quiet-admitted b None m u
quiet-enters b m own (Some group) u = held (holder b group.name) (waiter b group.name)
  where
    held : (o w : Option Member) → Quieted b (enters_held b m own group o w).0
    held None w = quiet-admitted b (Some group.name) m u
    held (Some h) w = by (is_own own h)
      where
        by : (c : Bool) → Quieted b (let d : Done = if c then (cancelled b m, moved) else queued b m group h w in d).0
        by true = quiet-cancelled b m
        by false = quiet-queued b m group h w u

-- ---- who is next in a group, which waited

waits-untaken : (s : LegState) (group : Option (List ℕ)) (name : List ℕ) → waits_name name (leg_stands s group) ≡ true → is_untaken s ≡ true
waits-untaken LegState.Fresh group name h = refl
waits-untaken LegState.Waiting group name h = refl
waits-untaken LegState.Admitted group name h = refl
waits-untaken (LegState.Running worker in_call) group name h = absurd (true≢false (sym h))
waits-untaken (LegState.Ended result tolerated) group name h = absurd (true≢false (sym h))

waiter-untaken : (b : Board) (name : List ℕ) (m : Member) → waiter b name ≡ Some m → IsUntaken b m
waiter-untaken b name (Member.Run r) h = tt
waiter-untaken b name (Member.Leg l) h = λ leg there.
    let found = leg_found b (waits_name name) l h in
    let same : found.leg ≡ leg = same_some found.leg leg (sym found.there ∙ there) in
    ap (λ (x : Leg). is_untaken x.state) (sym same) ∙ waits-untaken found.leg.state found.leg.group name found.passes

next-untaken : (b : Board) (s : Standing) (m : Member) → next_after b s ≡ Some m → IsUntaken b m
next-untaken b apart m h = absurd (no_some m h)
next-untaken b (waiting name) m h = absurd (no_some m h)
next-untaken b (holding None) m h = absurd (no_some m h)
next-untaken b (holding (Some name)) m h = waiter-untaken b name m h

-- who is next goes on beside a board on which it waited
quiet-passed_on : (b c : Board) (o : Option Member) → Quieted b c → ((m : Member) → o ≡ Some m → IsUntaken b m) → Quieted b (passed_on c o)
quiet-passed_on b c None h u = h
quiet-passed_on b c (Some (Member.Run r)) h u = quiet-then b c (passed_on c (Some (Member.Run r))) h (quiet-run c r (λ run. record run { state = RunState.Going }) (λ x. refl))
quiet-passed_on b c (Some (Member.Leg l)) h u = λ k.
    let f : Leg → Leg = λ leg. record leg { state = LegState.Admitted } in
    subst (λ legs. QuietAt (leg_of b k) (slice_get legs k)) (sym (numbered_leg-changed c l f))
    (quiet-changed (board_legs b) (board_legs c) l f h (λ x y was is same. quiet-untaken x y (f y) same refl refl (u (Member.Leg l) refl x was)) k)

pub quiet-leaves : (b : Board) (s : Standing) (new : Board) → Quieted b new → Quieted b (leaves b s new).0
quiet-leaves b s new h = quiet-passed_on b new (next_after b s) h (next-untaken b s)
