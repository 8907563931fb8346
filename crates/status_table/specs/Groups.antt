-- Concurrency groups on a board (GitHub Docs, workflow syntax: `concurrency`):
-- who holds a name, who waits for it, and what comes of entering a group and
-- of leaving it. Nothing of this is kept beside the board: it is looked for.
use Rattle.std.specs.Prelude.{ℕ, suc, ◌==◌, ◌++◌, Bool, true, false, List, [], ◌∷◌, Option, Some, None, if◌then◌else◌}
use Rattle.std.specs.Str.{bytes_eq}
use Rattle.plan_values.specs.Words.{Board, Leg, LegState, Member, Outcome, Reply, Run, RunState, What, board_legs}
use Rattle.board_decisions.specs.declared.entrance.Entrance.{Entrance}
use Rattle.status_table.specs.Change.{with_run, with_numbered_leg}

-- ---- how a member stands to its group

-- A run or a leg stands apart from its group, or it holds or waits for its name, if the group has one.
pub data Standing : Type 0 where
  apart : Standing
  holding : Option (List ℕ) → Standing
  waiting : Option (List ℕ) → Standing

-- a run holds while it is Going
abbrev pub run_stands : RunState → Option (List ℕ) → Standing
run_stands RunState.New name = apart
run_stands RunState.Waiting name = waiting name
run_stands RunState.Going name = holding name
run_stands (RunState.Closed result) name = apart

-- a leg holds while it is Admitted or Running
abbrev pub leg_stands : LegState → Option (List ℕ) → Standing
leg_stands LegState.Fresh name = apart
leg_stands LegState.Waiting name = waiting name
leg_stands LegState.Admitted name = holding name
leg_stands (LegState.Running worker in_call) name = holding name
leg_stands (LegState.Ended result tolerated) name = apart

-- how a run stands
abbrev pub run_standing : Run → Standing
run_standing run = run_stands run.state run.group

-- how a leg stands
abbrev pub leg_standing : Leg → Standing
leg_standing leg = leg_stands leg.state leg.group

-- ---- who holds a name, and who waits for it

-- whether a name is that of the group, if it has one
abbrev pub is_named : List ℕ → Option (List ℕ) → Bool
is_named name None = false
is_named name (Some other) = bytes_eq name other

-- whether one that stands so holds a name
abbrev pub holds_name : List ℕ → Standing → Bool
holds_name name apart = false
holds_name name (holding group) = is_named name group
holds_name name (waiting group) = false

-- whether one that stands so waits for a name
abbrev pub waits_name : List ℕ → Standing → Bool
waits_name name apart = false
waits_name name (holding group) = false
waits_name name (waiting group) = is_named name group

-- the place of the first item that passes a test, counted from k on
abbrev pub first_place : {A : Type 0} → ℕ → (A → Bool) → List A → Option ℕ
first_place k test [] = None
first_place k test (x ∷ xs) = if test x then Some k else first_place (suc k) test xs

-- the run with a number, else the leg with one
abbrev pub run_or_leg : Option ℕ → Option ℕ → Option Member
run_or_leg (Some r) leg = Some (Member.Run r)
run_or_leg None (Some l) = Some (Member.Leg l)
run_or_leg None None = None

-- The first of the runs, and else of all legs in the order of their numbers, that stands as a test says.
abbrev pub first_member : (Standing → Bool) → Board → Option Member
first_member test b =
    run_or_leg (first_place 0 (λ run. test (run_standing run)) b.runs)
    (first_place 0 (λ leg. test (leg_standing leg)) (board_legs b))

-- the member that holds a name
abbrev pub holder : Board → List ℕ → Option Member
holder b name = first_member (holds_name name) b

-- the member that waits for it
abbrev pub waiter : Board → List ℕ → Option Member
waiter b name = first_member (waits_name name) b

-- the member that waits for the name of a group, if the group has one
abbrev pub waiter_of : Board → Option (List ℕ) → Option Member
waiter_of b None = None
waiter_of b (Some name) = waiter b name

-- ---- changes of one member

-- the run has ended
abbrev pub closed : Board → ℕ → Outcome → Board
closed b r result = with_run b r (λ run. record run { state = RunState.Closed result })

-- the leg has ended without a worker, last of all
abbrev pub dropped : Board → ℕ → Outcome → Board
dropped b l result =
    record (with_numbered_leg b l (λ leg. record leg { state = LegState.Ended result false }))
    { ends = b.ends ++ l ∷ [] }

-- the member is Going or Admitted, in the group with a name or in none
abbrev pub admitted : Board → Option (List ℕ) → Member → Board
admitted b name (Member.Run r) = with_run b r (λ run. record run { state = RunState.Going; group = name })
admitted b name (Member.Leg l) =
    with_numbered_leg b l (λ leg. record leg { state = LegState.Admitted; group = name })

-- the member waits for a name
abbrev pub waits : Board → List ℕ → Member → Board
waits b name (Member.Run r) =
    with_run b r (λ run. record run { state = RunState.Waiting; group = Some name })
waits b name (Member.Leg l) =
    with_numbered_leg b l (λ leg. record leg { state = LegState.Waiting; group = Some name })

-- who waited is Going or Admitted, whether or not it is to stop; it has its group's name already
abbrev pub passed_on : Board → Option Member → Board
passed_on b None = b
passed_on b (Some (Member.Run r)) = with_run b r (λ run. record run { state = RunState.Going })
passed_on b (Some (Member.Leg l)) = with_numbered_leg b l (λ leg. record leg { state = LegState.Admitted })

-- the member has ended cancelled
abbrev pub cancelled : Board → Member → Board
cancelled b (Member.Run r) = closed b r Outcome.Cancelled
cancelled b (Member.Leg l) = dropped b l Outcome.Cancelled

-- who waited, if somebody did, has lost its place
abbrev pub displaced : Board → Option Member → Board
displaced b None = b
displaced b (Some waited) = cancelled b waited

-- the member is told to stop, where that is wanted
abbrev pub stopped : Board → Bool → Member → Board
stopped b false m = b
stopped b true (Member.Run r) = with_run b r (λ run. record run { stop = true })
stopped b true (Member.Leg l) = with_numbered_leg b l (λ leg. record leg { stop = true })

-- ---- entering and leaving. Neither is ever refused: each gives a board and a reply.

-- a board and the reply that goes with it
abbrev pub Done : Type 0
Done = Board × Reply

-- a reply that tells who was admitted, who lost its place, and who is told to stop
abbrev pub told : Option Member → Option Member → Option Member → Reply
told new lost stop = record { what = What.Moved; admitted = new; displaced = lost; stopped = stop }

-- a reply that tells of nobody
abbrev pub moved : Reply
moved = told None None None

-- whether a holder is the run that the asker is a leg of; a run is no leg
abbrev pub is_own : Option ℕ → Member → Bool
is_own None holder = false
is_own (Some r) (Member.Run s) = r == s
is_own (Some r) (Member.Leg l) = false

-- the holder, where it is told to stop
abbrev pub stop_told : Bool → Member → Option Member
stop_told false holder = None
stop_told true holder = Some holder

-- The member waits, in the place of one that waited, and
-- the holder is told to stop where the cancel flag holds.
abbrev pub queued : Board → Member → Entrance → Member → Option Member → Done
queued b m group holds waited = (
  stopped (displaced (waits b group.name m) waited) group.cancel holds,
  told None waited (stop_told group.cancel holds),
)

-- What comes of a member that enters a group, by who holds its name and who waits for it. With no holder the
-- member is admitted. A leg whose own run is the holder ends cancelled. Else the member waits.
abbrev pub enters_held : Board → Member → Option ℕ → Entrance → Option Member → Option Member → Done
enters_held b m own group None waited = (admitted b (Some group.name) m, told (Some m) None None)
enters_held b m own group (Some holds) waited =
    if is_own own holds then (cancelled b m, moved) else queued b m group holds waited

-- A member, with the run that it is a leg of, if it is one, enters its group, or none.
abbrev pub enters : Board → Member → Option ℕ → Option Entrance → Done
enters b m own None = (admitted b None m, told (Some m) None None)
enters b m own (Some group) = enters_held b m own group (holder b group.name) (waiter b group.name)

-- who is next in the group of one that stands so: only what is held passes on
abbrev pub next_after : Board → Standing → Option Member
next_after b apart = None
next_after b (waiting name) = None
next_after b (holding name) = waiter_of b name

-- A member that stood so has ended, after which the board is as said, and so it leaves its group: what it
-- held passes to who waits for it; one that waited just waits no longer.
abbrev pub leaves : Board → Standing → Board → Done
leaves b standing after = (passed_on after (next_after b standing), told (next_after b standing) None None)
