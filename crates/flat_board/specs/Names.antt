-- The names of groups that stand on a board, beside the groups that know them.
use Rattle.std.specs.Prelude.{◌≡◌, ◌≢◌, ℕ, Bool, true, false, List, [], Option, Some, None, slice_get}
use Rattle.status_table.specs.Words.{Board, Each, Job, Known, Leg, Member, Run, RunState, board_legs, fold, is_fresh, is_known, ◌>>=◌}

-- ---- the names alone

-- A name has no letter A to Z, and is not empty.
pub record IsName (name : List ℕ) : Type 0 where
  pub folded : fold name ≡ name
  pub some : name ≢ []

-- so it is with the name of a group, if there is one
abbrev pub IsGroup : Option (List ℕ) → Type 0
IsGroup None = Unit {0}
IsGroup (Some name) = IsName name

-- with that of each leg of a job
abbrev pub JobIsNamed : Job → Type 0
JobIsNamed job = Each (λ (leg : Leg). IsGroup leg.group) job.legs

-- with that of a run, and of each leg of it
pub record RunIsNamed (run : Run) : Type 0 where
  pub group : IsGroup run.group
  pub jobs : Each JobIsNamed run.jobs

-- with those of all members of a board
abbrev pub IsNamed : Board → Type 0
IsNamed b = Each RunIsNamed b.runs

-- ---- who is in a group, and whether that is known

-- whether a run was not opened yet
abbrev pub is_new : RunState → Bool
is_new RunState.New = true
is_new RunState.Waiting = false
is_new RunState.Going = false
is_new (RunState.Closed result) = false

-- what is seen of a member: whether it is new, and its group
abbrev pub Seen : Type 0
Seen = Option (Bool × Option (List ℕ))

-- a run, so seen
abbrev pub run_names : Run → Seen
run_names run = Some (is_new run.state, run.group)

-- a leg
abbrev pub leg_names : Leg → Seen
leg_names leg = Some (is_fresh leg.state, leg.group)

-- a member of a board
abbrev pub seen_at : Board → Member → Seen
seen_at b (Member.Run r) = slice_get b.runs r >>= run_names
seen_at b (Member.Leg l) = slice_get (board_legs b) l >>= leg_names

-- the group of who is seen
abbrev pub group_of : Seen → Option (List ℕ)
group_of None = None
group_of (Some s) = s.1

-- the group of a member
abbrev pub group_at : Board → Member → Option (List ℕ)
group_at b m = group_of (seen_at b m)

-- one that is new has no group, and the name of another's is one, and known
abbrev pub IsNamedIn : Known → Bool → Option (List ℕ) → Type 0
IsNamedIn known true group = group ≡ None
IsNamedIn known false None = Unit {0}
IsNamedIn known false (Some name) = IsName name × (is_known name known ≡ true)

-- so it is with who is seen
abbrev pub SeenNamed : Known → Seen → Type 0
SeenNamed known None = Unit {0}
SeenNamed known (Some s) = IsNamedIn known s.0 s.1

-- and with each member of a board
abbrev pub NamesKnown : Known → Board → Type 0
NamesKnown known b = (m : Member) → SeenNamed known (seen_at b m)
