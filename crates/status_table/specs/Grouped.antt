-- The concurrency groups as they are kept by names, beside a board: what an event asks of them, and what is true of them.
use Rattle.std.specs.Prelude.{◌≡◌, ℕ, true, false, [], Option, Some, None}
use Rattle.plan_values.specs.Words.{Ascends, Board, Event, Member, Plan, value_at}
use Rattle.board_decisions.specs.Decisions.{run_entrance, leg_entrance}
use Rattle.board_decisions.specs.Place.{RunAt, LegAt, run_at, leg_at}
use Rattle.group_admission.specs.Content.{Content, EachOnce, is_in_group}
use Rattle.status_table.specs.Admissions.{Shows, opened, asked, left}
use Rattle.status_table.specs.Groups.{run_standing, leg_standing}
use Rattle.status_table.specs.Moves.{is_accepted}
use Rattle.status_table.specs.Row.{row}

-- ---- what the groups keep after an event

-- the run that is opened, where there is one, enters its group
abbrev pub run_opened : Content → ℕ → Option RunAt → Content
run_opened groups r None = groups
run_opened groups r (Some at) = opened groups r (run_entrance at)

-- the leg that asks, where there is one, enters its group
abbrev pub leg_asked : Content → ℕ → Option LegAt → Content
leg_asked groups l None = groups
leg_asked groups l (Some at) = asked groups l at.place.run (leg_entrance at)

-- the run that ends, where there is one, leaves its group
abbrev pub run_left : Content → ℕ → Option RunAt → Content
run_left groups r None = groups
run_left groups r (Some at) = left groups (Member.Run r) (run_standing at.run)

-- the leg that ends, where there is one, leaves its group
abbrev pub leg_left : Content → ℕ → Option LegAt → Content
leg_left groups l None = groups
leg_left groups l (Some at) = left groups (Member.Leg l) (leg_standing at.leg)

-- The groups after what an event asks of them on a board.
abbrev pub after_event : Plan → Board → Content → Event → Content
after_event p b groups (Event.Open r) = run_opened groups r (run_at p b r)
after_event p b groups (Event.Judge j) = groups
after_event p b groups (Event.Ask l) = leg_asked groups l (leg_at p b l)
after_event p b groups (Event.Drop l) = leg_left groups l (leg_at p b l)
after_event p b groups (Event.Take l) = groups
after_event p b groups (Event.Begin l) = groups
after_event p b groups (Event.End l a) = groups
after_event p b groups (Event.Finish l) = leg_left groups l (leg_at p b l)
after_event p b groups (Event.Close r) = run_left groups r (run_at p b r)
after_event p b groups (Event.Cancel r) = groups

-- ---- what is true of them

-- A board shows the groups. Their names are in order, and none is empty; and no member stands in two places.
pub record KeptAsShown (groups : Content) (b : Board) : Type 0 where
  pub shown : Shows groups b
  pub ordered : Ascends groups
  pub named : value_at [] groups ≡ None
  pub once : EachOnce groups

-- Whoever may enter a group on a board is in none: a run that may be opened, and a leg that may ask.
pub record EntersFromOutside (p : Plan) (b : Board) (groups : Content) : Type 0 where
  pub opener : (worker r : ℕ) → is_accepted (row p b worker (Event.Open r)) ≡ true
      → is_in_group (Member.Run r) groups ≡ false
  pub asker : (worker l : ℕ) → is_accepted (row p b worker (Event.Ask l)) ≡ true
      → is_in_group (Member.Leg l) groups ≡ false
