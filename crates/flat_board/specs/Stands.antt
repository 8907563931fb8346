-- How a member stands to its group, by itself and in the index of groups.
use Rattle.std.specs.Prelude.{◌≡◌, ℕ, List, Option, Some}
use Rattle.status_table.specs.Words.{Ascends, Content, Member, Standing, apart, holder_of, holding, waiter_of, waiting}
use Rattle.flat_board.specs.declared.groups.Stand.{Stand}

-- how one stands so to a group
abbrev pub standing_by : Stand → Option (List ℕ) → Standing
standing_by Stand.Apart group = apart
standing_by Stand.Holding group = holding group
standing_by Stand.Waiting group = waiting group

-- A member holds no name but that of the group that it stands holding, and waits for none but that of the
-- group that it stands waiting for. The names are in order.
pub record StandsOnlyThere (groups : Content) (m : Member) (s : Standing) : Type 0 where
  pub ordered : Ascends groups
  pub holder : (name : List ℕ) → holder_of name groups ≡ Some m → s ≡ holding (Some name)
  pub waiter : (name : List ℕ) → waiter_of name groups ≡ Some m → s ≡ waiting (Some name)
