-- The steps in which `join` is computed.
use Rattle.std.specs.Prelude.{ℕ, Bool, true, false, List, ◌++◌}

-- The text of an item, after a separator where it is not the first.
abbrev pub item_text : List ℕ → Bool → List ℕ → List ℕ
item_text separator true bytes = bytes
item_text separator false bytes = separator ++ bytes
