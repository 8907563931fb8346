-- The names of passes, which say by which splits a pass was made.
use Rattle.std.specs.Prelude.{ℕ, Bool, true, false, ◌&&◌, ◌==◌, nat_le, List, [], ◌∷◌, if◌then◌else◌}

-- The first pass has the empty name. What a pass of the name n splits off, after it has split k times, has the name n ++ k ∷ [].
abbrev pub Name : Type 0
Name = List ℕ

-- Whether two names are one.
abbrev pub same_name : Name → Name → Bool
same_name [] [] = true
same_name [] (j ∷ js) = false
same_name (i ∷ more) [] = false
same_name (i ∷ more) (j ∷ js) = (i == j) && same_name more js

-- The names that a pass keeps, by its own name and the number of its splits: its own, and those that it or its offspring
-- can still give. It keeps each name once or not at all.
abbrev pub keeps : Name → ℕ → Name → ℕ
keeps [] splits [] = 1
keeps [] splits (j ∷ js) = if nat_le splits j then 1 else 0
keeps (i ∷ more) splits [] = 0
keeps (i ∷ more) splits (j ∷ js) = if i == j then keeps more splits js else 0

-- What stands beside a name in a list, in order.
abbrev pub under : {X : Type 0} → Name → List (X × Name) → List X
under name [] = []
under name (e ∷ es) = if same_name name e.1 then e.0 ∷ under name es else under name es
