-- What is told of steps as they are played.
use Rattle.std.specs.Prelude.{ℕ, List, ◌++◌, codes, decimal}

-- The place of a step: its leg, the id of the leg's job, its number from 0, and how many steps the leg has.
abbrev pub place : ℕ → List ℕ → ℕ → ℕ → List ℕ
place leg job number count =
    codes "leg " ++ (decimal leg ++ (codes " (" ++ (job ++ (codes ") step " ++ (decimal number ++ (codes " of " ++ decimal count))))))
