-- A search for a broken rule: the path of the first one, from the part that was searched.
use Rattle.std.specs.Prelude.{◌≡◌, ℕ, suc, ◌++◌, Bool, List, [], ◌∷◌, Option, Some, None, Result, Ok, Err, codes, decimal, if◌then◌else◌}
use Rattle.flow_model.specs.declared.check.Broken.{Broken}
use Rattle.flow_model.specs.declared.check.Broken.TheVariants.{Rule, Memory}

-- keys and places, joined by dots
abbrev pub Path : Type 0
Path = List ℕ

-- a rule that holds, or is broken at its path
abbrev pub rule : Path → Bool → Option Path
rule path holds = if holds then None else Some path

-- the first of two searches that finds something
abbrev pub or_else : Option Path → Option Path → Option Path
or_else None other = other
or_else (Some path) other = Some path

-- what was found in a part, seen from the whole that has the part at this key
abbrev pub under : Path → Option Path → Option Path
under key None = None
under key (Some path) = Some (key ++ (codes "." ++ path))

-- the first broken rule of a list's items, each at its place, counted from k
abbrev pub each : {T : Type 0} → (T → Option Path) → ℕ → List T → Option Path
each rules k [] = None
each rules k (x ∷ xs) = or_else (under (decimal k) (rules x)) (each rules (suc k) xs)

-- the first pair of a map that fails a test, at its key
abbrev pub each_pair : {V : Type 0} → (List ℕ × V → Bool) → List (List ℕ × V) → Option Path
each_pair test [] = None
each_pair test (p ∷ ps) = or_else (rule p.0 (test p)) (each_pair test ps)

-- the rules of a part that may be missing
abbrev pub if_there : {T : Type 0} → (T → Option Path) → Option T → Option Path
if_there rules None = None
if_there rules (Some x) = rules x

-- A check answers what the search finds; memory may run out besides.
abbrev pub Checks : Option Path → Result (Unit {0}) Broken → Type 0
Checks found (Ok done) = found ≡ None
Checks found (Err (Rule path)) = found ≡ Some path
Checks found (Err Memory) = Unit {0}

-- Where a check of a part answers what a search finds, this is the answer of the whole that has the part at this key.
abbrev pub ChecksUnder : Path → Result (Unit {0}) Broken → Result (Unit {0}) Broken → Type 0
ChecksUnder key checked result = (found : Option Path) → Checks found checked → Checks (under key found) result
