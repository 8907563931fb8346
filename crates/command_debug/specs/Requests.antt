-- What a line asks of the debugger: words that are parted by one space, of which numbers are digits.
use Rattle.std.specs.Prelude.{◌≡◌, ◌≢◌, ℕ, ◌-◌, ◌^◌, ◌++◌, List, codes, min, Option, Some, None}
use Rattle.std.specs.Str.Parse.{IsNumeral, digits_value}
use Rattle.debugger.specs.declared.breaks.Break.{Break}
use Rattle.command_debug.specs.declared.requests.Request.{Request}
use Rattle.command_debug.specs.declared.requests.Request.TheVariants.{Step, Back, GoTo, Go, GoBack, Show, Set, Clear}

-- The greatest number of 64 bits.
abbrev pub greatest : ℕ
greatest = 2 ^ 64 - 1

-- Digits write a number. What is beyond the greatest counts as that: no place, leg or step has such a number.
abbrev pub Writes : List ℕ → ℕ → Type 0
Writes digits n = IsNumeral 10 digits × (n ≡ min (digits_value 10 digits) greatest)

-- A text is two numbers, parted by a space.
abbrev pub WritesTwo : List ℕ → ℕ × ℕ → Type 0
WritesTwo text both = (one other : List ℕ) × (text ≡ one ++ (codes " " ++ other)) × Writes one both.0 × Writes other both.1

-- A text begins with this front, and what follows it says so much.
abbrev pub After : {X : Type 0} → (List ℕ → X → Type 0) → List ℕ → List ℕ → X → Type 0
After Says front text x = (rest : List ℕ) × (text ≡ front ++ rest) × Says rest x

-- A text names a break.
abbrev pub Names : List ℕ → Break → Type 0
Names name (Break.Leg l) = After Writes (codes "leg ") name l
Names name (Break.Step l s) = After WritesTwo (codes "step ") name (l, s)
Names name (Break.Ends l) = After Writes (codes "ends ") name l
Names name Break.Failed = name ≡ codes "failed"

-- A line asks for this.
abbrev pub Asks : List ℕ → Request → Type 0
Asks line Step = line ≡ codes "step"
Asks line Back = line ≡ codes "back"
Asks line (GoTo k) = After Writes (codes "goto ") line k
Asks line Go = line ≡ codes "go"
Asks line GoBack = line ≡ codes "go-back"
Asks line Show = line ≡ codes "show"
Asks line (Set wanted) = After Names (codes "break ") line wanted
Asks line (Clear wanted) = After Names (codes "clear ") line wanted

-- What is found is one of those that are looked for, and nothing is found only where there is none.
abbrev pub FindsOne : {X : Type 0} → (X → Type 0) → Option X → Type 0
FindsOne Is None = (x : _) → Is x → ⊥
FindsOne Is (Some x) = Is x

-- A line asks for one thing at most.
abbrev pub OneRequest : Type 0
OneRequest = (line : List ℕ) (a b : Request) → Asks line a → Asks line b → a ≡ b

-- ---- what the code finds on the way

-- A line is none of the words that stand alone.
pub record IsNoWord (line : List ℕ) : Type 0 where
  pub step : line ≢ codes "step"
  pub back : line ≢ codes "back"
  pub go : line ≢ codes "go"
  pub go_back : line ≢ codes "go-back"
  pub show : line ≢ codes "show"
