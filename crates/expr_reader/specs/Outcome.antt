-- What a step of a reader gives: a value, or what is wrong with the text.
use Rattle.std.specs.Prelude.{◌≡◌, ◌⊎◌, ℕ, ◌≤◌, Result, Ok, Err}
use Rattle.expr_reader.specs.Sizes.{greatest_depth}
use Rattle.expr_reader.specs.declared.fault.Fault.{Fault}
use Rattle.expr_reader.specs.declared.fault.Fault.TheVariants.{TooDeep}
use Rattle.expr_reader.specs.declared.fault.Refusal.{Refusal}
use Rattle.expr_reader.specs.declared.fault.Refusal.TheVariants as refusal

infixl 10 ◌>>=◌
-- The next step, on what the first one gave.
abbrev pub ◌>>=◌ : {A B : Type 0} → Result A Fault → (A → Result B Fault) → Result B Fault
(Ok x) >>= f = f x
(Err e) >>= f = Err e

-- A refusal is the step's fault, or want of memory.
abbrev pub Fails : {A : Type 0} → Refusal → Result A Fault → Type 0
Fails refusal.Memory step = Unit {0}
Fails (refusal.Fault f) step = step ≡ Err f

-- What a function returned, seen by view, is what the step gives, unless memory ran out.
abbrev pub Gives : {X A : Type 0} → (X → A) → Result X Refusal → Result A Fault → Type 0
Gives view (Ok x) step = step ≡ Ok (view x)
Gives view (Err e) step = Fails e step

-- A node over parts that are so deep is refused: it is too deep, or there is no memory.
abbrev pub IsRefused : ℕ → Refusal → Type 0
IsRefused parts e = (e ≡ refusal.Memory) ⊎ ((e ≡ refusal.Fault TooDeep) × (greatest_depth ≤ parts))

-- An answer is taken on: what its step gives goes to the next one, and a refusal stays.
abbrev pub TakenOn :
    {X Y A B : Type 0} → (X → A) → (Y → B) → Result X Refusal → (A → Result B Fault)
    → Result Y Refusal → Type 0
TakenOn {A = A} seen made answer next result =
    (step : Result A Fault) → Gives seen answer step → Gives made result (step >>= next)
