-- Laws of the definitions, each the contract of a function of the module `laws`.
use Rattle.std.specs.Prelude.{◌≡◌, ◌↔◌, ◌⊎◌, ℕ, true, false, List, [], ◌∷◌, length, Some}
use Rattle.std.specs.List.{filter, AllByRecursion}
use Rattle.flow_model.specs.Mapping.{value_at, Ascends}
use Rattle.flow_model.specs.Plain.{Plain}
use Rattle.flow_model.specs.declared.plan.Matrix.{Matrix}
use Rattle.matrix_expand.specs.Combos.{Pairs, Variables, is_there, stands_in, product, originals, overlaid, combos}
use Rattle.matrix_expand.specs.Expands.{size}
use Rattle.matrix_expand.specs.Same.{is_same}

-- The size of the variables, which `expand` limits, counts the choices of their product.
abbrev pub SizeCounts : Type 0
SizeCounts = (vs : Variables) → length (product vs) ≡ size vs

-- whether x is one of a list
abbrev pub IsOneOf : {X : Type 0} → X → List X → Type 0
IsOneOf x [] = ⊥
IsOneOf x (y ∷ ys) = (x ≡ y) ⊎ IsOneOf x ys

-- a combination gives a variable one of its values
abbrev pub GivesOne : Pairs → List ℕ × List Plain → Type 0
GivesOne c v = (x : Plain) × ((value_at v.0 c ≡ Some x) × IsOneOf x v.1)

-- Each combination gives every variable one of its values, or is an include as it stands; variables ascend by name.
abbrev pub ValuesOfVariables : Type 0
ValuesOfVariables = (m : Matrix) → Ascends m.variables → AllByRecursion (λ c. AllByRecursion (GivesOne c) m.variables ⊎ IsOneOf c m.include) (combos m)

-- Two values are the same exactly where they are equal.
abbrev pub SameIsEqual : Type 0
SameIsEqual = (v w : Plain) → (is_same v w ≡ true) ↔ (v ≡ w)

-- No original in which all pairs of an exclude stand is left, if it has any.
abbrev pub ExcludesAreOut : Type 0
ExcludesAreOut = (m : Matrix) (e : Pairs) → IsOneOf e m.exclude → is_there e ≡ true → AllByRecursion (λ c. stands_in e c ≡ false) (originals m)

-- Whatever includes come, a value of the original stays.
abbrev pub OriginalsStay : Type 0
OriginalsStay = (includes : List Pairs) (o : Pairs) (name : List ℕ) (x : Plain) → value_at name o ≡ Some x → value_at name (overlaid includes o o) ≡ Some x

-- Without variables there is no original, and without originals each include with a pair stands alone.
abbrev pub IncludesAlone : Type 0
IncludesAlone = (m : Matrix) → (m.variables ≡ [] → originals m ≡ []) × (originals m ≡ [] → combos m ≡ filter is_there m.include)

-- the matrix without its entries that have no pairs
abbrev pub with_pairs_only : Matrix → Matrix
with_pairs_only m = record { variables = m.variables; exclude = filter is_there m.exclude; include = filter is_there m.include }

-- Entries without pairs, of either list, change nothing.
abbrev pub EmptyEntriesPass : Type 0
EmptyEntriesPass = (m : Matrix) → combos (with_pairs_only m) ≡ combos m
