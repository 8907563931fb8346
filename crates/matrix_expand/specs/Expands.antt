-- What `expand` answers: the combinations, or the first of its refusals.
use Rattle.std.specs.Prelude.{◌≡◌, ◌==◌, ◌≤◌, ◌<◌, ◌*◌, ◌⊎◌, ℕ, Bool, true, false, not, List, [], ◌∷◌, length, Result, Ok, Err}
use Rattle.std.specs.List.{list_all}
use Rattle.flow_model.specs.declared.plan.Matrix.{Matrix}
use Rattle.matrix_expand.specs.Combos.{Pairs, Variables, originals, combos}
use Rattle.matrix_expand.specs.declared.fault.MatrixFault.{MatrixFault}
use Rattle.matrix_expand.specs.declared.fault.MatrixFault.TheVariants.{EmptyVariable, NoCombination, TooMany, Memory}

-- whether each variable has a value
abbrev pub have_values : Variables → Bool
have_values vs = list_all (λ v. not (length v.1 == 0)) vs

-- how many choices there are
abbrev pub size : Variables → ℕ
size [] = 1
size (v ∷ vs) = length v.1 * size vs

-- the choices are at most 65,536, before any is taken out
abbrev pub IsFew : Matrix → Type 0
IsFew m = size m.variables ≤ 65536

-- The combinations, 1 to 256 of them; or a variable without a value; or else, where the choices are few, no
-- combination; or else too many choices, or more than 256 combinations. Memory says nothing.
abbrev pub Expands : Matrix → Result (List Pairs) MatrixFault → Type 0
Expands m (Ok cs) = (have_values m.variables ≡ true) × IsFew m × (cs ≡ combos m) × (0 < length cs) × (length cs ≤ 256)
Expands m (Err EmptyVariable) = have_values m.variables ≡ false
Expands m (Err NoCombination) = (have_values m.variables ≡ true) × IsFew m × (combos m ≡ [])
Expands m (Err TooMany) = (have_values m.variables ≡ true) × ((65536 < size m.variables) ⊎ (IsFew m × (256 < length (combos m))))
Expands m (Err Memory) = Unit {0}

-- The originals, or there are more than 256 of them. Memory says nothing.
abbrev pub FindsOriginals : Matrix → Result (List Pairs) MatrixFault → Type 0
FindsOriginals m (Ok os) = os ≡ originals m
FindsOriginals m (Err EmptyVariable) = ⊥
FindsOriginals m (Err NoCombination) = ⊥
FindsOriginals m (Err TooMany) = 256 < length (originals m)
FindsOriginals m (Err Memory) = Unit {0}
