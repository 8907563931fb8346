-- The combinations of a matrix (GitHub Docs, workflow syntax: `strategy.matrix`).
use Rattle.std.specs.Prelude.{◌==◌, ◌++◌, ℕ, Bool, false, not, ◌&&◌, List, [], ◌∷◌, map, length, Option, Some, None, if◌then◌else◌}
use Rattle.std.specs.List.{filter, flat_map, list_all, list_any}
use Rattle.flow_model.specs.Mapping.{value_at, with_pair}
use Rattle.flow_model.specs.Plain.{Plain}
use Rattle.flow_model.specs.declared.plan.Matrix.{Matrix}
use Rattle.matrix_expand.specs.Same.{is_same}

-- names with a value each, in the byte order of the names: a combination, or what an entry names
abbrev pub Pairs : Type 0
Pairs = List (List ℕ × Plain)

-- variables with the values that they take
abbrev pub Variables : Type 0
Variables = List (List ℕ × List Plain)

-- a value for each variable, in every way, with the choices of the first variable outermost
abbrev pub product : Variables → List Pairs
product [] = [] ∷ []
product (v ∷ vs) = flat_map (λ x. map (λ c. (v.0, x) ∷ c) (product vs)) v.1

-- whether this is the value that is there
abbrev pub is_value : Plain → Option Plain → Bool
is_value x None = false
is_value x (Some y) = is_same x y

-- whether another value is there
abbrev pub is_other : Plain → Option Plain → Bool
is_other x None = false
is_other x (Some y) = not (is_same x y)

-- whether there is a pair
abbrev pub is_there : Pairs → Bool
is_there pairs = not (length pairs == 0)

-- whether all of an entry's pairs stand in a combination
abbrev pub stands_in : Pairs → Pairs → Bool
stands_in e c = list_all (λ p. is_value p.1 (value_at p.0 c)) e

-- whether an entry takes a combination out: it has pairs, and all of them stand there
unfoldable pub takes_out : Pairs → Pairs → Bool
takes_out c e = is_there e && stands_in e c

-- whether a choice is an original combination: it has a variable, and no exclude takes it out
unfoldable pub is_original : List Pairs → Pairs → Bool
is_original excludes c = is_there c && not (list_any (takes_out c) excludes)

-- the original combinations: the choices that no exclude takes out, where there is a variable
abbrev pub originals : Matrix → List Pairs
originals m = filter (is_original m.exclude) (product m.variables)

-- whether an entry gives a variable of the original another value
abbrev pub contradicts : Pairs → Pairs → Bool
contradicts o e = list_any (λ p. is_other p.1 (value_at p.0 o)) e

-- a combination with an entry's values set in it
abbrev pub laid_over : Pairs → Pairs → Pairs
laid_over [] c = c
laid_over (p ∷ ps) c = laid_over ps (with_pair p.0 p.1 c)

-- what has become of an original, with each of these entries in turn that does not contradict the original
abbrev pub overlaid : List Pairs → Pairs → Pairs → Pairs
overlaid [] o c = c
overlaid (e ∷ es) o c = overlaid es o (if contradicts o e then c else laid_over e c)

-- whether an entry makes a combination of its own: it has pairs, and contradicts every original
unfoldable pub stands_alone : List Pairs → Pairs → Bool
stands_alone os e = is_there e && list_all (λ o. contradicts o e) os

-- the combinations: each original under the includes that fit it, then the includes that fit none
abbrev pub combos : Matrix → List Pairs
combos m = map (λ o. overlaid m.include o o) (originals m) ++ filter (stands_alone (originals m)) m.include
