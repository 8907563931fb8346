-- The places of ids, kept to be looked up. For this crate's own use.
use Rattle.std.specs.Prelude.{◌≡◌, ℕ, suc, List, [], ◌∷◌, String, Option, Some, None, if◌then◌else◌}
use Rattle.std.specs.declared.alloc.Global.{Global}
use Rattle.std.specs.Option.{option_or}
use Rattle.std.specs.HashMap.{get_by_text}
use Rattle.std.specs.Str.{bytes_eq}
use Rattle.indexmap.specs.IndexMap.{IndexMap}

-- the place, counted from `place` on, at which an id stands first, if it is one of these
abbrev pub first_place : ℕ → List (List ℕ) → List ℕ → Option ℕ
first_place place [] id = None
first_place place (other ∷ ids) id = if bytes_eq id other then Some place else first_place (suc place) ids id

-- the index has for each id the place at which it stands first
unfoldable pub Indexes : {S : Type 0} → List (List ℕ) → IndexMap (String Global) ℕ S → Type 0
Indexes ids index = (id : List ℕ) → get_by_text index id ≡ first_place 0 ids id

-- an id that has no place yet has this one now
unfoldable pub Notes : {S : Type 0} → List ℕ → ℕ → IndexMap (String Global) ℕ S → IndexMap (String Global) ℕ S → Type 0
Notes id place old new = (other : List ℕ) → get_by_text new other ≡ option_or (get_by_text old other) (first_place place (id ∷ []) other)
