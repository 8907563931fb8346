-- An outline: JSON as it is spelled, before it is turned to data.
use Rattle.std.specs.Prelude.{◌≡◌, List, map, Some}
use Rattle.json.specs.Json as json
use Rattle.serde_json.specs.Data.{Data, Members, no_members}
use Rattle.serde_json.specs.Read.{of_json, of_members}

-- it stands for this data
abbrev pub StandsFor : json.Json → Data → Type 0
StandsFor j d = of_json j ≡ Some d

-- each outline stands for the data at its place
abbrev pub EachStandsFor : {A B : Type 0} → (A → json.Json) → (B → Data) → List A → List B → Type 0
EachStandsFor outline data_of xs ys = map (λ x. of_json (outline x)) xs ≡ map (λ y. Some (data_of y)) ys

-- the members of an object stand for these
abbrev pub MembersStandFor : json.Members → Members → Type 0
MembersStandFor js ds = of_members js no_members ≡ Some ds
