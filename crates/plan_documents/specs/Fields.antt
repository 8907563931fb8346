-- The members of an object, in the order of a list of keys.
use Rattle.std.specs.Prelude.{ℕ, List, [], ◌∷◌, Err}
use Rattle.serde_json.specs.Data.{Data, Members, put}
use Rattle.plan_documents.specs.Parts.{Reading, field}

-- the member at the first key, and the others at the other keys
abbrev pub at_keys : {A B : Type 0} → (Data → Reading A) → (List (List ℕ) → Members → Reading B) → List (List ℕ) → Members → Reading (A × B)
at_keys of rest [] ms = Err []
at_keys of rest (key ∷ keys) ms = field key of (rest keys) ms

-- a part's document at the first key, and the others' at the other keys
abbrev pub documents_at : {A B : Type 0} → (A → Data) → (List (List ℕ) → B → List (List ℕ × Data)) → List (List ℕ) → A × B → List (List ℕ × Data)
documents_at of rest [] parts = []
documents_at of rest (key ∷ keys) parts = (key, of parts.0) ∷ rest keys parts.1

-- an object's members, after these were put into it one after the other
abbrev pub put_each : List (List ℕ × Data) → Members → Members
put_each [] found = found
put_each (p ∷ ps) found = put_each ps (put p.0 p.1 found)
